-- `entries::plain_alternatives` meets its contract. Assumes nothing.
use Rattle.std.proofs.Common.{◌≡◌}
use Rattle.def_picking.specs.Runs.{plain_alternatives}
use Rattle.entries.specs.Words.{tokens_in}
use Rattle.entries.proofs.plain_alternatives.Given as goal

abbrev pub invariant-loop-token : goal.invariant-loop-token
invariant-loop-token l =
    (goal.iterator-loop-token).can_next l.token-iterator × (goal.iterator-loop-token).is_finite l.token-iterator
    × (plain_alternatives (tokens_in l.ws) ≡ plain_alternatives (tokens_in l.token-iterator.words.now))
