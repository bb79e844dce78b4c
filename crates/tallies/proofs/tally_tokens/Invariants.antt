-- `tallies::tally_tokens` meets its contract. Assumes nothing.
use Rattle.std.proofs.Common.{◌≡◌, ◌*◌, ◌≤◌, min}
use Rattle.def_picking.specs.Numbers.{count}
use Rattle.def_picking.specs.Literals.{combinations as combinations_all}
use Rattle.entries.specs.Words.{tokens_in}
use Rattle.tallies.specs.Tallies.{count_top}
use Rattle.tallies.proofs.tally_tokens.Given as goal

abbrev pub invariant-loop-token : goal.invariant-loop-token
invariant-loop-token l =
    (goal.iterator-loop-token).can_next l.token-iterator × (goal.iterator-loop-token).is_finite l.token-iterator
    × (l.literals ≤ count_top) × (l.combinations ≤ count_top)
    × (min count_top (count (tokens_in l.ws)) ≡ min count_top (l.literals * count (tokens_in l.token-iterator.words.now)))
    × (min count_top (combinations_all (tokens_in l.ws)) ≡ min count_top (l.combinations * combinations_all (tokens_in l.token-iterator.words.now)))
