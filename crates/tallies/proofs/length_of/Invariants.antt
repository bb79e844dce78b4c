-- `tallies::length_of` meets its contract. Assumes nothing.
use Rattle.std.proofs.Common.{◌≡◌, ◌+◌, ◌≤◌, length}
use Rattle.def_picking.specs.Literals.{length_in}
use Rattle.entries.specs.Words.{tokens_in}
use Rattle.tallies.proofs.length_of.Given as goal

abbrev pub invariant-loop-token : goal.invariant-loop-token
invariant-loop-token l =
    (goal.iterator-loop-token).can_next l.token-iterator × (goal.iterator-loop-token).is_finite l.token-iterator
    × (l.n + length l.token-iterator.words.now ≤ length l.ws)
    × (length_in (tokens_in l.ws) ≡ l.n + length_in (tokens_in l.token-iterator.words.now))
