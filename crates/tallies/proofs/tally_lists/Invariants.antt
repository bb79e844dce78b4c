-- `tallies::tally_lists` meets its contract. Assumes nothing.
use Rattle.std.proofs.Common.{◌≡◌, ◌+◌, ◌*◌, ◌≤◌, min}
use Rattle.def_picking.specs.Numbers.{count_in}
use Rattle.def_picking.specs.Literals.{combinations_in}
use Rattle.entries.specs.Words.{lists_in}
use Rattle.tallies.specs.Tallies.{count_top}
use Rattle.tallies.proofs.tally_lists.Given as goal

abbrev pub invariant-loop-list : goal.invariant-loop-list
invariant-loop-list l =
    (goal.iterator-loop-list).can_next l.list-iterator × (goal.iterator-loop-list).is_finite l.list-iterator
    × (l.literals ≤ count_top) × (l.combinations ≤ count_top)
    × (min count_top (count_in (lists_in l.ws)) ≡ min count_top (l.literals + count_in (lists_in l.list-iterator.words.now)))
    × (min count_top (combinations_in (lists_in l.ws)) ≡ min count_top (l.combinations * combinations_in (lists_in l.list-iterator.words.now)))
