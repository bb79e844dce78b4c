-- `tallies::shortest_of` meets its contract. Assumes nothing.
use Rattle.std.proofs.Common.{◌≡◌, ◌≤◌, length}
use Rattle.def_picking.specs.Literals.{shortest, shorter}
use Rattle.entries.specs.Words.{lists_in}
use Rattle.tallies.proofs.shortest_of.Given as goal

abbrev pub invariant-loop-list : goal.invariant-loop-list
invariant-loop-list l =
    (goal.iterator-loop-list).can_next l.list-iterator × (goal.iterator-loop-list).is_finite l.list-iterator
    × (l.n ≤ length l.ws) × (shortest (lists_in l.ws) ≡ shorter (lists_in l.list-iterator.words.now) l.n)
