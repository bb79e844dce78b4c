-- `entries::plain_lists` meets its contract. Assumes nothing.
use Rattle.std.proofs.Common.{◌≡◌}
use Rattle.def_picking.specs.Literals.{plain_lists}
use Rattle.entries.specs.Words.{lists_in}
use Rattle.entries.proofs.plain_lists.Given as goal

abbrev pub invariant-loop-list : goal.invariant-loop-list
invariant-loop-list l =
    (goal.iterator-loop-list).can_next l.list-iterator × (goal.iterator-loop-list).is_finite l.list-iterator
    × (plain_lists (lists_in l.ws) ≡ plain_lists (lists_in l.list-iterator.words.now))
