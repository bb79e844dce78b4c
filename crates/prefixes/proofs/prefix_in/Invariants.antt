-- `prefixes::prefix_in` meets its contract. Assumes nothing.
use Rattle.std.proofs.Common.{◌≡◌, ◌≤◌}
use Rattle.def_meaning.specs.Limits.{literal_limit}
use Rattle.def_picking.specs.Numbers.{count_in, prefix_in}
use Rattle.entries.specs.Words.{lists_in}
use Rattle.prefixes.proofs.prefix_in.Given as goal

abbrev pub invariant-loop-list : goal.invariant-loop-list
invariant-loop-list l =
    (goal.iterator-loop-list).can_next l.list-iterator × (goal.iterator-loop-list).is_finite l.list-iterator
    × (count_in (lists_in l.list-iterator.words.now) ≤ literal_limit)
    × (prefix_in (lists_in l.ls) l.p l.q ≡ prefix_in (lists_in l.list-iterator.words.now) l.p l.left)
