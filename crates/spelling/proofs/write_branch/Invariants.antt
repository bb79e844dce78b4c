-- `spelling::write_branch` meets its contract. Assumes nothing.
use Rattle.std.proofs.Common.{◌≡◌, ◌≤◌}
use Rattle.def_meaning.specs.Limits.{literal_limit}
use Rattle.def_picking.specs.Numbers.{count_in, ending_in}
use Rattle.entries.specs.Words.{lists_in}
use Rattle.spelling.proofs.write_branch.Given as goal

abbrev pub invariant-loop-list : goal.invariant-loop-list
invariant-loop-list l =
    (goal.iterator-loop-list).can_next l.list-iterator × (goal.iterator-loop-list).is_finite l.list-iterator
    × (l.dst ≡ l.initial.dst) × (count_in (lists_in l.list-iterator.words.now) ≤ literal_limit)
    × (ending_in (lists_in l.ls) l.p l.q ≡ ending_in (lists_in l.list-iterator.words.now) l.p l.left)
