-- `tallies::count_list` meets its contract. Assumes nothing.
use Rattle.std.proofs.Common.{◌≡◌, ◌*◌, ◌≤◌, min, length}
use Rattle.def_picking.specs.Numbers.{count}
use Rattle.entries.specs.Words.{branch_in}
use Rattle.tallies.specs.Tallies.{count_top}
use Rattle.tallies.proofs.count_list.Given as goal

abbrev pub invariant-loop-words : goal.invariant-loop-words
invariant-loop-words l =
    (l.n ≤ count_top) × (min count_top (count (branch_in l.ws)) ≡ min count_top (l.n * count (branch_in l.left)))

abbrev pub decreases-loop-words : goal.decreases-loop-words
decreases-loop-words l = length l.left
