-- `literals::best_slice` meets its contract. Assumes nothing.
use Rattle.literals.proofs.RunLaws.{Weighed}
use Rattle.std.proofs.Common.{length, ◌-◌}
use Rattle.literals.proofs.best_slice.Given as goal

abbrev pub invariant-loop-at : goal.invariant-loop-at
invariant-loop-at l = Weighed l.run l.prior l.at l.top

abbrev pub decreases-loop-at : goal.decreases-loop-at
decreases-loop-at l = length l.run - l.at
