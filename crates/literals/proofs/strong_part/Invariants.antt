-- `literals::strong_part` meets its contract. Assumes nothing.
use Rattle.literals.proofs.RunLaws.{Passed}
use Rattle.std.proofs.Common.{length, ◌-◌}
use Rattle.literals.proofs.strong_part.Given as goal

abbrev pub invariant-loop-at : goal.invariant-loop-at
invariant-loop-at l = Passed l.run l.at

abbrev pub decreases-loop-at : goal.decreases-loop-at
decreases-loop-at l = length l.run - l.at
