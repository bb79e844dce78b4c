-- `literals::longer_slices` meets its contract. Assumes nothing.
use Rattle.std.proofs.Common.{length, ◌-◌}
use Rattle.picks.specs.Ranks.{pick_says}
use Rattle.literals.proofs.LongerLaws.{Going}
use Rattle.literals.proofs.longer_slices.Given as goal

abbrev pub invariant-loop-top : goal.invariant-loop-top
invariant-loop-top l = Going l.run l.prior l.at l.to l.len (pick_says l.run l.initial.top) (pick_says l.run l.top)

abbrev pub decreases-loop-top : goal.decreases-loop-top
decreases-loop-top l = length l.run - l.to
