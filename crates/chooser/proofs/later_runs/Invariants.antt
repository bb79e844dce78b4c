-- `chooser::later_runs` meets its contract. Assumes nothing.
use Rattle.std.proofs.Common.{length, ◌-◌}
use Rattle.chooser.proofs.RunsLaws as run
use Rattle.chooser.proofs.later_runs.Given as goal

abbrev pub invariant-loop-at : goal.invariant-loop-at
invariant-loop-at l = run.Asked l.ws l.first l.at l.top

abbrev pub decreases-loop-at : goal.decreases-loop-at
decreases-loop-at l = length l.ws - l.at
