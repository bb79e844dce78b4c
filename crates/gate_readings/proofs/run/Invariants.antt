-- Each text begins after the end of the one before it.
use Rattle.std.proofs.Common.{length}
use Rattle.gate_readings.proofs.run.Given as goal

abbrev pub decreases-loop-text : goal.decreases-loop-text
decreases-loop-text g l = length l.rest
