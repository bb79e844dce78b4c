-- What is written in front and the mirror of what is left are the mirror of all. Assumes nothing.
use Rattle.std.proofs.Common.{length}
use Rattle.mirror.proofs.MirrorTurns as law
use Rattle.mirror.proofs.mirror_branches.Given as goal

abbrev pub invariant-loop-w : goal.invariant-loop-w
invariant-loop-w l = law.BranchesLeft l.alts l.out l.bs

abbrev pub decreases-loop-w : goal.decreases-loop-w
decreases-loop-w l = length l.bs
