-- The mirror of what is left and what is written behind are the mirror of all. Assumes nothing.
use Rattle.std.proofs.Common.{length}
use Rattle.mirror.proofs.MirrorTurns as law
use Rattle.mirror.proofs.mirror_words.Given as goal

abbrev pub invariant-loop-w : goal.invariant-loop-w
invariant-loop-w l = law.ItemsLeft l.words l.out l.ns

abbrev pub decreases-loop-w : goal.decreases-loop-w
decreases-loop-w l = length l.ns
