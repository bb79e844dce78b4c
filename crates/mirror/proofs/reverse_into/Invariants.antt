-- The last i places hold the first i words, backwards. Assumes nothing.
use Rattle.std.proofs.Common.{◌≡◌, ◌++◌, ◌-◌, reverse, length, take}
use Rattle.mirror.proofs.reverse_into.Given as goal

abbrev pub invariant-loop-i : goal.invariant-loop-i
invariant-loop-i l = (length l.dst ≡ length l.src) × (l.dst ≡ take (length l.src - l.i) l.initial.dst ++ reverse (take l.i l.src))
