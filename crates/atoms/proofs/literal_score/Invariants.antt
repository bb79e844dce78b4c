-- The invariant: `best` is the highest score of the windows passed, and what is left to pass is the literal's end.
use Rattle.std.proofs.Common.{◌≡◌}
use Rattle.atoms.proofs.Laws.{Passed}
use Rattle.atoms.proofs.literal_score.Given as goal

abbrev pub invariant-loop-atom : goal.invariant-loop-atom
invariant-loop-atom l = (l.atom-iterator.size ≡ 4) × Passed l.lit l.atom-iterator.rest.now l.best
