-- `emit::add_lists` meets its contract. Assumes nothing.
use Rattle.emit.proofs.BranchLaws as law
use Rattle.emit.proofs.add_lists.Given as goal

abbrev pub invariant-loop-l : goal.invariant-loop-l
invariant-loop-l l = law.Left l.backwards l.lists l.entries l.initial.out l.out l.x l.n l._l l.long
