-- `emit::add_tokens` meets its contract. Assumes nothing.
use Rattle.emit.proofs.TokensLaws as law
use Rattle.emit.proofs.add_tokens.Given as goal

abbrev pub invariant-loop-k : goal.invariant-loop-k
invariant-loop-k l = law.Done l.backwards l.tokens l.starts l.initial.out l.out l.written.count l.written.last l.written.long l.k
