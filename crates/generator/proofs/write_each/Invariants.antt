-- `generator::write_each` meets its contract. Assumes nothing.
use Rattle.entries.specs.Words.{tokens_in}
use Rattle.generator.proofs.OutputLaws as law
use Rattle.generator.proofs.write_each.Given as goal

abbrev pub invariant-loop-k : goal.invariant-loop-k
invariant-loop-k l = law.Part (tokens_in l.ws) l.k l.at l.initial.bytes l.initial.lengths l.bytes l.lengths
