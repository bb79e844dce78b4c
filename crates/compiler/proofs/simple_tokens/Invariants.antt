-- `compiler::simple_tokens` meets its contract. Assumes nothing.
use Rattle.compiler.proofs.WalkLaws as law
use Rattle.def_meaning.specs.Entries.{entries}
use Rattle.def_meaning.specs.Tokens.{Tokens}
use Rattle.std.proofs.Common.{length, ◌-◌, ◌≡◌}
use Rattle.compiler.proofs.simple_tokens.Given as goal

abbrev pub invariant-loop-at : goal.invariant-loop-at
invariant-loop-at l = (ts : Tokens) → l.ws ≡ entries ts → law.Walked l.ws l.at ts

abbrev pub decreases-loop-at : goal.decreases-loop-at
decreases-loop-at l = length l.ws - l.at
