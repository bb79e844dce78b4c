-- `compiler::find_starts` meets its contract. Assumes nothing.
use Rattle.compiler.proofs.WalkLaws as law
use Rattle.def_meaning.specs.Entries.{entries}
use Rattle.def_meaning.specs.Tokens.{Tokens}
use Rattle.std.proofs.Common.{length, ◌-◌, ◌≡◌}
use Rattle.compiler.proofs.find_starts.Given as goal

abbrev pub invariant-loop-at : goal.invariant-loop-at
invariant-loop-at l = (length l.starts ≡ length l.initial.starts) × ((ts : Tokens) → l.ws ≡ entries ts → law.Marked l.ws l.initial.starts l.starts l.at l.n ts)

abbrev pub decreases-loop-at : goal.decreases-loop-at
decreases-loop-at l = length l.ws - l.at
