-- `runs::run_words` meets its contract. Assumes nothing.
use Rattle.std.proofs.Common.{◌≡◌, ◌+◌, ◌-◌, ◌≤◌, length}
use Rattle.runs.specs.Whole.{run_end}
use Rattle.runs.proofs.run_words.Given as goal

abbrev pub invariant-loop-token : goal.invariant-loop-token
invariant-loop-token l = (l.left ≡ length l.tokens.words.now) × (l.left ≤ length l.ws) × (run_end l.ws ≡ (length l.ws - l.left) + run_end l.tokens.words.now)

abbrev pub decreases-loop-token : goal.decreases-loop-token
decreases-loop-token l = length l.tokens.words.now
