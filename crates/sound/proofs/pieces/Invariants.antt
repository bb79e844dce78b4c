-- The answer for all words is the answer for those that are left. Assumes nothing.
use Rattle.std.proofs.Common.{◌≡◌, Bool, List, ℕ, Option, length}
use Rattle.std.specs.Fn.{FnReturnsAt}
use Rattle.sound.specs.Steps.{Steps}
use Rattle.sound.proofs.pieces.Given as goal

abbrev pub invariant-loop-w : goal.invariant-loop-w
invariant-loop-w g l = (test allows : List ℕ → Bool) (tells : ℕ → Option ℕ) → Steps test allows tells → ((w : ℕ) (r : Option ℕ) → goal.I-post g l.inside w r → r ≡ tells w) → ((ws : List ℕ) (r : Bool) → FnReturnsAt g.P.Fn l.part ws r → r ≡ allows ws) → test l.ws ≡ test l.words

abbrev pub decreases-loop-w : goal.decreases-loop-w
decreases-loop-w g l = length l.ws
