-- A refusal is known by its number. Assumes nothing.
use mathlib.Core.Path.{◌≡◌, refl, sym, ap, ◌∙◌}
use mathlib.Core.Bool.{false, cond}
use Prim.Native.Nat.{ℕ}
use lib.Dec.{eqb}
use Rattle.base.specs.declared.Refusal.{Refusal}
use Rattle.base.specs.declared.Refusal.TheVariants.{TextTooLong, Unexpected, NumberTooBig, JumpEmpty, JumpRangeInvalid, JumpAtBound, JumpUnboundedInAlternation, JumpTooBigInAlternation, CannotNegateMaskAll, HexStringTooDeep, TooManyTokens, NotSimple, TooManyNodes, BranchTooLong, Unsound, BadWindow, TooManyLiterals, NoRoom, NotPlain}
use Rattle.base.specs.Refusals.{number_of}

-- the refusal of a number
refusal_of : ℕ → Refusal
refusal_of n =
    cond (eqb n 1) TextTooLong
    (cond (eqb n 2) Unexpected
    (cond (eqb n 3) NumberTooBig
    (cond (eqb n 4) JumpEmpty
    (cond (eqb n 5) JumpRangeInvalid
    (cond (eqb n 6) JumpAtBound
    (cond (eqb n 7) JumpUnboundedInAlternation
    (cond (eqb n 8) JumpTooBigInAlternation
    (cond (eqb n 9) CannotNegateMaskAll
    (cond (eqb n 10) HexStringTooDeep
    (cond (eqb n 11) TooManyTokens
    (cond (eqb n 12) NotSimple
    (cond (eqb n 13) TooManyNodes
    (cond (eqb n 14) BranchTooLong
    (cond (eqb n 15) Unsound
    (cond (eqb n 16) BadWindow
    (cond (eqb n 17) TooManyLiterals
    (cond (eqb n 18) NoRoom NotPlain)))))))))))))))))

back : (r : Refusal) → refusal_of (number_of r) ≡ r
unfolding refusal_of
back TextTooLong = refl
back Unexpected = refl
back NumberTooBig = refl
back JumpEmpty = refl
back JumpRangeInvalid = refl
back JumpAtBound = refl
back JumpUnboundedInAlternation = refl
back JumpTooBigInAlternation = refl
back CannotNegateMaskAll = refl
back HexStringTooDeep = refl
back TooManyTokens = refl
back NotSimple = refl
back TooManyNodes = refl
back BranchTooLong = refl
back Unsound = refl
back BadWindow = refl
back TooManyLiterals = refl
back NoRoom = refl
back NotPlain = refl

pub number_one : (r s : Refusal) → number_of r ≡ number_of s → r ≡ s
number_one r s e = sym (back r) ∙ ap refusal_of e ∙ back s

-- 0 is no refusal's number, so it can say that there is none
pub number_some : (r : Refusal) → eqb (number_of r) 0 ≡ false
number_some TextTooLong = refl
number_some Unexpected = refl
number_some NumberTooBig = refl
number_some JumpEmpty = refl
number_some JumpRangeInvalid = refl
number_some JumpAtBound = refl
number_some JumpUnboundedInAlternation = refl
number_some JumpTooBigInAlternation = refl
number_some CannotNegateMaskAll = refl
number_some HexStringTooDeep = refl
number_some TooManyTokens = refl
number_some NotSimple = refl
number_some TooManyNodes = refl
number_some BranchTooLong = refl
number_some Unsound = refl
number_some BadWindow = refl
number_some TooManyLiterals = refl
number_some NoRoom = refl
number_some NotPlain = refl
