-- The test of a class, and numbers with a gap. Assumes nothing: these are definitions.
-- To be believed: nothing.
use Rattle.std.specs.Prelude.{Bool, false, cond, not, ℕ, ◌+◌, ◌/◌, ◌%◌, eqb, ltb}
use Rattle.def_meaning.specs.Tokens.{left, right, all, Token, Byte, NotByte, MaskedByte, NotMaskedByte, Jump, Alternatives}

-- what a byte passes to be a member
unfoldable pub passes : Token → ℕ → Bool
passes (Byte v) b = false
passes (NotByte v) b = not (eqb b v)
passes (MaskedByte v left) b = eqb (b % 16) v
passes (MaskedByte v right) b = eqb (b / 16) v
passes (MaskedByte v all) b = false
passes (NotMaskedByte v left) b = not (eqb (b % 16) v)
passes (NotMaskedByte v right) b = not (eqb (b / 16) v)
passes (NotMaskedByte v all) b = false
passes (Jump from to) b = false
passes (Alternatives ls) b = false

-- number j of the numbers 0, 1 and so on that are left if `gap` of them are left out from `from` on
unfoldable pub gapped : ℕ → ℕ → ℕ → ℕ
gapped j from gap = cond (ltb j from) j (j + gap)
