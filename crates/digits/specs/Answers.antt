-- What the small readers' answers say, in the terms of reading. Assumes nothing: these are definitions.
-- To be believed: nothing.
use Rattle.std.proofs.Math.Option as meant-option
use Rattle.std.specs.Prelude.{ℕ, List, Option, Some, None, Result, Ok, Err}
use Rattle.base.specs.declared.Refusal.TheVariants.{NumberTooBig}
use Rattle.base.specs.declared.Refused.{Refused}
use Rattle.def_meaning.specs.Tokens as meant
use Rattle.def_reading.specs.Blanks.{skip}
use Rattle.def_reading.specs.Pieces.{Seen, found, absent, refused, Hex, whole, masked, Range, between}
use Rattle.digits.specs.declared.Mask.{Mask}
use Rattle.digits.specs.declared.Mask.TheVariants.{Left, Right, All}
use Rattle.digits.specs.declared.HexByte.{HexByte}
use Rattle.digits.specs.declared.HexByte.TheVariants.{Whole, Masked}
use Rattle.digits.specs.declared.Leaf.{Leaf}
use Rattle.digits.specs.declared.Leaf.TheVariants.{Byte, NotByte, MaskedByte, NotMaskedByte, Jump, OpenJump}
use Rattle.digits.specs.declared.Read.{Read}
use Rattle.digits.specs.declared.TooBig.{TooBig}
use Rattle.digits.specs.declared.Bounds.{Bounds}

abbrev pub value_of : Option ℕ → meant-option.Option ℕ
value_of (Some v) = meant-option.some v
value_of None = meant-option.none

abbrev pub mask_of : Mask → meant.Mask
mask_of Left = meant.left
mask_of Right = meant.right
mask_of All = meant.all

abbrev pub hex_of : HexByte → Hex
hex_of (Whole v) = whole v
hex_of (Masked v m) = masked v (mask_of m)

-- what is read up to `stop`, where blanks may follow
abbrev pub ending : {A : Type 0} → List ℕ → A → ℕ → Read A
ending t v stop = record { value = v; stop = stop; end = skip t stop }

abbrev pub spelled : Option (Read HexByte) → Seen Hex
spelled (Some r) = found (hex_of r.value) r.stop r.end
spelled None = absent

abbrev pub token_of : Leaf → meant.Token
token_of (Byte v) = meant.Byte v
token_of (NotByte v) = meant.NotByte v
token_of (MaskedByte v m) = meant.MaskedByte v (mask_of m)
token_of (NotMaskedByte v m) = meant.NotMaskedByte v (mask_of m)
token_of (Jump from to) = meant.Jump from (meant-option.some to)
token_of (OpenJump from) = meant.Jump from meant-option.none

-- what was read, as a value of reading's
abbrev pub seen : {A B : Type 0} → (A → B) → Result (Option (Read A)) Refused → Seen B
seen f (Ok (Some r)) = found (f r.value) r.stop r.end
seen f (Ok None) = absent
seen f (Err x) = refused x.why x.place

abbrev pub leaf_seen : Result (Option (Read Leaf)) Refused → Seen meant.Token
leaf_seen r = seen token_of r

-- a number that begins at `at`
abbrev pub numbered : ℕ → Result (Option (Read ℕ)) TooBig → Seen ℕ
numbered at (Ok (Some r)) = found r.value r.stop r.end
numbered at (Ok None) = absent
numbered at (Err x) = refused NumberTooBig at

-- the same, once it is known where it begins
abbrev pub bounded : Result (Option (Read ℕ)) Refused → Seen ℕ
bounded r = seen (λ n. n) r

abbrev pub range_of : Bounds → Range
range_of b = between b.from (value_of b.to)

abbrev pub ranged : Result (Option (Read Bounds)) Refused → Seen Range
ranged r = seen range_of r
