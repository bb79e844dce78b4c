-- The small readers: bytes, masked bytes, numbers, jumps. Assumes nothing: these are definitions.
-- To be believed: nothing.
use Rattle.std.specs.Prelude.{Bool, cond, ◌&&◌, List, [], ◌∷◌, ℕ, suc, ◌+◌, ◌-◌, ◌*◌, eqb, leb, ltb, drop}
use Rattle.std.proofs.Math.Option.{Option, none, some}
use Prim.Native.Char.{code}
use Rattle.base.specs.declared.Refusal.{Refusal}
use Rattle.base.specs.declared.Refusal.TheVariants.{Unexpected, NumberTooBig, JumpEmpty, JumpRangeInvalid, JumpUnboundedInAlternation, JumpTooBigInAlternation, CannotNegateMaskAll}
use Rattle.def_meaning.specs.Limits.{number_limit, inner_jump_limit}
use Rattle.def_meaning.specs.Tokens.{Mask, left, right, all, Token, Byte, NotByte, MaskedByte, NotMaskedByte, Jump}
use Rattle.def_reading.specs.Blanks.{here, skip}

-- what a small reader answers: what it found, the offset where that stopped (nothing here needs it yet: an editor that underlines
-- a fault will) and the one after the blanks there;
-- nothing of its kind; or a refusal and its place
pub data Seen (A : Type 0) : Type 0 where
  found : A → ℕ → ℕ → Seen A
  absent : Seen A
  refused : Refusal → ℕ → Seen A

-- found, and blanks may follow
abbrev pub up_to : {A : Type 0} → List ℕ → A → ℕ → Seen A
up_to t v stop = found v stop (skip t stop)

-- the first, unless it is absent
infixr 40 ◌else◌
unfoldable pub ◌else◌ : {A : Type 0} → Seen A → Seen A → Seen A
found v s e else y = found v s e
absent else y = y
refused r p else y = refused r p

unfoldable pub within : ℕ → ℕ → ℕ → Bool
within a b c = leb a c && leb c b

-- the value of a hexadecimal digit, in either case
unfoldable pub digit : ℕ → Option ℕ
digit c = cond (within (code "0") (code "9") c) (some (c - code "0")) (cond (within (code "A") (code "F") c) (some (c - (code "A" - 10))) (cond (within (code "a") (code "f") c) (some (c - (code "a" - 10))) none))

-- a byte as it is spelled, whole or masked: `AB`; `?X`, `X?`, `??`
pub data Hex : Type 0 where
  whole : ℕ → Hex
  masked : ℕ → Mask → Hex

unfoldable pub two_digits : List ℕ → ℕ → Option ℕ → Option ℕ → Seen Hex
two_digits t at (some high) (some low) = up_to t (whole (16 * high + low)) (at + 2)
two_digits t at (some high) none = absent
two_digits t at none low = absent

-- a byte: two digits with nothing between them
unfoldable pub byte_at : List ℕ → ℕ → Seen Hex
byte_at t at = two_digits t at (digit (here t at)) (digit (here t (at + 1)))

unfoldable pub one_digit : List ℕ → ℕ → Mask → Option ℕ → Seen Hex
one_digit t at m (some v) = up_to t (masked v m) (at + 2)
one_digit t at m none = absent

-- a masked byte: `??`, `?X` or `X?`
unfoldable pub masked_at : List ℕ → ℕ → Seen Hex
masked_at t at =
    cond (eqb (here t at) (code "?"))
    (cond (eqb (here t (at + 1)) (code "?")) (up_to t (masked 0 all) (at + 2)) (one_digit t at left (digit (here t (at + 1)))))
    (cond (eqb (here t (at + 1)) (code "?")) (one_digit t at right (digit (here t at))) absent)

unfoldable pub hex_at : List ℕ → ℕ → Seen Hex
hex_at t at = byte_at t at else masked_at t at

unfoldable pub hex_token : Seen Hex → Seen Token
hex_token (found (whole v) s e) = found (Byte v) s e
hex_token (found (masked v m) s e) = found (MaskedByte v m) s e
hex_token absent = absent
hex_token (refused r p) = refused r p

-- after a `~` at `at`: `~??` is refused at the `~`; what else goes wrong is missed at the next byte
unfoldable pub negated : ℕ → Seen Hex → Seen Token
negated at (found (whole v) s e) = found (NotByte v) s e
negated at (found (masked v left) s e) = found (NotMaskedByte v left) s e
negated at (found (masked v right) s e) = found (NotMaskedByte v right) s e
negated at (found (masked v all) s e) = refused CannotNegateMaskAll at
negated at absent = refused Unexpected (at + 1)
negated at (refused r p) = refused r p

unfoldable pub not_at : List ℕ → ℕ → Seen Token
not_at t at = cond (eqb (here t at) (code "~")) (negated at (hex_at t (at + 1))) absent

abbrev pub decimal : ℕ → Bool
decimal c = within (code "0") (code "9") c

-- how many decimal digits stand at the front
unfoldable pub decimals : List ℕ → ℕ
decimals [] = 0
decimals (c ∷ s) = cond (decimal c) (suc (decimals s)) 0

-- the number that they spell after `n` has been read
unfoldable pub numeral : ℕ → List ℕ → ℕ
numeral n [] = n
numeral n (c ∷ s) = cond (decimal c) (numeral (10 * n + (c - code "0")) s) n

-- a number: one digit or more, any count of leading zeros; above 4,294,967,295 it is refused at its first digit
unfoldable pub number_at : List ℕ → ℕ → Seen ℕ
number_at t at =
    cond (decimal (here t at))
    (cond (leb (numeral 0 (drop at t)) number_limit) (up_to t (numeral 0 (drop at t)) (at + decimals (drop at t))) (refused NumberTooBig at))
    absent

-- a jump's bounds, as spelled
pub data Range : Type 0 where
  between : ℕ → Option ℕ → Range

-- `[0]`, `[0-0]`, `[-0]`, and from above to: refused at the `[`
unfoldable pub checked : List ℕ → ℕ → ℕ → Option ℕ → ℕ → Seen Range
checked t at from none stop = up_to t (between from none) stop
checked t at from (some to) stop =
    cond (eqb from 0 && eqb to 0) (refused JumpEmpty at) (cond (ltb to from) (refused JumpRangeInvalid at) (up_to t (between from (some to)) stop))

unfoldable pub closed_at : List ℕ → ℕ → ℕ → Option ℕ → ℕ → Seen Range
closed_at t at from to x = cond (eqb (here t x) (code "]")) (checked t at from to (x + 1)) absent

-- perhaps a number at `x`, then `]`
unfoldable pub upper_at : List ℕ → ℕ → ℕ → ℕ → Seen ℕ → Seen Range
upper_at t at from x (found n s e) = closed_at t at from (some n) e
upper_at t at from x absent = closed_at t at from none x
upper_at t at from x (refused r p) = refused r p

-- `-`, perhaps a number, `]`
unfoldable pub dash_at : List ℕ → ℕ → ℕ → ℕ → Seen Range
dash_at t at from x = cond (eqb (here t x) (code "-")) (upper_at t at from (skip t (x + 1)) (number_at t (skip t (x + 1)))) absent

-- what follows the `[` at `at`: a number and `]`, or perhaps a number and a dash with what follows it
unfoldable pub lower_at : List ℕ → ℕ → ℕ → Seen ℕ → Seen Range
lower_at t at x (found n s e) = cond (eqb (here t e) (code "]")) (checked t at n (some n) (e + 1)) (dash_at t at n e)
lower_at t at x absent = dash_at t at 0 x
lower_at t at x (refused r p) = refused r p

-- `[n]`, `[a-b]`, `[a-]`, `[-b]`, `[-]`; a badly spelled one is absent
unfoldable pub range_at : List ℕ → ℕ → Seen Range
range_at t at = cond (eqb (here t at) (code "[")) (lower_at t at (skip t (at + 1)) (number_at t (skip t (at + 1)))) absent

-- `[1]` and `[1-1]` become `??`
unfoldable pub jump_token : ℕ → ℕ → Token
jump_token from to = cond (eqb from 1 && eqb to 1) (MaskedByte 0 all) (Jump from (some to))

-- in alternatives a jump has a bound, of at most 200
unfoldable pub jumped : Bool → ℕ → Seen Range → Seen Token
jumped inside at (found (between from none) s e) = cond inside (refused JumpUnboundedInAlternation at) (found (Jump from none) s e)
jumped inside at (found (between from (some to)) s e) = cond (inside && ltb inner_jump_limit to) (refused JumpTooBigInAlternation at) (found (jump_token from to) s e)
jumped inside at absent = absent
jumped inside at (refused r p) = refused r p

-- a leaf, that is a token other than alternatives: `~` token, byte, masked byte, jump
unfoldable pub leaf_at : List ℕ → Bool → ℕ → Seen Token
leaf_at t inside at = not_at t at else (hex_token (hex_at t at) else jumped inside at (range_at t at))
