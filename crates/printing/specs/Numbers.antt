-- Numbers as text. Assumes nothing: these are definitions.
-- To be believed: `digit` `hex_of` `value_after` `Decimal`.
use Rattle.std.specs.Prelude.{◌≡◌, cond, List, [], ◌∷◌, ◌++◌, ℕ, zero, suc, ◌+◌, ◌-◌, ◌*◌, ◌/◌, ◌%◌, ◌≤◌, ◌<◌, ltb, length, get_or}
use Prim.Native.Char.{code}

-- the digit of a number below 16: 0 to 9, then A to F
unfoldable pub digit : ℕ → ℕ
digit d = cond (ltb d 10) (code "0" + d) ((code "A" - 10) + d)

-- a byte by two hexadecimal digits
unfoldable pub hex_of : ℕ → List ℕ
hex_of b = digit (b / 16) ∷ digit (b % 16) ∷ []

-- a number's decimal digits, the most significant first; f bounds their count
unfoldable pub digits_in : ℕ → ℕ → List ℕ
digits_in zero n = []
digits_in (suc f) n = cond (ltb n 10) (digit n ∷ []) (digits_in f (n / 10) ++ (digit (n % 10) ∷ []))

-- in full (proofs/NumberLaws.antt, `decimal_right` and `decimal_only`: it is Decimal, and nothing else is)
unfoldable pub decimal_of : ℕ → List ℕ
decimal_of n = digits_in (suc n) n

-- what a run of decimal digits says, after digits that said `a`
unfoldable pub value_after : ℕ → List ℕ → ℕ
value_after a [] = a
value_after a (d ∷ ds) = value_after (10 * a + (d - code "0")) ds

-- ds are the decimal digits of n, with no zero in front but that of 0 itself
pub record Decimal (n : ℕ) (ds : List ℕ) : Type 0 where
  pub says : value_after 0 ds ≡ n
  pub digits : (i : ℕ) → i < length ds → (code "0" ≤ get_or ds i (code "0")) × (get_or ds i (code "0") ≤ code "9")
  pub nonempty : 1 ≤ length ds
  pub front : 2 ≤ length ds → code "1" ≤ get_or ds 0 (code "0")
