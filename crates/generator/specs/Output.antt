-- What is left in the lent buffers once literals are written. Assumes nothing: these are definitions.
-- To be believed: `over`.
use Rattle.std.specs.Prelude.{◌≡◌, Bool, cond, ◌&&◌, ℕ, leb, length, drop, List, ◌++◌, Result, Ok, Err}
use mathlib.Core.List.{map, flatten}
use Rattle.base.specs.declared.Refusal.{Refusal}
use Rattle.base.specs.declared.Refusal.TheVariants.{NoRoom}

-- what is written stands at the front, and what isn't written stays
abbrev pub over : List ℕ → List ℕ → List ℕ
over new old = new ++ drop (length new) old

-- the bytes of literals, one after another, and the length of each fit
unfoldable pub fits : List (List ℕ) → List ℕ → List ℕ → Bool
fits ls bytes lengths = leb (length ls) (length lengths) && leb (length (flatten ls)) (length bytes)

-- the answer, and what each buffer holds after it: all literals, or what was there
unfoldable pub answered : List (List ℕ) → List ℕ → List ℕ → Result ℕ Refusal
answered ls bytes lengths = cond (fits ls bytes lengths) (Ok (length ls)) (Err NoRoom)

unfoldable pub bytes_left : List (List ℕ) → List ℕ → List ℕ → List ℕ
bytes_left ls bytes lengths = cond (fits ls bytes lengths) (over (flatten ls) bytes) bytes

unfoldable pub lengths_left : List (List ℕ) → List ℕ → List ℕ → List ℕ
lengths_left ls bytes lengths = cond (fits ls bytes lengths) (over (map length ls) lengths) lengths

-- a call that answers and leaves just that
pub record Generated (ls : List (List ℕ)) (r : Result ℕ Refusal) (bytes lengths bytes_after lengths-after : List ℕ) : Type 0 where
  pub answer_is : r ≡ answered ls bytes lengths
  pub bytes_are : bytes_after ≡ bytes_left ls bytes lengths
  pub lengths_are : lengths-after ≡ lengths_left ls bytes lengths
