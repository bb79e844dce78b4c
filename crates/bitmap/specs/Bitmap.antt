-- The set of bytes that a bitmap of 256 bits holds. Assumes nothing: these are definitions.
-- To be believed: nothing.
use Rattle.std.specs.Prelude.{◌≡◌, Bool, cond, List, [], ◌∷◌, ℕ, zero, suc, ◌+◌, ◌-◌, ◌/◌, ◌%◌, ◌^◌, ◌<◌, eqb, get_or}
use Rattle.bitmap.specs.declared.Bitmap.{Bitmap}

-- bit j of a number is one
unfoldable pub bit : ℕ → ℕ → Bool
bit w j = eqb (w / 2 ^ j % 2) 1

-- b is a member: bit b of the 256, which lie 64 to a word, the lowest first
unfoldable pub has : Bitmap → ℕ → Bool
has m b = bit (get_or m.words (b / 64) 0) (b % 64)

-- of the 256 bytes the bitmap has exactly those that pass the test
abbrev pub Holds : Bitmap → (ℕ → Bool) → Type 0
Holds m p = (b : ℕ) → b < 256 → has m b ≡ p b

-- how many of the numbers below n pass the test
unfoldable pub tally : (ℕ → Bool) → ℕ → ℕ
tally p zero = 0
tally p (suc n) = tally p n + cond (p n) 1 0

-- how many of the 256 bytes are members
unfoldable pub size : Bitmap → ℕ
size m = tally (has m) 256

-- those of the n numbers from v on that pass the test, rising
unfoldable pub rising : (ℕ → Bool) → ℕ → ℕ → List ℕ
rising p v zero = []
rising p v (suc n) = cond (p v) (v ∷ rising p (v + 1) n) (rising p (v + 1) n)

-- the members at or above v, rising
unfoldable pub members_from : Bitmap → ℕ → List ℕ
members_from m v = rising (has m) v (256 - v)

-- all members, rising
unfoldable pub members : Bitmap → List ℕ
members m = members_from m 0
