-- The score of a literal: how rarely its best four successive bytes should turn up by chance. Assumes nothing: these are definitions.
-- To be believed: `atom_len` `among` `common` `byte_score` `atom_score` `atom_at` `IsAtom` `IsScore`.
use Rattle.std.specs.Prelude.{◌≡◌, Bool, true, false, cond, ◌⊎◌, List, [], ◌∷◌, ℕ, zero, suc, ◌+◌, ◌-◌, ◌≤◌, ◌<◌, max, eqb, length, take, drop}

-- how many bytes an atom holds at most
abbrev pub atom_len : ℕ
atom_len = 4

-- b is one of the list
unfoldable pub among : ℕ → List ℕ → Bool
among b [] = false
among b (k ∷ ks) = cond (eqb b k) true (among b ks)

-- the bytes that files are full of
unfoldable pub common : List ℕ
common = 0x00 ∷ 0x20 ∷ 0x90 ∷ 0xCC ∷ 0xFF ∷ []

-- a common byte scores 10, any other 20
unfoldable pub byte_score : ℕ → ℕ
byte_score b = cond (among b common) 10 20

-- an atom, at most four successive bytes, scores the sum of its bytes
unfoldable pub atom_score : List ℕ → ℕ
atom_score [] = 0
atom_score (b ∷ bs) = byte_score b + atom_score bs

-- the atom that starts at an offset: the next four bytes, or all that are left
abbrev pub atom_at : ℕ → List ℕ → List ℕ
atom_at a l = take atom_len (drop a l)

-- the highest score of the atoms that start at the offsets 0 to n
unfoldable pub highest : ℕ → List ℕ → ℕ
highest zero l = atom_score (atom_at 0 l)
highest (suc n) l = max (highest n l) (atom_score (atom_at (suc n) l))

-- a literal scores its best atom; the last one starts four bytes before the end, and a literal shorter than four is its own only atom
unfoldable pub literal_score : List ℕ → ℕ
literal_score l = highest (length l - atom_len) l

-- w is four successive bytes of l, or all of l if that is shorter
abbrev pub IsAtom : List ℕ → List ℕ → Type 0
IsAtom w l = ((a : ℕ) × (a + atom_len ≤ length l) × (w ≡ atom_at a l)) ⊎ ((length l < atom_len) × (w ≡ l))

-- what a score has to be: that of some atom, and no atom has more. proofs/Laws.antt: literal_score is this, and this leaves one number
pub record IsScore (l : List ℕ) (n : ℕ) : Type 0 where
  pub some_atom : (w : List ℕ) × IsAtom w l × (atom_score w ≡ n)
  pub no_better : (w : List ℕ) → IsAtom w l → atom_score w ≤ n
