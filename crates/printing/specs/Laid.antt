-- Bytes laid into a lent buffer, as far as it reaches. Assumes nothing: these are definitions.
-- To be believed: nothing.
use Rattle.std.specs.Prelude.{◌≡◌, List, [], ◌∷◌, ℕ, ◌+◌, length, set}

-- the buffer p with the bytes bs in it from the place `at` on; what would stand past p's end is left out (proofs/LaidLaws.antt, `laid_fits` and `laid_cut`)
unfoldable pub laid : List ℕ → ℕ → List ℕ → List ℕ
laid p at [] = p
laid p at (b ∷ bs) = laid (set p at b) (at + 1) bs

-- what a writer that starts at `at` in p does: it answers the place after the bytes, whether they fit or not, and leaves them laid in
pub record Put (p : List ℕ) (at : ℕ) (bs : List ℕ) (r : ℕ) (q : List ℕ) : Type 0 where
  pub next : r ≡ at + length bs
  pub holds : q ≡ laid p at bs
