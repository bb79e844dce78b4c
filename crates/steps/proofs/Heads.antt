-- What is left of words and of bytes, and the parts of slices. Assumes nothing.
use Rattle.std.proofs.Common.{◌≡◌, refl, List, [], ◌∷◌, ℕ, arith, length}
use Rattle.std.proofs.Math.ListN.{length-reverse}
use Rattle.def_meaning.specs.Choices.{Order, short, long}
use Rattle.steps.specs.Steps.{seen}

pub none_left : (l : List ℕ) → length l ≡ 0 → l ≡ []
none_left [] e = refl
none_left (x ∷ l) e = absurd (omega arith)

-- in either order as many bytes are read
pub length_seen : (o : Order) (l : List ℕ) → length (seen o l) ≡ length l
length_seen short l = refl
length_seen long l = length-reverse l
