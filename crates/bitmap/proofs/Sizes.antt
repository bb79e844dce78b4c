-- The sizes of the classes.
use Rattle.std.proofs.Common.{◌≡◌, refl, ap, ◌∙◌, Bool, true, not, ℕ, ◌+◌, ◌/◌, ◌%◌, ◌<◌, arith, eqb, eqb-true}
use Rattle.bitmap.specs.declared.Bitmap.{Bitmap}
use Rattle.bitmap.specs.Bitmap.{has, Holds, tally, size}
use Rattle.bitmap.proofs.Table.{all_below, all_below_lem}
use Rattle.bitmap.proofs.Tally.{tally_same, tally_not, tally_one}

-- a bitmap's size is that of its test
pub size_of : (m : Bitmap) (p : ℕ → Bool) → Holds m p → size m ≡ tally p 256
unfolding size
size_of m p h = tally_same (has m) p 256 h

-- the members of a bitmap and of its inverse make up the 256
pub size_not : (m n : Bitmap) → Holds n (λ v. not (has m v)) → size n + size m ≡ 256
unfolding size
size_not m n h = ap (λ (x : ℕ). x + size m) (size_of n (λ v. not (has m v)) h) ∙ tally_not (has m) 256

-- a test with a half x has 16 members where that is computed for each of the 16 halves
half_size : (t : ℕ → ℕ → Bool) → all_below 16 (λ k. eqb (tally (t k) 256) 16) ≡ true → (x : ℕ) (m : Bitmap) → Holds m (t (x % 16)) → size m ≡ 16
half_size t all x m h =
    size_of m (t (x % 16)) h
    ∙ eqb-true (tally (t (x % 16)) 256) 16 (all_below_lem 16 (λ k. eqb (tally (t k) 256) 16) all (x % 16) (omega arith))

-- a half mask has 16 members
pub low_size : (x : ℕ) (m : Bitmap) → Holds m (λ v. eqb (v % 16) (x % 16)) → size m ≡ 16
unfolding all_below tally
low_size = half_size (λ k v. eqb (v % 16) k) refl

pub high_size : (x : ℕ) (m : Bitmap) → Holds m (λ v. eqb (v / 16) (x % 16)) → size m ≡ 16
unfolding all_below tally
high_size = half_size (λ k v. eqb (v / 16) k) refl

-- and its negation 240
pub half_not_size : (m n : Bitmap) → size m ≡ 16 → Holds n (λ v. not (has m v)) → size n ≡ 240
half_not_size m n e h = omega (arith, size_not m n h)

-- all bytes but one are 255
pub but_size : (b : ℕ) (m : Bitmap) → b < 256 → Holds m (λ v. not (eqb v b)) → size m ≡ 255
but_size b m l h = omega (arith, size_of m (λ v. not (eqb v b)) h, tally_not (λ v. eqb v b) 256, tally_one b 256 l)
