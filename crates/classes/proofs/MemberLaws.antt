-- The members of a class by their number: a byte is number j if it passes and j bytes below it do. Assumes nothing.
use Rattle.std.proofs.Common.{◌≡◌, refl, sym, ap, ap₂, ◌∙◌, Bool, true, false, cond, not, ⊎_elim, ℕ, zero, suc, ◌+◌, ◌-◌, ◌*◌, ◌/◌, ◌%◌, ◌≤◌, ◌<◌, min, arith, eq-or-lt_of_le, eqb, ltb, length, get_or, eqb-true, eq-eqb, ne_eqb, ltb-true, ltb-false, lt-ltb, le-ltb}
use borrow.Author.Tests.{eqb-false}
use Rattle.def_meaning.specs.Tokens.{left, right, Token, Byte, NotByte, MaskedByte, NotMaskedByte}
use Rattle.bitmap.specs.Bitmap.{tally}
use Rattle.bitmap.proofs.Tally.{tally_nil, tally_add, tally_not}
use Rattle.def_picking.specs.Literals.{kept, passing, bytes_that, taken}
use Rattle.classes.specs.Classes.{gapped}

-- ---- any test

next_tally : (p : ℕ → Bool) (v : ℕ) (t : Bool) → p v ≡ t → tally p (v + 1) ≡ tally p v + cond t 1 0
unfolding tally
next_tally p v t e = let s : v + 1 ≡ suc v = omega arith in ap (tally p) s ∙ ap (λ (x : Bool). tally p v + cond x 1 0) e

tally_rises : (p : ℕ → Bool) (a b : ℕ) → a ≤ b → tally p a ≤ tally p b
tally_rises p a b h =
    let s : a + (b - a) ≡ b = omega arith in
    let e : tally p b ≡ tally p a + tally (λ j. p (a + j)) (b - a) = ap (tally p) (sym s) ∙ tally_add p a (b - a) in
    omega arith

-- of the numbers from v on, number j is b
from_here : (p : ℕ → Bool) (v n b j : ℕ) → v ≤ b → b < v + n → p b ≡ true → tally p b ≡ tally p v + j → get_or (passing p v n) j 0 ≡ b
unfolding passing kept
from_here p v zero b j h l t e = absurd (omega arith)
from_here p v (suc n) b j h l t e =
    ⊎_elim (λ (q : v ≡ b). here q)
    (λ (g : v < b). later g (λ i d. from_here p (v + 1) n b i (omega arith) (omega arith) t d) (p v) refl j e) (eq-or-lt_of_le h)
  where
    here : v ≡ b → get_or (kept (p v) v (passing p (v + 1) n)) j 0 ≡ b
    here q =
        let z : j ≡ 0 = (let s : tally p b ≡ tally p v = ap (tally p) (sym q) in omega arith) in
        ap₂ (λ (x : Bool) (i : ℕ). get_or (kept x v (passing p (v + 1) n)) i 0) (ap p q ∙ t) z ∙ q

    later : v < b → ((i : ℕ) → tally p b ≡ tally p (v + 1) + i → get_or (passing p (v + 1) n) i 0 ≡ b) → (x : Bool) → p v ≡ x → (i : ℕ)
        → tally p b ≡ tally p v + i → get_or (kept x v (passing p (v + 1) n)) i 0 ≡ b
    later g f true q zero d = absurd (omega (arith, next_tally p v true q, tally_rises p (v + 1) b (omega arith)))
    later g f true q (suc i) d = f i (omega (arith, next_tally p v true q))
    later g f false q i d = f i (omega (arith, next_tally p v false q))

number_is : (p : ℕ → Bool) (b j : ℕ) → b < 256 → p b ≡ true → tally p b ≡ j → get_or (bytes_that p) j 0 ≡ b
number_is p b j l t e = from_here p 0 256 b j (omega arith) (omega arith) t (let z : tally p 0 ≡ 0 = tally_nil p in omega arith)

as_many : (p : ℕ → Bool) (v n : ℕ) → length (passing p v n) + tally p v ≡ tally p (v + n)
unfolding passing kept
as_many p v zero = let s : v + 0 ≡ v = omega arith in let z : tally p (v + 0) ≡ tally p v = ap (tally p) s in omega arith
as_many p v (suc n) = go (as_many p (v + 1) n) (p v) refl
  where
    go : length (passing p (v + 1) n) + tally p (v + 1) ≡ tally p (v + 1 + n) → (t : Bool) → p v ≡ t
        → length (kept t v (passing p (v + 1) n)) + tally p v ≡ tally p (v + suc n)
    go i true e = let s : v + 1 + n ≡ v + suc n = omega arith in omega (arith, ap (tally p) s, next_tally p v true e)
    go i false e = let s : v + 1 + n ≡ v + suc n = omega arith in omega (arith, ap (tally p) s, next_tally p v false e)

so_many : (p : ℕ → Bool) → length (bytes_that p) ≡ tally p 256
so_many p = let z : tally p 0 ≡ 0 = tally_nil p in omega (arith, as_many p 0 256)

-- ---- how many below n pass the tests

tally_byte : (v n : ℕ) → tally (λ b. eqb b v) n ≡ min 1 (n - v)
unfolding tally
tally_byte v zero = omega arith
tally_byte v (suc n) = go (tally_byte v n) (eqb n v) refl
  where
    go : tally (λ b. eqb b v) n ≡ min 1 (n - v) → (t : Bool) → eqb n v ≡ t → tally (λ b. eqb b v) n + cond t 1 0 ≡ min 1 (suc n - v)
    go i true e = omega (arith, eqb-true n v e)
    go i false e = let f : n ≡ v → ⊥ = eqb-false n v e in omega arith

tally_right : (v n : ℕ) → tally (λ b. eqb (b / 16) v) n ≡ min 16 (n - 16 * v)
unfolding tally
tally_right v zero = omega arith
tally_right v (suc n) = go (tally_right v n) (eqb (n / 16) v) refl
  where
    go : tally (λ b. eqb (b / 16) v) n ≡ min 16 (n - 16 * v) → (t : Bool) → eqb (n / 16) v ≡ t → tally (λ b. eqb (b / 16) v) n + cond t 1 0 ≡ min 16 (suc n - 16 * v)
    go i true e = omega (arith, eqb-true (n / 16) v e)
    go i false e = let f : n / 16 ≡ v → ⊥ = eqb-false (n / 16) v e in omega arith

tally_left : (v n : ℕ) → v < 16 → tally (λ b. eqb (b % 16) v) n ≡ (n + 15 - v) / 16
unfolding tally
tally_left v zero l = omega arith
tally_left v (suc n) l = go (tally_left v n l) (eqb (n % 16) v) refl
  where
    go : tally (λ b. eqb (b % 16) v) n ≡ (n + 15 - v) / 16 → (t : Bool) → eqb (n % 16) v ≡ t → tally (λ b. eqb (b % 16) v) n + cond t 1 0 ≡ (suc n + 15 - v) / 16
    go i true e = omega (arith, eqb-true (n % 16) v e)
    go i false e = let f : n % 16 ≡ v → ⊥ = eqb-false (n % 16) v e in omega arith

-- ---- a gap

pub gapped_below : (j from gap : ℕ) → j < from → gapped j from gap ≡ j
unfolding gapped
gapped_below j from gap h = rw (lt-ltb j from h)

pub gapped_above : (j from gap : ℕ) → from ≤ j → gapped j from gap ≡ j + gap
unfolding gapped
gapped_above j from gap h = rw (le-ltb j from h)

pub gapped_le : (j from gap : ℕ) → gapped j from gap ≤ j + gap
unfolding gapped
gapped_le j from gap = go (ltb j from)
  where
    go : (t : Bool) → cond t j (j + gap) ≤ j + gap
    go true = omega arith
    go false = omega arith

-- what holds on either side of a gap holds
by_gap : (P : ℕ → Type 0) (j from gap : ℕ) → (j < from → P j) → (from ≤ j → P (j + gap)) → P (gapped j from gap)
unfolding gapped
by_gap P j from gap f g = go (ltb j from) refl
  where
    go : (t : Bool) → ltb j from ≡ t → P (cond t j (j + gap))
    go true e = f (ltb-true j from e)
    go false e = g (ltb-false j from e)

-- ---- how many bytes a class takes

pub not_few : (v : ℕ) → v < 256 → length (taken (NotByte v)) ≡ 255
unfolding taken
not_few v l = omega (arith, so_many (λ b. not (eqb b v)), tally_not (λ b. eqb b v) 256, tally_byte v 256)

module _ (v : ℕ) (l : v < 16) where
  pub left_few : length (taken (MaskedByte v left)) ≡ 16
  unfolding taken
  left_few = omega (arith, so_many (λ b. eqb (b % 16) v), tally_left v 256 l)

  pub right_few : length (taken (MaskedByte v right)) ≡ 16
  unfolding taken
  right_few = omega (arith, so_many (λ b. eqb (b / 16) v), tally_right v 256)

  pub other_left_few : length (taken (NotMaskedByte v left)) ≡ 240
  unfolding taken
  other_left_few = omega (arith, so_many (λ b. not (eqb (b % 16) v)), tally_not (λ b. eqb (b % 16) v) 256, tally_left v 256 l)

  pub other_right_few : length (taken (NotMaskedByte v right)) ≡ 240
  unfolding taken
  other_right_few = omega (arith, so_many (λ b. not (eqb (b / 16) v)), tally_not (λ b. eqb (b / 16) v) 256, tally_right v 256)

-- ---- byte number j

pub not_at_lem : (v j : ℕ) → v < 256 → j < 255 → get_or (taken (NotByte v)) j 0 ≡ gapped j v 1
unfolding taken
not_at_lem v j l h =
    by_gap (λ (b : ℕ). get_or (taken (NotByte v)) j 0 ≡ b) j v 1
    (λ g. number_is (λ b. not (eqb b v)) j j (omega arith) (ap not (ne_eqb j v (λ e. omega arith))) (omega (arith, tally_not (λ b. eqb b v) j, tally_byte v j)))
    (λ g. number_is (λ b. not (eqb b v)) (j + 1) j (omega arith) (ap not (ne_eqb (j + 1) v (λ e. omega arith))) (omega (arith, tally_not (λ b. eqb b v) (j + 1), tally_byte v (j + 1))))

module _ (v j : ℕ) (l : v < 16) where
  pub left_at : j < 16 → get_or (taken (MaskedByte v left)) j 0 ≡ 16 * j + v
  unfolding taken
  left_at h =
      number_is (λ b. eqb (b % 16) v) (16 * j + v) j (omega arith) (eq-eqb ((16 * j + v) % 16) v (omega arith))
      (omega (arith, tally_left v (16 * j + v) l))

  pub right_at : j < 16 → get_or (taken (MaskedByte v right)) j 0 ≡ 16 * v + j
  unfolding taken
  right_at h =
      number_is (λ b. eqb (b / 16) v) (16 * v + j) j (omega arith) (eq-eqb ((16 * v + j) / 16) v (omega arith))
      (omega (arith, tally_right v (16 * v + j)))

  pub other_right_at : j < 240 → get_or (taken (NotMaskedByte v right)) j 0 ≡ gapped j (16 * v) 16
  unfolding taken
  other_right_at h =
      by_gap (λ (b : ℕ). get_or (taken (NotMaskedByte v right)) j 0 ≡ b) j (16 * v) 16 (λ g. at j (omega arith) (λ e. omega arith) (omega (arith, tally_right v j)))
      (λ g. at (j + 16) (omega arith) (λ e. omega arith) (omega (arith, tally_right v (j + 16))))
    where
      at : (b : ℕ) → b < 256 → (b / 16 ≡ v → ⊥) → tally (λ c. eqb (c / 16) v) b + j ≡ b → get_or (bytes_that (λ c. not (eqb (c / 16) v))) j 0 ≡ b
      at b s f e = number_is (λ c. not (eqb (c / 16) v)) b j s (ap not (ne_eqb (b / 16) v f)) (omega (arith, tally_not (λ c. eqb (c / 16) v) b))

  pub other_left_at : j < 240 → get_or (taken (NotMaskedByte v left)) j 0 ≡ 16 * (j / 15) + gapped (j % 15) v 1
  unfolding taken
  other_left_at h =
      by_gap (λ (b : ℕ). get_or (taken (NotMaskedByte v left)) j 0 ≡ 16 * (j / 15) + b) (j % 15) v 1
      (λ g. at (16 * (j / 15) + j % 15) (omega arith) (λ e. omega arith) (omega (arith, tally_left v (16 * (j / 15) + j % 15) l)))
      (λ g. at (16 * (j / 15) + (j % 15 + 1)) (omega arith) (λ e. omega arith) (omega (arith, tally_left v (16 * (j / 15) + (j % 15 + 1)) l)))
    where
      at : (b : ℕ) → b < 256 → (b % 16 ≡ v → ⊥) → tally (λ c. eqb (c % 16) v) b + j ≡ b → get_or (bytes_that (λ c. not (eqb (c % 16) v))) j 0 ≡ b
      at b s f e = number_is (λ c. not (eqb (c % 16) v)) b j s (ap not (ne_eqb (b % 16) v f)) (omega (arith, tally_not (λ c. eqb (c % 16) v) b))

-- ---- the same where some number of bytes is asked for

-- b is byte number j of those that t takes, and j is below n
abbrev pub IsAt : Token → ℕ → ℕ → ℕ → Type 0
IsAt t j n b = (j < n) × (b ≡ get_or (taken t) j 0)

pub byte_in : (x j : ℕ) → j < length (taken (Byte x)) → x ≡ get_or (taken (Byte x)) j 0
unfolding taken
byte_in x zero h = refl
byte_in x (suc j) h = absurd (omega arith)

pub not_in : (x j : ℕ) → x < 256 → j < length (taken (NotByte x)) → IsAt (NotByte x) j 255 (gapped j x 1)
not_in x j l h = let g : j < 255 = omega (arith, not_few x l) in (g, sym (not_at_lem x j l g))

module _ (x j : ℕ) where
  half : x % 16 < 16
  half = omega arith

  pub low_in : j < length (taken (MaskedByte (x % 16) left)) → IsAt (MaskedByte (x % 16) left) j 16 (16 * j + x % 16)
  low_in h = let g : j < 16 = omega (arith, left_few (x % 16) half) in (g, sym (left_at (x % 16) j half g))

  pub high_in : j < length (taken (MaskedByte (x % 16) right)) → IsAt (MaskedByte (x % 16) right) j 16 (16 * (x % 16) + j)
  high_in h = let g : j < 16 = omega (arith, right_few (x % 16) half) in (g, sym (right_at (x % 16) j half g))

  pub not_low_in : j < length (taken (NotMaskedByte (x % 16) left)) → IsAt (NotMaskedByte (x % 16) left) j 240 (16 * (j / 15) + gapped (j % 15) (x % 16) 1)
  not_low_in h = let g : j < 240 = omega (arith, other_left_few (x % 16) half) in (g, sym (other_left_at (x % 16) j half g))

  pub not_high_in : j < length (taken (NotMaskedByte (x % 16) right)) → IsAt (NotMaskedByte (x % 16) right) j 240 (gapped j (16 * (x % 16)) 16)
  not_high_in h = let g : j < 240 = omega (arith, other_right_few (x % 16) half) in (g, sym (other_right_at (x % 16) j half g))
