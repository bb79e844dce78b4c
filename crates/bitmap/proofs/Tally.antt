-- Counts of the numbers that pass a test.
use Rattle.std.proofs.Common.{◌≡◌, refl, sym, ap, ap₂, ◌∙◌, Bool, true, false, cond, not, ⊎_elim, ℕ, zero, suc, ◌+◌, ◌*◌, ◌/◌, ◌%◌, ◌^◌, ◌≤◌, ◌<◌, arith, add-zero, add-suc, add_assoc, zero-add, pow-suc, eq-or-lt_of_le, one-add, eqb, eq-eqb, ne_eqb}
use lib.Count.{ones, ones_step, ones-le}
use Rattle.bitmap.specs.Bitmap.{bit, tally}
use Rattle.bitmap.proofs.Bits.{bit_low, bit_next}

pub tally_nil : (p : ℕ → Bool) → tally p 0 ≡ 0
unfolding tally
tally_nil p = refl

-- the test matters only below n
pub tally_same : (p q : ℕ → Bool) (n : ℕ) → ((j : ℕ) → j < n → p j ≡ q j) → tally p n ≡ tally q n
unfolding tally
tally_same p q zero h = refl
tally_same p q (suc n) h =
    ap₂ (λ (x : ℕ) (t : Bool). x + cond t 1 0) (tally_same p q n (λ j g. h j (omega arith))) (h n (omega arith))

-- the numbers below a, and the next b ones
pub tally_add : (p : ℕ → Bool) (a b : ℕ) → tally p (a + b) ≡ tally p a + tally (λ j. p (a + j)) b
unfolding tally
tally_add p a zero = ap (tally p) (add-zero a) ∙ sym (add-zero (tally p a))
tally_add p a (suc b) =
    ap (tally p) (add-suc a b) ∙ ap (λ (x : ℕ). x + cond (p (a + b)) 1 0) (tally_add p a b)
    ∙ add_assoc (tally p a) (tally (λ j. p (a + j)) b) (cond (p (a + b)) 1 0)

-- the number 0, and those above it
pub tally_first : (p : ℕ → Bool) (n : ℕ) → tally p (suc n) ≡ cond (p 0) 1 0 + tally (λ j. p (1 + j)) n
unfolding tally
tally_first p n =
    ap (tally p) (sym (one-add n)) ∙ tally_add p 1 n ∙ ap (λ (x : ℕ). x + tally (λ j. p (1 + j)) n) (zero-add (cond (p 0) 1 0))

pick_not : (t : Bool) → cond (not t) 1 0 + cond t 1 0 ≡ 1
pick_not true = refl
pick_not false = refl

-- what fails the test makes up the rest
pub tally_not : (p : ℕ → Bool) (n : ℕ) → tally (λ j. not (p j)) n + tally p n ≡ n
unfolding tally
tally_not p zero = refl
tally_not p (suc n) = omega (arith, tally_not p n, pick_not (p n))

-- one number is itself
tally_none : (b n : ℕ) → n ≤ b → tally (λ j. eqb j b) n ≡ 0
unfolding tally
tally_none b zero h = refl
tally_none b (suc n) h = rw (ne_eqb n b (λ e. omega arith), tally_none b n (omega arith))

pub tally_one : (b n : ℕ) → b < n → tally (λ j. eqb j b) n ≡ 1
unfolding tally
tally_one b zero h = absurd (omega arith)
tally_one b (suc n) h =
    ⊎_elim (λ (e : b ≡ n). rw (eq-eqb n b (sym e), tally_none b n (omega arith)))
    (λ (g : b < n). rw (ne_eqb n b (λ e. omega arith), tally_one b n g)) (eq-or-lt_of_le (le_of_lt_suc b n h))
  where
    le_of_lt_suc : (b n : ℕ) → b < suc n → b ≤ n
    le_of_lt_suc b n h = omega arith

-- ---- the ones of a word are its bits

pick_digit : (x : ℕ) → x < 2 → x ≡ cond (eqb x 1) 1 0
pick_digit zero h = refl
pick_digit (suc zero) h = refl
pick_digit (suc (suc x)) h = absurd (omega arith)

first_bit : (k w : ℕ) → tally (bit w) (suc k) ≡ w % 2 + tally (bit (w / 2)) k
first_bit k w =
    tally_first (bit w) k
    ∙ ap₂ (λ (x y : ℕ). x + y) (ap (λ (t : Bool). cond t 1 0) (bit_low w) ∙ sym (pick_digit (w % 2) (omega arith)))
    (tally_same (λ j. bit w (1 + j)) (bit (w / 2)) k (λ j g. ap (bit w) (one-add j) ∙ bit_next w j))

pub tally_ones : (k w : ℕ) → w < 2 ^ k → ones w ≡ tally (bit w) k
unfolding tally
tally_ones zero w h = let l : ones w ≤ 0 = ones-le 0 w h in omega arith
tally_ones (suc k) w h =
    let e : 2 ^ suc k ≡ 2 ^ k * 2 = pow-suc 2 k in
    ones_step w ∙ ap (λ (x : ℕ). w % 2 + x) (tally_ones k (w / 2) (omega arith)) ∙ sym (first_bit k w)
