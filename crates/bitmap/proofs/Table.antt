-- Tests on numbers. A rule of a whole table is one test that is computed.
use Rattle.std.proofs.Common.{◌≡◌, refl, sym, ap, ◌∙◌, Bool, true, false, cond, ⊎_elim, ℕ, zero, suc, ◌≤◌, ◌<◌, arith, eq-or-lt_of_le, eqb, eqb-true, eq-eqb, ne_eqb}
use mathlib.Core.Bool.{beq, false≢true}
use borrow.Author.Tests.{eqb-false}

-- the test holds for each number below n
unfoldable pub all_below : ℕ → (ℕ → Bool) → Bool
all_below zero t = true
all_below (suc n) t = cond (t n) (all_below n t) false

pub all_below_lem : (n : ℕ) (t : ℕ → Bool) → all_below n t ≡ true → (j : ℕ) → j < n → t j ≡ true
unfolding all_below
all_below_lem zero t h j g = absurd (omega arith)
all_below_lem (suc n) t h j g = by (t n) refl (λ e k. all_below_lem n t (rw e at h) j k)
  where
    by : (s : Bool) → t n ≡ s → (t n ≡ true → j < n → t j ≡ true) → t j ≡ true
    by true e rest = ⊎_elim (λ (k : j ≡ n). ap t k ∙ e) (λ (k : j < n). rest e k) (eq-or-lt_of_le (let r : j ≤ n = omega arith in r))
    by false e rest = absurd (false≢true (rw e at h))

pub same : (s t : Bool) → beq s t ≡ true → s ≡ t
same true true h = refl
same true false h = sym h
same false true h = h
same false false h = refl

-- two tests agree where one passes exactly if the other does
pub eqb_iff : (a b c d : ℕ) → (a ≡ b → c ≡ d) → (c ≡ d → a ≡ b) → eqb a b ≡ eqb c d
eqb_iff a b c d f g = by (eqb a b) refl
  where
    by : (t : Bool) → eqb a b ≡ t → t ≡ eqb c d
    by true h = sym (eq-eqb c d (f (eqb-true a b h)))
    by false h = sym (ne_eqb c d (λ e. eqb-false a b h (g e)))
