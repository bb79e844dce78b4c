-- Laws of blanks, digits and numbers, one step of a reader each. Assumes nothing.
use mathlib.Core.Path.{◌≡◌, refl, ap, ap₂, ◌∙◌}
use mathlib.Core.Bool.{Bool, true, false, cond, ◌&&◌}
use mathlib.Core.Option.{none, some}
use mathlib.Core.List.{List, [], ◌∷◌}
use Prim.Native.Char.{code}
use Prim.Native.Nat.{ℕ, zero, suc, ◌+◌, ◌-◌, ◌*◌, ◌≤◌, ◌<◌}
use native.Mathlib.Omega.{arith}
use borrow.Author.Tests.{ltb-true, ltb-false, leb-true}
use lib.Dec.{ltb, leb}
use lib.ListN.{length, drop, get_or, length-drop, get_or-eq_default}
use lib.Seq.{get_or-drop, drop-drop}
use Rattle.def_reading.specs.Blanks.{blank, blanks, skip}
use Rattle.def_reading.specs.Pieces.{within, digit, decimals, numeral, decimal}

pub never : {A : Type 0} → ◌≡◌ {A = ℕ} 0 1 → A
never z = absurd (let y : ◌≡◌ {A = ℕ} 0 1 = z in omega arith)

-- a byte that is not 0 stands inside the text
pub here_in : (t : List ℕ) (at : ℕ) → 0 < get_or t at 0 → at < length t
here_in t at h = go (ltb at (length t)) refl
  where
    go : (b : Bool) → ltb at (length t) ≡ b → at < length t
    go true e = ltb-true at (length t) e
    go false e = let z : get_or t at 0 ≡ 0 = get_or-eq_default t 0 (ltb-false at (length t) e) in absurd (omega arith)

pub here_at : (t : List ℕ) (at c : ℕ) → get_or t at 0 ≡ c → 0 < c → at < length t
here_at t at c e h = here_in t at (omega arith)

pub first_drop : (t : List ℕ) (at : ℕ) → get_or (drop at t) 0 0 ≡ get_or t at 0
first_drop t at = let e : at + 0 ≡ at = omega arith in get_or-drop at t 0 0 ∙ ap (λ (i : ℕ). get_or t i 0) e

next_drop : (t : List ℕ) (at : ℕ) → drop 1 (drop at t) ≡ drop (at + 1) t
next_drop t at = drop-drop 1 at t

pub within_true : (a b c : ℕ) → within a b c ≡ true → (a ≤ c) × (c ≤ b)
unfolding within
within_true a b c h = go (leb a c) (leb c b) refl refl h
  where
    go : (x y : Bool) → leb a c ≡ x → leb c b ≡ y → x && y ≡ true → (a ≤ c) × (c ≤ b)
    go true true d e h = (leb-true a c d, leb-true c b e)
    go true false d e h = never (cc)
    go false y d e h = never (cc)

blank_zero : blank 0 ≡ false
unfolding blank
blank_zero = refl

-- a blank is not 0
pub blank_pos : (c : ℕ) → blank c ≡ true → 0 < c
blank_pos zero h = never (cc (blank_zero))
blank_pos (suc c) h = omega arith

blanks_none : (s : List ℕ) → blank (get_or s 0 0) ≡ false → blanks s ≡ 0
unfolding blanks
blanks_none [] h = refl
blanks_none (c ∷ s) h = rw h refl

blanks_next : (s : List ℕ) → blank (get_or s 0 0) ≡ true → blanks s ≡ suc (blanks (drop 1 s))
unfolding blanks
blanks_next [] h = never (cc (blank_zero))
blanks_next (c ∷ s) h = rw h refl

pub skip_none : (t : List ℕ) (at : ℕ) → blank (get_or t at 0) ≡ false → at ≡ skip t at
unfolding skip
skip_none t at h =
    let e : blanks (drop at t) ≡ 0 = blanks_none (drop at t) (ap blank (first_drop t at) ∙ h) in
    omega arith

pub skip_next : (t : List ℕ) (at : ℕ) → blank (get_or t at 0) ≡ true → skip t at ≡ skip t (at + 1)
unfolding skip
skip_next t at h =
    let e : blanks (drop at t) ≡ suc (blanks (drop 1 (drop at t))) = blanks_next (drop at t) (ap blank (first_drop t at) ∙ h) in
    let d : blanks (drop 1 (drop at t)) ≡ blanks (drop (at + 1) t) = ap blanks (next_drop t at) in
    omega arith

blanks_le : (s : List ℕ) → blanks s ≤ length s
unfolding blanks
blanks_le [] = omega arith
blanks_le (c ∷ s) = go (blank c) (blanks_le s)
  where
    go : (b : Bool) → blanks s ≤ length s → cond b (suc (blanks s)) 0 ≤ suc (length s)
    go true h = omega arith
    go false h = omega arith

pub skip_from : (t : List ℕ) (at : ℕ) → at ≤ skip t at
unfolding skip
skip_from t at = omega arith

pub skip_in : (t : List ℕ) (at : ℕ) → at ≤ length t → skip t at ≤ length t
unfolding skip
skip_in t at h = omega (arith, blanks_le (drop at t), length-drop at t)

-- decimal digits
decimals_none : (s : List ℕ) → decimal (get_or s 0 0) ≡ false → decimals s ≡ 0
unfolding decimals
decimals_none [] h = refl
decimals_none (c ∷ s) h = rw h refl

within_zero : decimal 0 ≡ false
unfolding within
within_zero = refl

decimals_next : (s : List ℕ) → decimal (get_or s 0 0) ≡ true → decimals s ≡ suc (decimals (drop 1 s))
unfolding decimals
decimals_next [] h = never (cc (within_zero))
decimals_next (c ∷ s) h = rw h refl

numeral_none : (n : ℕ) (s : List ℕ) → decimal (get_or s 0 0) ≡ false → numeral n s ≡ n
unfolding numeral
numeral_none n [] h = refl
numeral_none n (c ∷ s) h = rw h refl

numeral_next : (n : ℕ) (s : List ℕ) → decimal (get_or s 0 0) ≡ true → numeral n s ≡ numeral (10 * n + (get_or s 0 0 - code "0")) (drop 1 s)
unfolding numeral
numeral_next n [] h = never (cc (within_zero))
numeral_next n (c ∷ s) h = rw h refl

pub number_none : (t : List ℕ) (n at : ℕ) → decimal (get_or t at 0) ≡ false → (decimals (drop at t) ≡ 0) × (numeral n (drop at t) ≡ n)
number_none t n at h =
    let e : decimal (get_or (drop at t) 0 0) ≡ false = ap decimal (first_drop t at) ∙ h in
    (decimals_none (drop at t) e, numeral_none n (drop at t) e)

pub number_next : (t : List ℕ) (n at : ℕ) → decimal (get_or t at 0) ≡ true → (decimals (drop at t) ≡ suc (decimals (drop (at + 1) t))) × (numeral n (drop at t) ≡ numeral (10 * n + (get_or t at 0 - code "0")) (drop (at + 1) t))
number_next t n at h =
    let e : decimal (get_or (drop at t) 0 0) ≡ true = ap decimal (first_drop t at) ∙ h in (
      decimals_next (drop at t) e ∙ ap (λ (s : List ℕ). suc (decimals s)) (next_drop t at),
      numeral_next n (drop at t) e ∙ ap₂ (λ (c : ℕ) (s : List ℕ). numeral (10 * n + (c - code "0")) s) (first_drop t at) (next_drop t at),
    )

-- more digits make no number smaller
pub numeral_from : (n : ℕ) (s : List ℕ) → n ≤ numeral n s
unfolding numeral
numeral_from n [] = omega arith
numeral_from n (c ∷ s) = go (decimal c) (numeral_from (10 * n + (c - code "0")) s)
  where
    go : (b : Bool) → 10 * n + (c - code "0") ≤ numeral (10 * n + (c - code "0")) s → n ≤ cond b (numeral (10 * n + (c - code "0")) s) n
    go true h = omega arith
    go false h = omega arith

pub decimals_le : (s : List ℕ) → decimals s ≤ length s
unfolding decimals
decimals_le [] = omega arith
decimals_le (c ∷ s) = go (decimal c) (decimals_le s)
  where
    go : (b : Bool) → decimals s ≤ length s → cond b (suc (decimals s)) 0 ≤ suc (length s)
    go true h = omega arith
    go false h = omega arith

-- a digit's value is below 16, and the digit is not 0
pub digit_small : (c v : ℕ) → digit c ≡ some v → (v < 16) × (0 < c)
unfolding digit
digit_small c v h = go (decimal c) (within (code "A") (code "F") c) (within (code "a") (code "f") c) refl refl refl h
  where
    go : (x y z : Bool) → decimal c ≡ x → within (code "A") (code "F") c ≡ y → within (code "a") (code "f") c ≡ z
        → cond x (some (c - code "0")) (cond y (some (c - (code "A" - 10))) (cond z (some (c - (code "a" - 10))) none)) ≡ some v → (v < 16) × (0 < c)
    go true y z d e f h = let w = within_true (code "0") (code "9") c d in let q : c - code "0" ≡ v = cc in (omega arith, omega arith)
    go false true z d e f h = let w = within_true (code "A") (code "F") c e in let q : c - (code "A" - 10) ≡ v = cc in (omega arith, omega arith)
    go false false true d e f h = let w = within_true (code "a") (code "f") c f in let q : c - (code "a" - 10) ≡ v = cc in (omega arith, omega arith)
    go false false false d e f h = never (cc)
