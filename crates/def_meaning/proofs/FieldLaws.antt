-- The fields of a word, over the number F of a field's values. Assumes nothing.
use mathlib.Core.Path.{◌≡◌, sym, ap, ◌∙◌}
use Prim.Native.Nat.{ℕ, zero, suc, ◌+◌, ◌*◌, ◌/◌, ◌%◌, ◌<◌}
use native.Mathlib.Omega.{arith}
use native.Mathlib.Nat.{mul_assoc, add-mul-div_left, add-mul-mod_self_left, div-eq_of_lt, mod-eq_of_lt, div-div-eq-div-mul, mod-add-div, zero-add, div-lt_iff_lt-mul}
use Rattle.def_meaning.specs.Words.{word_by, kind_of, first_by, second_by}

-- out of a word come the kind and the fields that it was made of
module _ (F k a b : ℕ) (hk : k < 256) (ha : a < F) (hb : b < F) where
  grouped : word_by F k a b ≡ k + 256 * (a + F * b)
  grouped = let e : 256 * F * b ≡ 256 * (F * b) = mul_assoc 256 F b in omega arith

  over : word_by F k a b / 256 ≡ a + F * b
  over = ap (λ (x : ℕ). x / 256) grouped ∙ (omega arith)

  pub kind_made : kind_of (word_by F k a b) ≡ k
  kind_made = ap (λ (x : ℕ). x % 256) grouped ∙ (omega arith)

  pub first_made : first_by F (word_by F k a b) ≡ a
  first_made = ap (λ (x : ℕ). x % F) over ∙ add-mul-mod_self_left a F b ∙ mod-eq_of_lt ha

  pub second_made : second_by F (word_by F k a b) ≡ b
  second_made =
      let p : zero < F = omega arith in
      ap (λ (x : ℕ). x % F) (sym (div-div-eq-div-mul (word_by F k a b) 256 F) ∙ ap (λ (x : ℕ). x / F) over ∙ add-mul-div_left a b p ∙ ap (λ (x : ℕ). x + b) (div-eq_of_lt ha) ∙ zero-add b)
      ∙ mod-eq_of_lt hb

-- a word is made of its kind and its fields
pub word_made : (F w : ℕ) → w < 256 * F * F → word_by F (kind_of w) (first_by F w) (second_by F w) ≡ w
word_made F w h =
    let g : w < 256 * (F * F) = rw (← mul_assoc 256 F F) h in
    let p : zero < F = positive F h in
    let q : w / 256 < F * F = omega arith in
    let s : w / 256 / F < F = (div-lt_iff_lt-mul p).1 q in
    let e : second_by F w ≡ w / 256 / F = ap (λ (x : ℕ). x % F) (sym (div-div-eq-div-mul w 256 F)) ∙ mod-eq_of_lt s in
    let m : w / 256 % F + F * (w / 256 / F) ≡ w / 256 = mod-add-div (w / 256) F in
    ap (λ (x : ℕ). word_by F (kind_of w) (first_by F w) x) e ∙ (let f : 256 * F * (w / 256 / F) ≡ 256 * (F * (w / 256 / F)) = mul_assoc 256 F _ in omega arith)
  where
    positive : (n : ℕ) → w < 256 * n * n → zero < n
    positive zero l = absurd (omega arith)
    positive (suc n) l = omega arith
