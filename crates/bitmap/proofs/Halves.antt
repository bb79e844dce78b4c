-- The words of the half masks.
use Rattle.std.proofs.Common.{◌≡◌, refl, sym, ap, ◌∙◌, Bool, true, false, [], ◌∷◌, ℕ, ◌*◌, ◌/◌, ◌%◌, ◌^◌, ◌<◌, arith, eqb, get_or, set, get_or-set_same, get_or-set_other, eqb-true, ne_eqb}
use mathlib.Core.Bool.{beq}
use borrow.Author.Tests.{eqb-false}
use Rattle.bitmap.specs.Bitmap.{bit}
use Rattle.bitmap.proofs.Bits.{bit_zero}
use Rattle.bitmap.proofs.Table.{all_below, all_below_lem, same, eqb_iff}
use Rattle.bitmap.proofs.Words.{each}

low_right : ℕ → ℕ → Bool
low_right k j = beq (bit ((0x0001_0001_0001_0001 * 2 ^ k) % 2 ^ 64) j) (eqb (j % 16) k)

low_table : all_below 16 (λ k. all_below 64 (low_right k)) ≡ true
unfolding all_below low_right bit
low_table = refl

high_right : ℕ → ℕ → Bool
high_right k j = beq (bit ((0xFFFF * 2 ^ (k * 16)) % 2 ^ 64) j) (eqb (j / 16) k)

high_table : all_below 4 (λ k. all_below 64 (high_right k)) ≡ true
unfolding all_below high_right bit
high_table = refl

-- the same word four times
pub low_bits : (k v : ℕ) → k < 16 → v < 256 → bit ((0x0001_0001_0001_0001 * 2 ^ k) % 2 ^ 64) (v % 64) ≡ eqb (v % 16) k
unfolding low_right
low_bits k v h g =
    let l : v % 64 < 64 = omega arith in
    let e : v % 64 % 16 ≡ v % 16 = omega arith in
    same (bit ((0x0001_0001_0001_0001 * 2 ^ k) % 2 ^ 64) (v % 64)) (eqb (v % 64 % 16) k)
    (all_below_lem 64 (low_right k) (all_below_lem 16 (λ i. all_below 64 (low_right i)) low_table k h) (v % 64) l) ∙ ap (λ (x : ℕ). eqb x k) e

-- a run of sixteen ones in one word
pub high_bits : (x v : ℕ) → v < 256
    → bit (get_or (set (0 ∷ 0 ∷ 0 ∷ 0 ∷ []) (x % 16 / 4) ((0xFFFF * 2 ^ (x % 4 * 16)) % 2 ^ 64)) (v / 64) 0) (v % 64) ≡ eqb (v / 16) (x % 16)
unfolding high_right
high_bits x v h = by (eqb (v / 64) (x % 16 / 4)) refl
  where
    by : (t : Bool) → eqb (v / 64) (x % 16 / 4) ≡ t
        → bit (get_or (set (0 ∷ 0 ∷ 0 ∷ 0 ∷ []) (x % 16 / 4) ((0xFFFF * 2 ^ (x % 4 * 16)) % 2 ^ 64)) (v / 64) 0) (v % 64) ≡ eqb (v / 16) (x % 16)
    by true g =
        let e : v / 64 ≡ x % 16 / 4 = eqb-true (v / 64) (x % 16 / 4) g in
        let w : ℕ = (0xFFFF * 2 ^ (x % 4 * 16)) % 2 ^ 64 in
        let l : v % 64 < 64 = omega arith in
        let k : x % 4 < 4 = omega arith in
        ap (λ (i : ℕ). bit (get_or (set (0 ∷ 0 ∷ 0 ∷ 0 ∷ []) (x % 16 / 4) w) i 0) (v % 64)) e
        ∙ ap (λ (y : ℕ). bit y (v % 64)) (get_or-set_same (0 ∷ 0 ∷ 0 ∷ 0 ∷ []) (x % 16 / 4) w 0 (omega arith))
        ∙ same (bit w (v % 64)) (eqb (v % 64 / 16) (x % 4))
        (all_below_lem 64 (high_right (x % 4)) (all_below_lem 4 (λ i. all_below 64 (high_right i)) high_table (x % 4) k) (v % 64) l)
        ∙ eqb_iff (v % 64 / 16) (x % 4) (v / 16) (x % 16) (λ f. omega arith) (λ f. omega arith)
    by false g =
        let n : v / 64 ≡ x % 16 / 4 → ⊥ = eqb-false (v / 64) (x % 16 / 4) g in
        ap (λ (y : ℕ). bit y (v % 64))
        (get_or-set_other (0 ∷ 0 ∷ 0 ∷ 0 ∷ []) (x % 16 / 4) (v / 64) ((0xFFFF * 2 ^ (x % 4 * 16)) % 2 ^ 64) 0 n ∙ each (λ i. 0) (v / 64) (omega arith))
        ∙ bit_zero (v % 64) ∙ sym (ne_eqb (v / 16) (x % 16) (λ f. n (omega arith)))
