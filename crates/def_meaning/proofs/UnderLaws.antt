-- What `Under` says: that each bit of the value lies under the mask, and so that some byte passes the Mask. Assumes nothing.
use mathlib.Core.Path.{◌≡◌, refl, sym, ap, ◌∙◌}
use mathlib.Core.Bool.{true, false, not}
use mathlib.Core.Logic.{◌↔◌}
use Prim.Native.Nat.{ℕ, zero, suc, ◌*◌, ◌/◌, ◌%◌, ◌^◌, ◌≤◌, ◌<◌}
use native.Mathlib.Omega.{arith}
use native.Mathlib.Nat.{le_refl, mul_comm, div-div-eq-div-mul, pow-suc}
use lib.Bits.{bit_and, and_zero_l, and_shr, and_mod}
use borrow.Author.Tests.{eqb-true, eq-eqb, ne_eqb}
use Rattle.def_meaning.specs.Programs.{pass, mask, negated_mask}
use Rattle.def_meaning.specs.NodeWords.{Under}

-- of single bits: what two share is at most each of them, and is the first if that is at most the second
bit_and_lem : (x y : ℕ) → x < 2 → y < 2 → (bit_and x y ≤ x) × (bit_and x y ≤ y) × (x ≤ y → bit_and x y ≡ x)
bit_and_lem zero y h g = (omega (arith, and_zero_l y), omega (arith, and_zero_l y), λ l. and_zero_l y)
bit_and_lem (suc zero) zero h g = (omega arith, omega arith, λ l. absurd (omega arith))
bit_and_lem (suc zero) (suc zero) h g = (omega arith, omega arith, λ l. refl)
bit_and_lem (suc zero) (suc (suc y)) h g = absurd (omega arith)
bit_and_lem (suc (suc x)) y h g = absurd (omega arith)

-- the half of a number under a mask, and its last bit
module _ (v m : ℕ) where
  half : bit_and v m / 2 ≡ bit_and (v / 2) (m / 2)
  half = and_shr v m 1

  last_bit : bit_and v m % 2 ≡ bit_and (v % 2) (m % 2)
  last_bit = and_mod v m 1

-- the same half and the same last bit
pub same_number : (x y : ℕ) → x / 2 ≡ y / 2 → x % 2 ≡ y % 2 → x ≡ y
same_number x y h g = omega arith

-- bit by bit
power : (k : ℕ) → 2 * 2 ^ k ≡ 2 ^ suc k
power k = mul_comm 2 (2 ^ k) ∙ sym (pow-suc 2 k)

under_from : (n v m : ℕ) → v ≤ n → ((k : ℕ) → v / 2 ^ k % 2 ≤ m / 2 ^ k % 2) → Under v m
under_from zero v m h f = let z : v ≡ 0 = omega arith in rw z (and_zero_l m)
under_from (suc n) v m h f =
    same_number (bit_and v m) v
    (half v m ∙ under_from n (v / 2) (m / 2) (omega arith) (λ k. rw (div-div-eq-div-mul v 2 (2 ^ k), div-div-eq-div-mul m 2 (2 ^ k), power k) (f (suc k))))
    (last_bit v m ∙ (bit_and_lem (v % 2) (m % 2) (omega arith) (omega arith)).2 (omega (arith, f 0)))

under_to : (v m : ℕ) → Under v m → (k : ℕ) → v / 2 ^ k % 2 ≤ m / 2 ^ k % 2
under_to v m u k =
    let e : v / 2 ^ k % 2 ≡ bit_and (v / 2 ^ k % 2) (m / 2 ^ k % 2) = ap (λ (x : ℕ). x / 2 ^ k % 2) (sym u) ∙ ap (λ (x : ℕ). x % 2) (and_shr v m k) ∙ last_bit (v / 2 ^ k) (m / 2 ^ k) in
    omega (arith, e, (bit_and_lem (v / 2 ^ k % 2) (m / 2 ^ k % 2) (omega arith) (omega arith)).1)

pub under_bits : (v m : ℕ) → Under v m ↔ ((k : ℕ) → v / 2 ^ k % 2 ≤ m / 2 ^ k % 2)
under_bits v m = (under_to v m, under_from v v m (le_refl v))

-- what is left under a mask lies under it
pub under_again : (b m : ℕ) → Under (bit_and b m) m
under_again b m = under_from (bit_and b m) (bit_and b m) m (le_refl _) (λ k.
    let e : bit_and b m / 2 ^ k % 2 ≡ bit_and (b / 2 ^ k % 2) (m / 2 ^ k % 2) = ap (λ (x : ℕ). x % 2) (and_shr b m k) ∙ last_bit (b / 2 ^ k) (m / 2 ^ k) in
    omega (arith, e, (bit_and_lem (b / 2 ^ k % 2) (m / 2 ^ k % 2) (omega arith) (omega arith)).1))

-- a byte lies under a mask exactly if some byte passes the Mask; that one does not pass the negation, and every byte does if none passes the Mask
pub mask_met : (v m : ℕ) → v < 256 → Under v m ↔ ((b : ℕ) × (b < 256) × (pass (mask v m) b ≡ true))
unfolding pass
mask_met v m l = (λ u. (v, l, eq-eqb (bit_and v m) v u), λ (b, h, e). ap (λ (x : ℕ). bit_and x m) (sym (eqb-true (bit_and b m) v e)) ∙ under_again b m ∙ eqb-true (bit_and b m) v e)

pub negation_missed : (v m : ℕ) → v < 256 → Under v m → (b : ℕ) × (b < 256) × (pass (negated_mask v m) b ≡ false)
unfolding pass
negation_missed v m l u = (v, l, ap not (eq-eqb (bit_and v m) v u))

pub negation_always : (v m : ℕ) → (Under v m → ⊥) → (b : ℕ) → pass (negated_mask v m) b ≡ true
unfolding pass
negation_always v m f b = ap not (ne_eqb (bit_and b m) v (λ e. f (ap (λ (x : ℕ). bit_and x m) (sym e) ∙ under_again b m ∙ e)))
