-- What one token asks of a byte, and what its test asks. Assumes nothing.
use mathlib.Core.Path.{◌≡◌, ap, ◌∙◌}
use mathlib.Core.Bool.{true, not}
use mathlib.Core.Logic.{◌↔◌}
use Prim.Native.Nat.{ℕ, ◌*◌, ◌/◌, ◌%◌, ◌<◌}
use native.Mathlib.Omega.{arith}
use native.Mathlib.Nat.{mod-eq_of_lt}
use lib.Dec.{eqb}
use lib.Bits.{bit_and, and_mask, and_high, and_zero_r}
use borrow.Author.Tests.{eqb-true, eqb-false, eq-eqb, ne_eqb, not-true}
use Rattle.def_meaning.specs.Tokens.{left, right, all, Agrees}
use Rattle.def_meaning.specs.Programs.{byte, mask, negated_mask, pass}
use Rattle.def_meaning.specs.NodeWords.{Under}

-- a byte's bits under the masks
low_bits : (b : ℕ) → bit_and b 0x0F ≡ b % 16
low_bits b = and_mask b 4

high_bits : (b : ℕ) → bit_and b 0xF0 ≡ (b / 16 % 16) * 16
high_bits b = and_high b 4 4

all_bits : (b : ℕ) → bit_and b 0xFF ≡ b % 256
all_bits b = and_mask b 8

-- the values of bytes and half bytes lie under their masks
pub byte_under : (v : ℕ) → v < 256 → Under v 0xFF
byte_under v h = all_bits v ∙ mod-eq_of_lt h

pub low_under : (v : ℕ) → v < 16 → Under v 0x0F
low_under v h = low_bits v ∙ mod-eq_of_lt h

pub high_under : (v : ℕ) → v < 16 → Under (16 * v) 0xF0
high_under v h = high_bits (16 * v) ∙ (omega arith)

-- a mask passes if the bits under it are the value, a negated one if they are not
mask_pass : {P : Type 0} (v m b : ℕ) → (bit_and b m ≡ v) ↔ P → (pass (mask v m) b ≡ true) ↔ P
unfolding pass
mask_pass v m b e = (λ h. e.0 (eqb-true (bit_and b m) v h), λ p. eq-eqb (bit_and b m) v (e.1 p))

negated_pass : {P : Type 0} (v m b : ℕ) → (bit_and b m ≡ v) ↔ P → (pass (negated_mask v m) b ≡ true) ↔ (P → ⊥)
unfolding pass
negated_pass v m b e = (λ h p. eqb-false (bit_and b m) v (not-true (eqb (bit_and b m) v) h) (e.1 p), λ f. ap not (ne_eqb (bit_and b m) v (λ h. f (e.0 h))))

module _ (v b : ℕ) (l : b < 256) where
  pub whole : (bit_and b 0xFF ≡ v) ↔ (b ≡ v)
  whole = let e : bit_and b 0xFF ≡ b % 256 = all_bits b in (λ h. omega arith, λ h. omega arith)

  pub low_half : (bit_and b 0x0F ≡ v) ↔ Agrees left v b
  unfolding Agrees
  low_half = let e : bit_and b 0x0F ≡ b % 16 = low_bits b in (λ h. omega arith, λ h. omega arith)

  pub high_half : (bit_and b 0xF0 ≡ 16 * v) ↔ Agrees right v b
  unfolding Agrees
  high_half =
      let s : b / 16 < 16 = omega arith in
      let e : bit_and b 0xF0 ≡ (b / 16) * 16 = high_bits b ∙ ap (λ (x : ℕ). x * 16) (mod-eq_of_lt s) in
      (λ h. omega arith, λ h. omega arith)

  pub no_half : (bit_and b 0 ≡ 0) ↔ Agrees all v b
  unfolding Agrees
  no_half = (λ h. tt, λ h. and_zero_r b)

  pub byte_pass : (pass (byte v) b ≡ true) ↔ (b ≡ v)
  unfolding pass
  byte_pass = (λ h. eqb-true b v h, λ h. eq-eqb b v h)

  pub not_byte_pass : (pass (negated_mask v 0xFF) b ≡ true) ↔ (b ≡ v → ⊥)
  not_byte_pass = negated_pass v 0xFF b whole

  pub left_pass : (pass (mask v 0x0F) b ≡ true) ↔ Agrees left v b
  left_pass = mask_pass v 0x0F b low_half

  pub right_pass : (pass (mask (16 * v) 0xF0) b ≡ true) ↔ Agrees right v b
  right_pass = mask_pass (16 * v) 0xF0 b high_half

  pub not_left_pass : (pass (negated_mask v 0x0F) b ≡ true) ↔ (Agrees left v b → ⊥)
  not_left_pass = negated_pass v 0x0F b low_half

  pub not_right_pass : (pass (negated_mask (16 * v) 0xF0) b ≡ true) ↔ (Agrees right v b → ⊥)
  not_right_pass = negated_pass (16 * v) 0xF0 b high_half

  pub not_all_pass : (pass (negated_mask 0 0) b ≡ true) ↔ (Agrees all v b → ⊥)
  not_all_pass = negated_pass 0 0 b no_half
