-- Words that test a byte, and words that do not. Assumes nothing.
use mathlib.Core.Path.{◌≡◌, refl, sym, ap, ◌∙◌}
use mathlib.Core.Bool.{Bool, true}
use Prim.Native.Nat.{ℕ, ◌%◌}
use native.Mathlib.Nat.{mod-eq_of_lt}
use native.Mathlib.Omega.{arith}
use Rattle.def_meaning.specs.Programs.{Test, byte, mask, negated_mask, pass, one, jump, range, alt}
use Rattle.def_meaning.specs.Words.{byte_size, kind_of, first_of, second_of, Shape, item, opens, mark, wrong, shape, proper}
use Rattle.def_meaning.proofs.KindLaws.{kind_byte, kind_mask, kind_negated}
use Rattle.def_meaning.proofs.ProperLaws.{OfTest, OfItem, of_item}
use Rattle.steps.specs.Steps.{is_test, pass_shape}

-- the value and the mask of a proper word are bytes
module _ (w : ℕ) (h : proper w ≡ true) where
  pub value_fits : kind_of w ≡ 0 → first_of w % byte_size ≡ first_of w
  unfolding OfItem OfTest
  value_fits e = mod-eq_of_lt (of_item w (one (byte (first_of w))) h (kind_byte w e))

  masked : OfTest (mask (first_of w) (second_of w)) → (first_of w % byte_size ≡ first_of w) × (second_of w % byte_size ≡ second_of w)
  unfolding OfTest
  masked b = (mod-eq_of_lt b.0, mod-eq_of_lt b.1)

  pub mask_fits : kind_of w ≡ 1 → (first_of w % byte_size ≡ first_of w) × (second_of w % byte_size ≡ second_of w)
  unfolding OfItem
  mask_fits e = masked (of_item w (one (mask (first_of w) (second_of w))) h (kind_mask w e))

  pub negated_mask_fits : kind_of w ≡ 2 → (first_of w % byte_size ≡ first_of w) × (second_of w % byte_size ≡ second_of w)
  unfolding OfItem OfTest
  negated_mask_fits e = masked (of_item w (one (negated_mask (first_of w) (second_of w))) h (kind_negated w e))

-- the test that a word says
abbrev pub IsTest : ℕ → Type 0
IsTest w = (t : Test) × (shape w ≡ item (one t))

pub is_test_lem : (w : ℕ) → is_test (shape w) ≡ true → IsTest w
is_test_lem w h = go (shape w) refl (sym h)
  where
    go : (s : Shape) → shape w ≡ s → true ≡ is_test s → IsTest w
    go (item (one t)) e f = (t, e)
    go (item (jump n)) e f = let z : ◌≡◌ {A = ℕ} 0 1 = cc in absurd (omega arith)
    go (item (range a b)) e f = let z : ◌≡◌ {A = ℕ} 0 1 = cc in absurd (omega arith)
    go (item (alt bs)) e f = let z : ◌≡◌ {A = ℕ} 0 1 = cc in absurd (omega arith)
    go (opens n) e f = let z : ◌≡◌ {A = ℕ} 0 1 = cc in absurd (omega arith)
    go (mark n) e f = let z : ◌≡◌ {A = ℕ} 0 1 = cc in absurd (omega arith)
    go wrong e f = let z : ◌≡◌ {A = ℕ} 0 1 = cc in absurd (omega arith)

pub passes_as : (w b : ℕ) (t : Test) {x : Bool} → shape w ≡ item (one t) → x ≡ pass_shape (shape w) b → pass t b ≡ x
passes_as w b t s e = sym (e ∙ ap (λ (q : Shape). pass_shape q b) s)
