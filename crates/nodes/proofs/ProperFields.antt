-- The tests by which the code knows proper fields are those of the definition. Assumes nothing.
use mathlib.Core.Path.{◌≡◌, refl, sym, ap, ap₂, ◌∙◌}
use mathlib.Core.Bool.{Bool, true, false, ◌&&◌, and_comm, and-true, and-false}
use Prim.Native.Nat.{ℕ, zero, suc, ◌+◌, ◌*◌, ◌/◌, ◌%◌, ◌≤◌, ◌<◌}
use native.Mathlib.Omega.{arith}
use native.Mathlib.Nat.{mod-eq_of_lt}
use lib.Dec.{eqb, leb, ltb, leb-suc-suc}
use lib.Bits.{bit_and, and_mask}
use borrow.Author.Tests.{eq-eqb, ne_eqb, leb-true, leb-false, le-leb, lt-leb, ltb-true, ltb-false, lt-ltb, le-ltb}
use Rattle.def_meaning.specs.Limits.{branch_limit}
use Rattle.def_meaning.specs.Words.{byte_size, field_size, first_of, second_of, word_size, counts, proper_by}
use Rattle.def_meaning.proofs.FieldLaws.{word_made}
use Rattle.nodes.specs.Nodes.{mask_in, most_in}

-- a number is a byte if FF leaves it as it is
byte_kept : (a : ℕ) → eqb (bit_and a 0xFF) a ≡ ltb a byte_size
byte_kept a = go (ltb a byte_size) refl
  where
    e : bit_and a 0xFF ≡ a % 256
    e = and_mask a 8

    go : (t : Bool) → ltb a byte_size ≡ t → eqb (bit_and a 0xFF) a ≡ t
    go true h = eq-eqb (bit_and a 0xFF) a (e ∙ mod-eq_of_lt (ltb-true a byte_size h))
    go false h = let l : byte_size ≤ a = ltb-false a byte_size h in ne_eqb (bit_and a 0xFF) a (λ f. absurd (omega (arith, e, f)))

only_zero : (b : ℕ) → leb b 0 ≡ eqb b 0
only_zero zero = refl
only_zero (suc b) = lt-leb (suc b) 0 (omega arith) ∙ sym (ne_eqb (suc b) 0 (λ e. absurd (omega arith)))

-- the three kinds that test a byte
pub test_fields : (k a b : ℕ) → k ≤ 2 → (leb b (most_in k) && eqb (bit_and a (mask_in k b)) a) ≡ proper_by k a b
unfolding proper_by
test_fields zero a b h = and_comm (leb b 0) (eqb (bit_and a 0xFF) a) ∙ ap₂ ◌&&◌ (byte_kept a) (only_zero b)
test_fields (suc zero) a b h = ap (λ (t : Bool). t && eqb (bit_and a b) a) (sym (leb-suc-suc b 0xFF))
test_fields (suc (suc zero)) a b h = ap (λ (t : Bool). t && eqb (bit_and a b) a) (sym (leb-suc-suc b 0xFF))
test_fields (suc (suc (suc k))) a b h = absurd (omega arith)

-- both fields in one number
pub both_fields : (w : ℕ) → w < word_size → w / 256 ≡ first_of w + field_size * second_of w
both_fields w h = let e = word_made field_size w h in omega arith

counts_both : (n a b : ℕ) → a < field_size → n ≤ field_size → (leb 1 (a + field_size * b) && ltb (a + field_size * b) n) ≡ (ltb a n && counts a b)
counts_both n a zero h g = let e : a + field_size * 0 ≡ a = omega arith in rw e (and_comm (leb 1 a) (ltb a n) ∙ ap (λ (t : Bool). ltb a n && t) (sym (and-true (leb 1 a))))
counts_both n a (suc b) h g =
    rw (le-ltb (a + field_size * suc b) n (omega arith), ne_eqb (suc b) 0 (λ e. absurd (omega arith)))
    (and-false (leb 1 (a + field_size * suc b)) ∙ sym (ap (λ (t : Bool). ltb a n && t) (and-false (leb 1 a)) ∙ and-false (ltb a n)))

none_both : (a b : ℕ) → eqb (a + field_size * b) 0 ≡ (eqb a 0 && eqb b 0)
none_both zero zero = refl
none_both zero (suc b) = ne_eqb (0 + field_size * suc b) 0 (λ e. absurd (omega arith)) ∙ sym (ne_eqb (suc b) 0 (λ e. absurd (omega arith)))
none_both (suc a) b = ne_eqb (suc a + field_size * b) 0 (λ e. absurd (omega arith)) ∙ sym (ap (λ (t : Bool). t && eqb b 0) (ne_eqb (suc a) 0 (λ e. absurd (omega arith))))

-- a word asked itself
some_fields : (w : ℕ) → leb 256 w ≡ leb 1 (w / 256)
some_fields w = go (leb 1 (w / 256)) refl
  where
    go : (t : Bool) → leb 1 (w / 256) ≡ t → leb 256 w ≡ t
    go true h = le-leb 256 w (omega (arith, leb-true 1 (w / 256) h))
    go false h = lt-leb 256 w (omega (arith, leb-false 1 (w / 256) h))

fields_below : (w n : ℕ) → ltb w (256 * n) ≡ ltb (w / 256) n
fields_below w n = go (ltb (w / 256) n) refl
  where
    go : (t : Bool) → ltb (w / 256) n ≡ t → ltb w (256 * n) ≡ t
    go true h = lt-ltb w (256 * n) (omega (arith, ltb-true (w / 256) n h))
    go false h = le-ltb w (256 * n) (omega (arith, ltb-false (w / 256) n h))

below_one : (x : ℕ) → ltb x 1 ≡ eqb x 0
below_one x = leb-suc-suc x 0 ∙ only_zero x

-- the kinds that count, and Dot
module _ (w : ℕ) (h : w < word_size) where
  both_counts : (n : ℕ) → n ≤ field_size → (leb 256 w && ltb w (256 * n)) ≡ (ltb (first_of w) n && counts (first_of w) (second_of w))
  both_counts n g = ap₂ ◌&&◌ (some_fields w) (fields_below w n) ∙ ap (λ (x : ℕ). leb 1 x && ltb x n) (both_fields w h) ∙ counts_both n (first_of w) (second_of w) (omega arith) g

  pub whole_fields : (leb 256 w && ltb w (256 * field_size)) ≡ counts (first_of w) (second_of w)
  whole_fields = both_counts field_size (omega arith) ∙ ap (λ (t : Bool). t && counts (first_of w) (second_of w)) (lt-ltb (first_of w) field_size (omega arith))

  pub branch_fields : (leb 256 w && ltb w 65536) ≡ (leb (first_of w) branch_limit && counts (first_of w) (second_of w))
  branch_fields = both_counts 256 (omega arith) ∙ ap (λ (t : Bool). t && counts (first_of w) (second_of w)) (leb-suc-suc (first_of w) branch_limit)

  pub no_fields : ltb w 256 ≡ (eqb (first_of w) 0 && eqb (second_of w) 0)
  no_fields = fields_below w 1 ∙ below_one (w / 256) ∙ ap (λ (x : ℕ). eqb x 0) (both_fields w h) ∙ none_both (first_of w) (second_of w)
