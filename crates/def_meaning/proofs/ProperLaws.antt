-- One word: what the soundness test asks of it is what its row of the table has, and the word is the one that its shape has. Assumes nothing.
use mathlib.Core.Path.{◌≡◌, refl, sym, ap, ◌∙◌, subst}
use mathlib.Core.Bool.{Bool, true, false, cond, ◌&&◌}
use Prim.Native.Nat.{ℕ, ◌≤◌, ◌<◌}
use native.Mathlib.Omega.{arith}
use lib.Dec.{eqb, leb, ltb}
use lib.Bits.{bit_and, and_le_r}
use borrow.Author.Tests.{eqb-true, leb-true, ltb-true}
use Rattle.def_meaning.specs.Limits.{branch_limit}
use Rattle.def_meaning.specs.Programs.{Test, byte, mask, negated_mask, any, dot, Item, one, jump, range, alt}
use Rattle.def_meaning.specs.NodeWords.{word, Under, Flat, kind_0, kind_1, kind_2, kind_3, kind_5}
use Rattle.def_meaning.specs.Words.{byte_size, field_size, kind_of, first_of, second_of, word_size, Shape, item, opens, mark, wrong, shape_by, shape, word_of_shape, under_mask, counts, proper_by, proper, is_flat}
use Rattle.def_meaning.proofs.FieldLaws.{word_made}
use Rattle.def_meaning.proofs.MadeLaws.{Made, byte_made, mask_made, negated_mask_made, jump_made, dot_made}
use Rattle.def_meaning.proofs.SoundLaws.{and_left, and_right, false_true}

-- what the two tests of fields tell
under_of : (v m : ℕ) → under_mask v m ≡ true → (v < byte_size) × (m < byte_size) × Under v m
under_of v m e =
    let g : m < byte_size = ltb-true m byte_size (and_left (ltb m byte_size) (eqb (bit_and v m) v) e) in
    let u : Under v m = eqb-true (bit_and v m) v (and_right (ltb m byte_size) (eqb (bit_and v m) v) e) in
    (omega (arith, u, and_le_r v m), g, u)

counts_some : (a b : ℕ) → counts a b ≡ true → 1 ≤ a
counts_some a b e = leb-true 1 a (and_left (leb 1 a) (eqb b 0) e)

unnamed : (a b : ℕ) → counts a b ≡ true → eqb b 0 ≡ true
unnamed a b e = and_right (leb 1 a) (eqb b 0) e

-- what the shape of a proper word holds, as its row asks; no word says `any` or whole alternatives
unfoldable pub OfTest : Test → Type 0
OfTest (byte v) = v < byte_size
OfTest (mask v m) = (v < byte_size) × (m < byte_size) × Under v m
OfTest (negated_mask v m) = (v < byte_size) × (m < byte_size) × Under v m
OfTest any = ⊥
OfTest dot = Unit {0}

unfoldable pub OfItem : Item → Type 0
OfItem (one t) = OfTest t
OfItem (jump n) = (1 ≤ n) × (n < field_size)
OfItem (range a b) = (a ≤ b) × (b < field_size)
OfItem (alt bs) = ⊥

unfoldable pub OfShape : Shape → Type 0
OfShape (item i) = OfItem i
OfShape (opens n) = (1 ≤ n) × (n < field_size)
OfShape (mark n) = (1 ≤ n) × (n ≤ branch_limit)
OfShape wrong = ⊥

of_cond : (t : Bool) (x y : Shape) (p q : Bool) → (p ≡ true → OfShape x) → (q ≡ true → OfShape y) → cond t p q ≡ true → OfShape (cond t x y)
of_cond true x y p q f g h = f h
of_cond false x y p q f g h = g h

pub of_fields : (k a b : ℕ) → a < field_size → b < field_size → proper_by k a b ≡ true → OfShape (shape_by k a b)
unfolding shape_by proper_by OfShape OfItem OfTest
of_fields k a b h g =
    of_cond (eqb k 0) _ _ _ _ (λ e. ltb-true a byte_size (and_left (ltb a byte_size) (eqb b 0) e))
    (of_cond (eqb k 1) _ _ _ _ (under_of a b)
    (of_cond (eqb k 2) _ _ _ _ (under_of a b)
    (of_cond (eqb k 3) _ _ _ _ (λ e. (counts_some a b e, h))
    (of_cond (eqb k 4) _ _ _ _ (λ e. (leb-true a b e, g))
    (of_cond (eqb k 5) _ _ _ _ (λ e. tt)
    (of_cond (eqb k 6) _ _ _ _ (λ e. (counts_some a b e, h))
    (of_cond (eqb k 7) _ _ _ _ (λ e. (counts_some a b (and_right (leb a branch_limit) (counts a b) e), leb-true a branch_limit (and_left (leb a branch_limit) (counts a b) e))) (λ e. false_true e))))))))

pub of_shape : (w : ℕ) → proper w ≡ true → OfShape (shape w)
unfolding shape proper
of_shape w h = of_fields (kind_of w) (first_of w) (second_of w) (omega arith) (omega arith) (and_right (ltb w word_size) (proper_by (kind_of w) (first_of w) (second_of w)) h)

pub of_item : (w : ℕ) (i : Item) → proper w ≡ true → shape w ≡ item i → OfItem i
unfolding OfShape
of_item w i h e = subst OfShape e (of_shape w h)

pub of_opens : (w n : ℕ) → proper w ≡ true → shape w ≡ opens n → (1 ≤ n) × (n < field_size)
unfolding OfShape
of_opens w n h e = subst OfShape e (of_shape w h)

pub of_mark : (w n : ℕ) → proper w ≡ true → shape w ≡ mark n → (1 ≤ n) × (n ≤ branch_limit)
unfolding OfShape
of_mark w n h e = subst OfShape e (of_shape w h)

-- what holds at each kind, and where the kind is none of them, holds
by_kind : (P : ℕ → Type 0) (k : ℕ) → P 0 → P 1 → P 2 → P 3 → P 4 → P 5 → P 6 → P 7 → (eqb k 0 ≡ false → eqb k 1 ≡ false → eqb k 2 ≡ false → eqb k 3 ≡ false → eqb k 4 ≡ false → eqb k 5 ≡ false → eqb k 6 ≡ false → eqb k 7 ≡ false → P k) → P k
by_kind P k p0 p1 p2 p3 p4 p5 p6 p7 other =
    at 0 p0 (λ e0. at 1 p1 (λ e1. at 2 p2 (λ e2. at 3 p3 (λ e3. at 4 p4 (λ e4. at 5 p5 (λ e5. at 6 p6 (λ e6. at 7 p7 (λ e7. other e0 e1 e2 e3 e4 e5 e6 e7))))))))
  where
    at : (n : ℕ) → P n → (eqb k n ≡ false → P k) → P k
    at n p f = go (eqb k n) refl
      where
        go : (b : Bool) → eqb k n ≡ b → P k
        go true e = subst P (sym (eqb-true k n e)) p
        go false e = f e

made_again : (k a b : ℕ) → proper_by k a b ≡ true → word_of_shape (shape_by k a b) ≡ word k a b
unfolding shape_by proper_by
made_again k a b = by_kind (λ (j : ℕ). proper_by j a b ≡ true → word_of_shape (shape_by j a b) ≡ word j a b) k
    (λ h. zero_field 0 (and_right (ltb a byte_size) (eqb b 0) h))
    (λ h. refl)
    (λ h. refl)
    (λ h. zero_field 3 (unnamed a b h))
    (λ h. refl)
    (λ h. both h)
    (λ h. zero_field 6 (unnamed a b h))
    (λ h. zero_field 7 (unnamed a b (and_right (leb a branch_limit) (counts a b) h)))
    (λ e0 e1 e2 e3 e4 e5 e6 e7 h. false_true (rw (e0, e1, e2, e3, e4, e5, e6, e7) at h))
  where
    zero_field : (j : ℕ) → eqb b 0 ≡ true → word j a 0 ≡ word j a b
    zero_field j h = ap (word j a) (sym (eqb-true b 0 h))

    both : (eqb a 0 && eqb b 0) ≡ true → word 5 0 0 ≡ word 5 a b
    both h = let z : a ≡ 0 = eqb-true a 0 (and_left (eqb a 0) (eqb b 0) h) in let y : b ≡ 0 = eqb-true b 0 (and_right (eqb a 0) (eqb b 0) h) in omega arith

-- a proper word is the word of its shape
pub word_again : (w : ℕ) {s : Shape} → proper w ≡ true → shape w ≡ s → word_of_shape s ≡ w
unfolding proper shape
word_again w p e =
    let l : w < word_size = ltb-true _ _ (and_left (ltb w word_size) (proper_by (kind_of w) (first_of w) (second_of w)) p) in
    let f : proper_by (kind_of w) (first_of w) (second_of w) ≡ true = and_right (ltb w word_size) _ p in
    ap word_of_shape (sym e) ∙ made_again (kind_of w) (first_of w) (second_of w) f ∙ word_made field_size w l

-- from the test to the table
pub flat_of : (w : ℕ) (i : Item) → proper w ≡ true → shape w ≡ item i → is_flat i ≡ true → Flat w i
unfolding OfItem OfTest is_flat
flat_of w i h e g = subst (λ (x : ℕ). Flat x i) (word_again w h e) (row i (of_item w i h e) g)
  where
    row : (i : Item) → OfItem i → is_flat i ≡ true → Flat (word_of_shape (item i)) i
    row (one (byte v)) b g = kind_0 b
    row (one (mask v m)) b g = kind_1 b.0 b.1 b.2
    row (one (negated_mask v m)) b g = kind_2 b.0 b.1 b.2
    row (one any) b g = absurd b
    row (one dot) b g = kind_5
    row (jump n) b g = kind_3 b.0 b.1
    row (range x y) b g = false_true g
    row (alt bs) b g = absurd b

-- from the table to the test
pub flat_made : {w : ℕ} {i : Item} → Flat w i → Made w (item i)
flat_made (kind_0 {v = v} h) = byte_made v h
flat_made (kind_1 {v = v} {m = m} h g u) = mask_made v m h g u
flat_made (kind_2 {v = v} {m = m} h g u) = negated_mask_made v m h g u
flat_made (kind_3 {n = n} s h) = jump_made n s h
flat_made kind_5 = dot_made

pub flat_is : {w : ℕ} {i : Item} → Flat w i → is_flat i ≡ true
unfolding is_flat
flat_is (kind_0 h) = refl
flat_is (kind_1 h g u) = refl
flat_is (kind_2 h g u) = refl
flat_is (kind_3 s h) = refl
flat_is kind_5 = refl
