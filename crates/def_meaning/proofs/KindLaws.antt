-- The kind of a word and what it says. Assumes nothing.
use mathlib.Core.Path.{◌≡◌, refl}
use mathlib.Core.Bool.{Bool, true, false, cond}
use Prim.Native.Nat.{ℕ}
use lib.Dec.{eqb}
use borrow.Author.Tests.{eqb-true}
use Rattle.def_meaning.specs.Programs.{byte, mask, negated_mask, dot, one, jump, range, alt}
use Rattle.def_meaning.specs.Words.{kind_of, first_of, second_of, Shape, item, opens, mark, wrong, shape_by, shape}

-- the kind that a shape has
abbrev pub Seen : ℕ → Shape → Type 0
Seen k (item (one t)) = Unit {0}
Seen k (item (jump n)) = k ≡ 3
Seen k (item (range a b)) = k ≡ 4
Seen k (item (alt bs)) = ⊥
Seen k (opens n) = k ≡ 6
Seen k (mark n) = k ≡ 7
Seen k wrong = Unit {0}

seen_by : (k a b : ℕ) → Seen k (shape_by k a b)
unfolding shape_by
seen_by k a b = go (eqb k 0) (eqb k 1) (eqb k 2) (eqb k 3) (eqb k 4) (eqb k 5) (eqb k 6) (eqb k 7) (eqb-true k 3) (eqb-true k 4) (eqb-true k 6) (eqb-true k 7)
  where
    go : (x y z u v s t q : Bool) → (u ≡ true → k ≡ 3) → (v ≡ true → k ≡ 4) → (t ≡ true → k ≡ 6) → (q ≡ true → k ≡ 7) → Seen k (cond x (item (one (byte a))) (cond y (item (one (mask a b))) (cond z (item (one (negated_mask a b))) (cond u (item (jump a)) (cond v (item (range a b)) (cond s (item (one dot)) (cond t (opens a) (cond q (mark a) wrong))))))))
    go true y z u v s t q e f g h = tt
    go false true z u v s t q e f g h = tt
    go false false true u v s t q e f g h = tt
    go false false false true v s t q e f g h = e refl
    go false false false false true s t q e f g h = f refl
    go false false false false false true t q e f g h = tt
    go false false false false false false true q e f g h = g refl
    go false false false false false false false true e f g h = h refl
    go false false false false false false false false e f g h = tt

module _ (w : ℕ) where
  pub seen : Seen (kind_of w) (shape w)
  unfolding shape
  seen = seen_by (kind_of w) (first_of w) (second_of w)

  -- the shape of a word by its kind
  pub kind_byte : kind_of w ≡ 0 → shape w ≡ item (one (byte (first_of w)))
  unfolding shape shape_by
  kind_byte e = rw e

  pub kind_mask : kind_of w ≡ 1 → shape w ≡ item (one (mask (first_of w) (second_of w)))
  unfolding shape shape_by
  kind_mask e = rw e

  pub kind_negated : kind_of w ≡ 2 → shape w ≡ item (one (negated_mask (first_of w) (second_of w)))
  unfolding shape shape_by
  kind_negated e = rw e

  -- and with the fields as they were read out of it
  pub kind_jump : {a : ℕ} → kind_of w ≡ 3 → a ≡ first_of w → shape w ≡ item (jump a)
  unfolding shape shape_by
  kind_jump e f = rw (e, f)

  pub kind_range : {a b : ℕ} → kind_of w ≡ 4 → a ≡ first_of w → b ≡ second_of w → shape w ≡ item (range a b)
  unfolding shape shape_by
  kind_range e f g = rw (e, f, g)

  pub kind_opens : {n : ℕ} → kind_of w ≡ 6 → n ≡ first_of w → shape w ≡ opens n
  unfolding shape shape_by
  kind_opens e f = rw (e, f)

  pub kind_mark : {n : ℕ} → kind_of w ≡ 7 → n ≡ first_of w → shape w ≡ mark n
  unfolding shape shape_by
  kind_mark e f = rw (e, f)
