-- What a word that is made of a kind and two fields says, and when it is proper: for any kind, and kind by kind. Assumes nothing.
use mathlib.Core.Path.{◌≡◌, refl}
use mathlib.Core.Bool.{true}
use Prim.Native.Nat.{ℕ, ◌≤◌, ◌<◌}
use native.Mathlib.Omega.{arith}
use lib.Bits.{bit_and}
use borrow.Author.Tests.{eq-eqb, lt-ltb, le-leb}
use Rattle.def_meaning.specs.Limits.{branch_limit}
use Rattle.def_meaning.specs.Programs.{byte, mask, negated_mask, dot, one, jump, range}
use Rattle.def_meaning.specs.NodeWords.{word, Under}
use Rattle.def_meaning.specs.Words.{byte_size, field_size, word_size, Shape, item, opens, mark, shape_by, shape, under_mask, counts, proper_by, proper}
use Rattle.def_meaning.proofs.FieldLaws.{kind_made, first_made, second_made}

-- a word that may stand in a sound program, and what it says
pub record Made (w : ℕ) (s : Shape) : Type 0 where
  pub properly : proper w ≡ true
  pub says : shape w ≡ s

module _ (k a b : ℕ) (hk : k < 256) (ha : a < field_size) (hb : b < field_size) where
  pub made_shape : shape (word k a b) ≡ shape_by k a b
  unfolding shape
  made_shape = rw (kind_made field_size k a b hk ha hb, first_made field_size k a b hk ha hb, second_made field_size k a b hk ha hb)

  made_proper : proper_by k a b ≡ true → proper (word k a b) ≡ true
  unfolding proper
  made_proper h =
      let l : word k a b < word_size = omega arith in
      rw (lt-ltb (word k a b) (word_size) l, kind_made field_size k a b hk ha hb, first_made field_size k a b hk ha hb, second_made field_size k a b hk ha hb) h

  made : proper_by k a b ≡ true → Made (word k a b) (shape_by k a b)
  made h = record { properly = made_proper h; says = made_shape }

-- kind by kind
pub byte_made : (v : ℕ) → v < byte_size → Made (word 0 v 0) (item (one (byte v)))
unfolding proper_by shape_by
byte_made v h = made 0 v 0 (omega arith) (omega arith) (omega arith) (rw (lt-ltb v byte_size h))

under_mask_lem : (v m : ℕ) → m < byte_size → Under v m → under_mask v m ≡ true
under_mask_lem v m h u = rw (lt-ltb m byte_size h, eq-eqb (bit_and v m) v u)

counted : (n : ℕ) → 1 ≤ n → counts n 0 ≡ true
counted n h = rw (le-leb 1 n h)

pub mask_made : (v m : ℕ) → v < byte_size → m < byte_size → Under v m → Made (word 1 v m) (item (one (mask v m)))
unfolding proper_by shape_by
mask_made v m h g u = made 1 v m (omega arith) (omega arith) (omega arith) (under_mask_lem v m g u)

pub negated_mask_made : (v m : ℕ) → v < byte_size → m < byte_size → Under v m → Made (word 2 v m) (item (one (negated_mask v m)))
unfolding proper_by shape_by
negated_mask_made v m h g u = made 2 v m (omega arith) (omega arith) (omega arith) (under_mask_lem v m g u)

pub jump_made : (n : ℕ) → 1 ≤ n → n < field_size → Made (word 3 n 0) (item (jump n))
unfolding proper_by shape_by
jump_made n s h = made 3 n 0 (omega arith) h (omega arith) (counted n s)

pub range_made : (a b : ℕ) → a ≤ b → b < field_size → Made (word 4 a b) (item (range a b))
unfolding proper_by shape_by
range_made a b h g = made 4 a b (omega arith) (omega arith) g (le-leb a b h)

pub dot_made : Made (word 5 0 0) (item (one dot))
unfolding proper_by shape_by
dot_made = made 5 0 0 (omega arith) (omega arith) (omega arith) refl

pub opens_made : (n : ℕ) → 1 ≤ n → n < field_size → Made (word 6 n 0) (opens n)
unfolding proper_by shape_by
opens_made n h g = made 6 n 0 (omega arith) g (omega arith) (counted n h)

pub mark_made : (n : ℕ) → 1 ≤ n → n ≤ branch_limit → Made (word 7 n 0) (mark n)
unfolding proper_by shape_by
mark_made n s h = made 7 n 0 (omega arith) (omega arith) (omega arith) (rw (le-leb n branch_limit h) (counted n s))
