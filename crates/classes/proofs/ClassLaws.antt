-- Classes: what a bitmap holds is what the entry takes. Assumes nothing.
use Rattle.std.proofs.Common.{◌≡◌, refl, sym, ap, ◌∙◌, Bool, true, false, cond, List, [], ◌∷◌, ℕ, zero, suc, ◌+◌, ◌≤◌, ◌<◌, arith, length}
use Rattle.def_meaning.specs.Tokens.{left, right, all, Token, Byte, NotByte, MaskedByte, NotMaskedByte, Jump, Alternatives}
use Rattle.bitmap.specs.declared.Bitmap.{Bitmap}
use Rattle.bitmap.specs.Bitmap.{has, Holds, size, rising, members_from, members}
use Rattle.bitmap.proofs.Tally.{tally_not}
use Rattle.bitmap.proofs.Members.{members_size}
use Rattle.def_picking.specs.Literals.{kept, passing, bytes_that, taken}
use Rattle.classes.specs.Classes.{passes}

-- ---- the members in order

kept_same : (p q : ℕ → Bool) (v n : ℕ) → v + n ≤ 256 → ((b : ℕ) → b < 256 → p b ≡ q b) → rising p v n ≡ passing q v n
unfolding rising passing kept
kept_same p q v zero l h = refl
kept_same p q v (suc n) l h = go (p v) (q v) (h v (omega arith)) (kept_same p q (v + 1) n (omega arith) h)
  where
    go : (s t : Bool) → s ≡ t → rising p (v + 1) n ≡ passing q (v + 1) n → cond s (v ∷ rising p (v + 1) n) (rising p (v + 1) n) ≡ kept t v (passing q (v + 1) n)
    go true true e r = ap (λ (l : List ℕ). v ∷ l) r
    go true false e r = absurd (let z : ◌≡◌ {A = ℕ} 0 1 = cc in omega arith)
    go false true e r = absurd (let z : ◌≡◌ {A = ℕ} 0 1 = cc in omega arith)
    go false false e r = r

passing_none : (v n : ℕ) → passing (λ b. false) v n ≡ []
unfolding passing kept
passing_none v zero = refl
passing_none v (suc n) = passing_none (v + 1) n

-- a class takes the bytes that pass its test
class_taken : (t : Token) → ((v : ℕ) → t ≡ Byte v → ⊥) → bytes_that (passes t) ≡ taken t
unfolding passes taken
class_taken (Byte v) h = absurd (h v refl)
class_taken (NotByte v) h = refl
class_taken (MaskedByte v left) h = refl
class_taken (MaskedByte v right) h = refl
class_taken (MaskedByte v all) h = passing_none 0 256
class_taken (NotMaskedByte v left) h = refl
class_taken (NotMaskedByte v right) h = refl
class_taken (NotMaskedByte v all) h = passing_none 0 256
class_taken (Jump from to) h = passing_none 0 256
class_taken (Alternatives ls) h = passing_none 0 256

held_members : (m : Bitmap) (t : Token) → ((v : ℕ) → t ≡ Byte v → ⊥) → Holds m (passes t) → members_from m 0 ≡ taken t
unfolding members_from
held_members m t n h = kept_same (has m) (passes t) 0 256 (omega arith) h ∙ class_taken t n

pub held_size : (m : Bitmap) (t : Token) → ((v : ℕ) → t ≡ Byte v → ⊥) → Holds m (passes t) → size m ≡ length (taken t)
unfolding members
held_size m t n h = sym (members_size m) ∙ ap length (held_members m t n h)

pub size_le : (m : Bitmap) → size m ≤ 256
unfolding size
size_le m = omega (arith, tally_not (has m) 256)
