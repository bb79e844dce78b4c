-- Token entries by their kind, and which of them are plain. Assumes nothing.
use Rattle.std.proofs.Common.{◌≡◌, refl, Bool, true, false, cond, ℕ, ◌%◌, eqb}
use mathlib.Core.Option.{none}
use Rattle.def_meaning.specs.Tokens.{Token, Byte, NotByte, MaskedByte, NotMaskedByte, Jump, Mask}
use Rattle.def_picking.specs.Runs.{plain_inside}
use Rattle.classes.specs.Entry.{mask_in, entry_token}

-- ---- any entry

pub entry_cases : (P : Token → Type 0) → ((v : ℕ) → P (Byte v)) → ((v : ℕ) → P (NotByte v)) → ((v : ℕ) (m : Mask) → P (MaskedByte v m)) → ((v : ℕ) (m : Mask) → P (NotMaskedByte v m))
    → P (Jump 0 none) → (k v m : ℕ) → P (entry_token k v m)
unfolding entry_token
entry_cases P a b c d e k v m = go (eqb k 0) (eqb k 1) (eqb k 2) (eqb k 3)
  where
    go : (p q r s : Bool) → P (cond p (Byte (v % 256)) (cond q (NotByte (v % 256)) (cond r (MaskedByte (v % 16) (mask_in m)) (cond s (NotMaskedByte (v % 16) (mask_in m)) (Jump 0 none)))))
    go true q r s = a (v % 256)
    go false true r s = b (v % 256)
    go false false true s = c (v % 16) (mask_in m)
    go false false false true = d (v % 16) (mask_in m)
    go false false false false = e

pub entry_inside : (k v m : ℕ) → plain_inside (entry_token k v m) ≡ true
unfolding plain_inside entry_token
entry_inside k v m = go (eqb k 0) (eqb k 1) (eqb k 2) (eqb k 3)
  where
    go : (a b c d : Bool) → plain_inside (cond a (Byte (v % 256)) (cond b (NotByte (v % 256)) (cond c (MaskedByte (v % 16) (mask_in m)) (cond d (NotMaskedByte (v % 16) (mask_in m)) (Jump 0 none))))) ≡ true
    go true b c d = refl
    go false true c d = refl
    go false false true d = refl
    go false false false true = refl
    go false false false false = refl
