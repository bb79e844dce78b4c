-- There are as many members as the size says. Assumes nothing.
use Rattle.std.proofs.Common.{◌≡◌, sym, ap, ap₂, ◌∙◌, Bool, true, false, cond, List, ◌∷◌, ℕ, zero, suc, ◌+◌, zero-add, add-zero, add_assoc, one-add, length}
use Rattle.bitmap.specs.declared.Bitmap.{Bitmap}
use Rattle.bitmap.specs.Bitmap.{has, tally, size, rising, members_from, members}
use Rattle.bitmap.proofs.Tally.{tally_nil, tally_same, tally_first}

pick_length : (t : Bool) (v : ℕ) (l : List ℕ) → length (cond t (v ∷ l) l) ≡ cond t 1 0 + length l
pick_length true v l = sym (one-add (length l))
pick_length false v l = sym (zero-add (length l))

rising_length : (p : ℕ → Bool) (v n : ℕ) → length (rising p v n) ≡ tally (λ j. p (v + j)) n
unfolding rising
rising_length p v zero = sym (tally_nil (λ j. p (v + j)))
rising_length p v (suc n) =
    let q : ℕ → Bool = λ j. p (v + j) in
    pick_length (p v) v (rising p (v + 1) n)
    ∙ ap₂ (λ (t : Bool) (x : ℕ). cond t 1 0 + x) (ap p (sym (add-zero v)))
    (rising_length p (v + 1) n ∙ tally_same (λ j. p ((v + 1) + j)) (λ j. q (1 + j)) n (λ j g. ap p (add_assoc v 1 j)))
    ∙ sym (tally_first q n)

pub members_size : (m : Bitmap) → length (members m) ≡ size m
unfolding members members_from size
members_size m = rising_length (has m) 0 256 ∙ tally_same (λ j. has m (0 + j)) (has m) 256 (λ j h. ap (has m) (zero-add j))
