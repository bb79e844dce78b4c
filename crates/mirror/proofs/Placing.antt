-- Where the mirror's words go. Assumes nothing.
use Rattle.std.proofs.Common.{append-nil, reverse, ◌<◌, suc, get_or, take-suc, take_all, ◌≡◌, sym, ap, ap₂, ◌∙◌, List, [], ◌∷◌, ◌++◌, append_assoc, ℕ, ◌+◌, ◌-◌, ◌≤◌, arith, add-one, length, set, take, drop, length-drop, length-append, take_at, drop_at, length-take-le, take-suc-set, drop-set-lt}
use mathlib.Core.List.{reverse-append}
use Rattle.std.proofs.Math.Seq.{set_at}
use borrow.Rule.Slice.PartMut.{put_mid, Post-is}

-- words read backwards, one at a time, into as many places
module _ (S D : List ℕ) (l : length D ≡ length S) where
  pub reversed_none : D ≡ take (length S - 0) D ++ reverse (take 0 S)
  reversed_none = sym (append-nil _ ∙ take_all (length S - 0) D (omega arith))

  pub reversed_more : (i : ℕ) → i < length S → set (take (length S - i) D ++ reverse (take i S)) (length S - 1 - i) (get_or S i 0) ≡ take (length S - (i + 1)) D ++ reverse (take (i + 1) S)
  reversed_more i h =
      let m : length S - i ≡ suc (length S - 1 - i) = omega arith in
      let f : length S - (i + 1) ≡ length S - 1 - i = omega arith in
      ap (λ (x : List ℕ). set (x ++ reverse (take i S)) (length S - 1 - i) (get_or S i 0)) (ap (λ (n : ℕ). take n D) m ∙ take-suc D (length S - 1 - i) 0 (omega arith))
      ∙ ap (λ (x : List ℕ). set x (length S - 1 - i) (get_or S i 0)) (append_assoc (take (length S - 1 - i) D) (get_or D (length S - 1 - i) 0 ∷ []) (reverse (take i S)))
      ∙ set_at (take (length S - 1 - i) D) (get_or D (length S - 1 - i) 0) (reverse (take i S)) (get_or S i 0) (length S - 1 - i) (length-take-le _ D (omega arith))
      ∙ ap₂ (λ (n : ℕ) (x : List ℕ). take n D ++ x) (sym f) (sym (ap (λ (n : ℕ). reverse (take n S)) (add-one i) ∙ ap reverse (take-suc S i 0 h) ∙ reverse-append (take i S) (get_or S i 0 ∷ [])))

  pub reversed_all : (i : ℕ) → i ≡ length S → take (length S - i) D ++ reverse (take i S) ≡ reverse S
  reversed_all i h = let z : length S - i ≡ 0 = omega arith in rw z (ap reverse (take_all i S (omega arith)))

-- a word w at t and the words ys in the places after it, up to e
abbrev pub put : List ℕ → List ℕ → ℕ → ℕ → ℕ → List ℕ
put out ys w t e = put_mid (t + 1) (e - (t + 1)) (set out t w) ys

module _ (out ys : List ℕ) (w t e : ℕ) (h : t + 1 ≤ e) (l : e ≤ length out) (n : length ys ≡ e - (t + 1)) where
  put_is : put out ys w t e ≡ (take t out ++ (w ∷ ys)) ++ drop e out
  put_is =
      ap₂ (λ (a : List ℕ) (b : List ℕ). a ++ (ys ++ b))
      (ap (λ (k : ℕ). take k (set out t w)) (add-one t) ∙ take-suc-set out t w (omega arith))
      (Post-is (t + 1) e (set out t w) h ∙ drop-set-lt e out t w (omega arith))
      ∙ append_assoc (take t out) (w ∷ []) (ys ++ drop e out)
      ∙ sym (append_assoc (take t out) (w ∷ ys) (drop e out))

  head_length : length (take t out ++ (w ∷ ys)) ≡ e
  head_length = omega (arith, length-append (take t out) (w ∷ ys), length-take-le t out (omega arith))

  pub put_length : length (put out ys w t e) ≡ length out
  put_length = ap length put_is ∙ omega (arith, length-append (take t out ++ (w ∷ ys)) (drop e out), head_length, length-drop e out)

  pub put_front : take e (put out ys w t e) ≡ take t out ++ (w ∷ ys)
  put_front = ap (take e) put_is ∙ take_at (take t out ++ (w ∷ ys)) (drop e out) e head_length

  pub put_back : drop t (put out ys w t e) ≡ (w ∷ ys) ++ drop e out
  put_back = ap (drop t) (put_is ∙ append_assoc (take t out) (w ∷ ys) (drop e out)) ∙ drop_at (take t out) _ t (length-take-le t out (omega arith))
