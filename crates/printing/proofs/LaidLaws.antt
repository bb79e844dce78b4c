-- Laws of bytes laid into a buffer: one writer after another, and what the buffer holds in the end. Assumes nothing.
use Rattle.std.proofs.Common.{◌≡◌, refl, sym, ap, ◌∙◌, Bool, true, false, List, [], ◌∷◌, ◌++◌, append_assoc, append-nil, ℕ, suc, ◌+◌, ◌-◌, ◌≤◌, ◌<◌, min, arith, add-one, length, take, drop, set, get_or, length-append, length-set, length-drop, drop_of_length-le, ltb, leb, ltb-true, ltb-false, leb-true, leb-false, take_all, drop-drop, take-suc-set, take-suc}
use mathlib.Core.List.{flat_map}
use borrow.Rule.Slice.PartMut.{put_mid}
use Rattle.std.proofs.Math.Seq.{take-nil, set_out, sets, sets-eq}
use Rattle.printing.specs.Laid.{laid, Put}

pub length_laid : (bs p : List ℕ) (at : ℕ) → length (laid p at bs) ≡ length p
unfolding laid
length_laid [] p at = refl
length_laid (b ∷ bs) p at = length_laid bs (set p at b) (at + 1) ∙ length-set p at b

-- one run of bytes after another is the two joined
pub laid_join : (xs bs p : List ℕ) (at : ℕ) → laid (laid p at xs) (at + length xs) bs ≡ laid p at (xs ++ bs)
unfolding laid
laid_join [] bs p at = let e : at + 0 ≡ at = omega arith in ap (λ (n : ℕ). laid p n bs) e
laid_join (x ∷ xs) bs p at =
    let e : at + suc (length xs) ≡ at + 1 + length xs = omega arith in
    ap (λ (n : ℕ). laid (laid (set p at x) (at + 1) xs) n bs) e ∙ laid_join xs bs (set p at x) (at + 1)

-- past the end nothing is changed
pub laid_past : (bs p : List ℕ) (at : ℕ) → length p ≤ at → laid p at bs ≡ p
unfolding laid
laid_past [] p at h = refl
laid_past (b ∷ bs) p at h = ap (λ (q : List ℕ). laid q (at + 1) bs) (set_out p at b h) ∙ laid_past bs p (at + 1) (omega arith)

-- where they fit: what stood before them, the bytes, what stood after them
as_sets : (bs p : List ℕ) (at : ℕ) → laid p at bs ≡ sets p at bs
unfolding laid
as_sets [] p at = refl
as_sets (b ∷ bs) p at = ap (λ (n : ℕ). laid (set p at b) n bs) (add-one at) ∙ as_sets bs (set p at b) (suc at)

pub laid_fits : (bs p : List ℕ) (at : ℕ) → at + length bs ≤ length p → laid p at bs ≡ take at p ++ (bs ++ drop (at + length bs) p)
laid_fits bs p at h = as_sets bs p at ∙ sets-eq bs p at h ∙ append_assoc (take at p) bs (drop (at + length bs) p)

-- where they do not all fit: what stood before them, and as many of them as the buffer has room for
pub laid_cut : (bs p : List ℕ) (at : ℕ) → at ≤ length p → length p ≤ at + length bs → laid p at bs ≡ take at p ++ take (length p - at) bs
unfolding laid
laid_cut [] p at h k =
    let e : at ≡ length p = omega arith in
    sym (ap (λ (x : List ℕ). take at p ++ x) (take-nil (length p - at)) ∙ append-nil (take at p) ∙ take_all at p (omega arith))
laid_cut (b ∷ bs) p at h k = go (ltb at (length p)) refl (λ l. laid_cut bs (set p at b) (at + 1) (rw (length-set p at b) (omega arith)) (rw (length-set p at b) (omega arith)))
  where
    go : (t : Bool) → ltb at (length p) ≡ t → (at < length p → laid (set p at b) (at + 1) bs ≡ take (at + 1) (set p at b) ++ take (length (set p at b) - (at + 1)) bs) → laid p at (b ∷ bs) ≡ take at p ++ take (length p - at) (b ∷ bs)
    go false e r =
        let l : length p ≤ at = ltb-false at (length p) e in
        let z : length p - at ≡ 0 = omega arith in
        laid_past (b ∷ bs) p at l ∙ sym (ap (λ (n : ℕ). take at p ++ take n (b ∷ bs)) z ∙ append-nil (take at p) ∙ take_all at p l)
    go true e r =
        let l : at < length p = ltb-true at (length p) e in
        let m : length p - at ≡ suc (length p - (at + 1)) = omega arith in
        r l
        ∙ ap (λ (n : ℕ). take (at + 1) (set p at b) ++ take (n - (at + 1)) bs) (length-set p at b)
        ∙ ap (λ (x : List ℕ). x ++ take (length p - (at + 1)) bs) (ap (λ (n : ℕ). take n (set p at b)) (add-one at) ∙ take-suc-set p at b l)
        ∙ append_assoc (take at p) (b ∷ []) (take (length p - (at + 1)) bs)
        ∙ ap (λ (n : ℕ). take at p ++ take n (b ∷ bs)) (sym m)

-- as many of them as there is room for, copied into their place
pub laid_copied : (bs p new : List ℕ) (at n : ℕ) → at < length p → n ≡ min (length bs) (length p - at) → new ≡ take n bs → put_mid at (at + n - at) p new ≡ laid p at bs
laid_copied bs p new at n l h e = go (leb (at + length bs) (length p)) refl
  where
    go : (t : Bool) → leb (at + length bs) (length p) ≡ t → put_mid at (at + n - at) p new ≡ laid p at bs
    go true k =
        let b : at + length bs ≤ length p = leb-true (at + length bs) (length p) k in
        let m : at + n - at ≡ length bs = omega arith in
        ap (λ (x : List ℕ). take at p ++ (x ++ drop (at + n - at) (drop at p))) (e ∙ take_all n bs (omega arith))
        ∙ ap (λ (x : List ℕ). take at p ++ (bs ++ x)) (ap (λ (j : ℕ). drop j (drop at p)) m ∙ drop-drop (length bs) at p)
        ∙ sym (laid_fits bs p at b)
    go false k =
        let b : length p < at + length bs = leb-false (at + length bs) (length p) k in
        let m : n ≡ length p - at = omega arith in
        let z : length (drop at p) ≤ at + n - at = rw (length-drop at p) (omega arith) in
        ap (λ (x : List ℕ). take at p ++ (new ++ x)) (drop_of_length-le (drop at p) z)
        ∙ ap (λ (x : List ℕ). take at p ++ x) (append-nil new ∙ e ∙ ap (λ (j : ℕ). take j bs) m)
        ∙ sym (laid_cut bs p at (omega arith) (omega arith))

-- writers, one after another
pub put_none : (p : List ℕ) (at : ℕ) → Put p at [] at p
unfolding laid
put_none p at = record { next = omega arith; holds = refl }

pub put_then : {p q s xs bs : List ℕ} {at m r : ℕ} → Put p at xs m q → Put q m bs r s → Put p at (xs ++ bs) r s
put_then {p} {q} {s} {xs} {bs} {at} {m} {r} a b = record {
  next = b.next ∙ ap (λ (n : ℕ). n + length bs) a.next ∙ (let e : at + length xs + length bs ≡ at + (length xs + length bs) = omega arith in e) ∙ ap (λ (n : ℕ). at + n) (sym (length-append xs bs));
  holds = b.holds ∙ ap (λ (n : ℕ). laid q n bs) a.next ∙ ap (λ (x : List ℕ). laid x (at + length xs) bs) a.holds ∙ laid_join xs bs p at;
}

pub put_three : {p q s t xs ys zs : List ℕ} {at m n r : ℕ} → Put p at xs m q → Put q m ys n s → Put s n zs r t → Put p at (xs ++ (ys ++ zs)) r t
put_three a b c = put_then a (put_then b c)

-- a writer of other bytes that are the same
pub put_same : {p q xs : List ℕ} {at r : ℕ} (bs : List ℕ) → Put p at xs r q → xs ≡ bs → Put p at bs r q
put_same {p} {q} {xs} {at} {r} bs a e = record { next = a.next ∙ ap (λ (x : List ℕ). at + length x) e; holds = a.holds ∙ ap (λ (x : List ℕ). laid p at x) e }

pub put_length : {p q bs : List ℕ} {at r : ℕ} → Put p at bs r q → length q ≡ length p
put_length {p} {q} {bs} {at} {r} a = ap length a.holds ∙ length_laid bs p at

-- one more of a list that is written element by element
pub flat_map_append : (f : ℕ → List ℕ) (xs ys : List ℕ) → flat_map f (xs ++ ys) ≡ flat_map f xs ++ flat_map f ys
unfolding flat_map
flat_map_append f [] ys = refl
flat_map_append f (x ∷ xs) ys = ap (λ (z : List ℕ). f x ++ z) (flat_map_append f xs ys) ∙ sym (append_assoc (f x) (flat_map f xs) (flat_map f ys))

pub flat_map_none : (f : ℕ → List ℕ) → flat_map f [] ≡ []
unfolding flat_map
flat_map_none f = refl

pub flat_map_one : (f : ℕ → List ℕ) (x : ℕ) → flat_map f (x ∷ []) ≡ f x
unfolding flat_map
flat_map_one f x = append-nil (f x)

pub flat_map_more : (f : ℕ → List ℕ) (s : List ℕ) (i : ℕ) → i < length s → flat_map f (take i s) ++ f (get_or s i 0) ≡ flat_map f (take (i + 1) s)
flat_map_more f s i h =
    ap (λ (x : List ℕ). flat_map f (take i s) ++ x) (sym (flat_map_one f (get_or s i 0)))
    ∙ sym (flat_map_append f (take i s) (get_or s i 0 ∷ []))
    ∙ ap (flat_map f) (sym (take-suc s i 0 h) ∙ ap (λ (n : ℕ). take n s) (sym (add-one i)))
