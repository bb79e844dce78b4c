-- Laws of words written into a pool. Assumes nothing.
use Rattle.std.proofs.Common.{◌≡◌, ℕ, suc, ◌+◌, ◌≤◌, List, [], ◌∷◌, ◌++◌, slice_set, length, take, drop, sym, ap, ap₂, ◌∙◌, append_assoc, arith, length-append, take-append-drop, length-take-le, take_at, drop_at, drop-drop, take-take}
use Rattle.std.proofs.Math.Seq.{drop-append-add, take-append-le, sets-eq}
use Rattle.reader.specs.Written.{written}

pub written_none : (p : List ℕ) (n : ℕ) → p ≡ written p n []
unfolding written
written_none p n = let e : n + 0 ≡ n = omega arith in rw e (sym (take-append-drop n p))

-- an entry is written word by word
pub written_four : (p : List ℕ) (n : ℕ) (k a b c : ℕ) → n + 4 ≤ length p → slice_set (slice_set (slice_set (slice_set p n k) (n + 1) a) (n + 2) b) (n + 3) c ≡ written p n (k ∷ a ∷ b ∷ c ∷ [])
unfolding written
written_four p n k a b c h =
    let e1 : n + 1 ≡ suc n = omega arith in
    let e2 : n + 2 ≡ suc (suc n) = omega arith in
    let e3 : n + 3 ≡ suc (suc (suc n)) = omega arith in
    ap (λ (i : ℕ). slice_set (slice_set (slice_set (slice_set p n k) i a) (n + 2) b) (n + 3) c) e1
    ∙ ap₂ (λ (i j : ℕ). slice_set (slice_set (slice_set (slice_set p n k) (suc n) a) i b) j c) e2 e3
    ∙ sets-eq (k ∷ a ∷ b ∷ c ∷ []) p n h
    ∙ append_assoc (take n p) (k ∷ a ∷ b ∷ c ∷ []) (drop (n + 4) p)

pub written_append : (p : List ℕ) (n : ℕ) (ws vs : List ℕ) → n ≤ length p → written (written p n ws) (n + length ws) vs ≡ written p n (ws ++ vs)
unfolding written
written_append p n ws vs h =
    let a = take n p in
    let d = drop (n + length ws) p in
    let la : length a ≡ n = length-take-le n p h in
    let l : length (a ++ ws) ≡ n + length ws = length-append a ws ∙ ap (λ (k : ℕ). k + length ws) la in
    let s : a ++ (ws ++ d) ≡ (a ++ ws) ++ d = sym (append_assoc a ws d) in
    let t : take (n + length ws) (a ++ (ws ++ d)) ≡ a ++ ws = ap (take (n + length ws)) s ∙ take_at (a ++ ws) d (n + length ws) l in
    let u : drop (n + length ws + length vs) (a ++ (ws ++ d)) ≡ drop (length vs) d = ap₂ drop (ap (λ (k : ℕ). k + length vs) (sym l)) s ∙ drop-append-add (a ++ ws) d (length vs) in
    let k : n + length ws + length vs ≡ n + length (ws ++ vs) = omega (arith, length-append ws vs) in
    let w : drop (length vs) d ≡ drop (n + length (ws ++ vs)) p = drop-drop (length vs) (n + length ws) p ∙ ap (λ (i : ℕ). drop i p) k in
    ap₂ (λ (x y : List ℕ). x ++ (vs ++ y)) t (u ∙ w) ∙ append_assoc a ws _ ∙ ap (λ (x : List ℕ). a ++ x) (sym (append_assoc ws vs _))

-- an entry is written before words that stand already
pub headed : (p : List ℕ) (n : ℕ) (head ws : List ℕ) → length head ≡ 4 → n + 4 ≤ length p → written (written p (n + 4) ws) n head ≡ written p n (head ++ ws)
unfolding written
headed p n head ws l h =
    let a = take (n + 4) p in
    let r = ws ++ drop (n + 4 + length ws) p in
    let la : length a ≡ n + 4 = length-take-le (n + 4) p h in
    let t : take n (a ++ r) ≡ take n p = take-append-le n a r (omega arith) ∙ take-take n (n + 4) p (omega arith) in
    let i : n + length head ≡ n + 4 = omega arith in
    let u : drop (n + length head) (a ++ r) ≡ r = ap (λ (k : ℕ). drop k (a ++ r)) i ∙ drop_at a r (n + 4) la in
    let j : n + 4 + length ws ≡ n + length (head ++ ws) = omega (arith, length-append head ws) in
    ap₂ (λ (x y : List ℕ). x ++ (head ++ y)) t u
    ∙ ap (λ (k : ℕ). take n p ++ (head ++ (ws ++ drop k p))) j
    ∙ ap (λ (x : List ℕ). take n p ++ x) (sym (append_assoc head ws (drop (n + length (head ++ ws)) p)))
