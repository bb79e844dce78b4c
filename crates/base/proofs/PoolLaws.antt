-- Laws of zeroed pools. Assumes nothing.
use mathlib.Core.Path.{◌≡◌, refl, ap, ap₂, ◌∙◌}
use mathlib.Core.List.{List, ◌++◌}
use Prim.Native.Nat.{ℕ, ◌+◌, ◌-◌, ◌≤◌}
use native.Mathlib.Omega.{arith}
use lib.ListN.{length, take, drop, replicate, length-drop}
use lib.Seq.{length-take-le, take_at, drop-append-add, drop-drop}
use borrow.Rule.Slice.PartMut.{put_mid}
use Rattle.base.specs.Pools.{zeroed, filled, cleared}

-- zeroing a whole pool's lent part
pub zeroed_cleared : (size : ℕ) (p : List ℕ) → zeroed 0 size p ≡ cleared size p
unfolding zeroed cleared
zeroed_cleared size p = let e : size - 0 ≡ size = omega arith in rw e

-- zeroing what is left of the lent part once the used words stand in front
pub zeroed_filled : (size : ℕ) (ws t p : List ℕ) → length ws ≤ size → drop (size - length ws) t ≡ drop size p → zeroed (length ws) size (ws ++ t) ≡ filled size ws p
unfolding zeroed filled
zeroed_filled size ws t p h e =
    let n : size ≡ length ws + (size - length ws) = omega arith in
    ap (λ (x : List ℕ). x ++ (replicate (size - length ws) 0 ++ drop size (ws ++ t))) (take_at ws t (length ws) refl)
    ∙ ap (λ (x : List ℕ). ws ++ (replicate (size - length ws) 0 ++ x)) (ap (λ (k : ℕ). drop k (ws ++ t)) n ∙ drop-append-add ws t (size - length ws) ∙ e)

-- `p[from..to].fill(0)` zeroes just these words; `e` is what a slice's `fill` ensures where a copy is the value itself
pub zeroed_fill : (from to : ℕ) (p q : List ℕ) → from ≤ to → to ≤ length p → (((y : ℕ) → y ≡ 0 → y ≡ 0) → q ≡ replicate (length (take (to - from) (drop from p))) 0) → put_mid from (to - from) p q ≡ zeroed from to p
unfolding zeroed
zeroed_fill from to p q h l e =
    let n : length (take (to - from) (drop from p)) ≡ to - from = length-take-le (to - from) (drop from p) (rw length-drop (omega arith)) in
    let d : drop (to - from) (drop from p) ≡ drop to p = drop-drop (to - from) from p ∙ ap (λ (k : ℕ). drop k p) {x = from + (to - from)} {y = to} (omega arith) in
    ap₂ (λ (x y : List ℕ). take from p ++ (x ++ y)) (e (λ y z. z) ∙ ap (λ (k : ℕ). replicate k 0) n) d
