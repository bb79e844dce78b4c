-- What is lent from a buffer, written at its front and given back. Assumes nothing.
use mathlib.Core.Path.{◌≡◌, sym, ap, ap₂, ◌∙◌}
use mathlib.Core.List.{List, ◌++◌, append-nil, append_assoc}
use Prim.Native.Nat.{ℕ, ◌+◌, ◌-◌, ◌≤◌}
use native.Mathlib.Omega.{arith}
use lib.ListN.{length, take, drop, length-drop, drop_of_length-le}
use lib.Seq.{take_all, take_at, drop_at, drop-drop}
use borrow.Rule.Slice.PartMut.{put_mid}

-- the rest after k words is lent: `lit` comes to stand behind what is done
pub lent_rest : (done o lit out ys : List ℕ) (k : ℕ) → length done ≡ k → out ≡ done ++ drop k o → ys ≡ lit ++ drop (length lit) (take (length out - k) (drop k out)) → put_mid k (length out - k) out ys ≡ (done ++ lit) ++ drop (k + length lit) o
lent_rest done o lit out ys k size front e =
    let t : take k out ≡ done = ap (take k) front ∙ take_at done (drop k o) k size in
    let d : drop k out ≡ drop k o = ap (drop k) front ∙ drop_at done (drop k o) k size in
    let h : length (drop k out) ≤ length out - k = rw length-drop (omega arith) in
    let y : ys ≡ lit ++ drop (k + length lit) o = e ∙ ap (λ (x : List ℕ). lit ++ drop (length lit) x) (take_all (length out - k) (drop k out) h ∙ d) ∙ ap (λ (x : List ℕ). lit ++ x) (drop-drop (length lit) k o) in
    ap₂ ◌++◌ t (ap₂ ◌++◌ y (drop_of_length-le (drop k out) h) ∙ append-nil _) ∙ sym (append_assoc done lit (drop (k + length lit) o))
