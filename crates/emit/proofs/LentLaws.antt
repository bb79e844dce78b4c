-- What is lent from a buffer behind a word that is written last. Assumes nothing.
use Rattle.std.proofs.Common.{◌≡◌, sym, ap, ◌∙◌, List, [], ◌∷◌, ◌++◌, append_assoc, ℕ, ◌+◌, ◌-◌, ◌<◌, add-one, length, get_or, take, drop, set, length-append, drop-cons}
use Rattle.std.proofs.Math.Seq.{set_at}
use borrow.Rule.Slice.PartMut.{put_mid}
use Rattle.base.proofs.LentLaws.{lent_rest}

-- the rest after a word that is written last
pub lent_marked : (done o lit out ys : List ℕ) (n w : ℕ) → length done ≡ n → n < length o → out ≡ done ++ drop n o → ys ≡ lit ++ drop (length lit) (take (length out - (n + 1)) (drop (n + 1) out)) → set (put_mid (n + 1) (length out - (n + 1)) out ys) n w ≡ (done ++ (w ∷ lit)) ++ drop (n + 1 + length lit) o
lent_marked done o lit out ys n w size room front e =
    let x = get_or o n 0 in
    let long : length (done ++ (x ∷ [])) ≡ n + 1 = length-append done (x ∷ []) ∙ ap (λ (k : ℕ). k + 1) size in
    let d : drop n o ≡ x ∷ drop (n + 1) o = drop-cons o n 0 room ∙ ap (λ (k : ℕ). x ∷ drop k o) (sym (add-one n)) in
    let f : out ≡ (done ++ (x ∷ [])) ++ drop (n + 1) o = front ∙ ap (λ (l : List ℕ). done ++ l) d ∙ sym (append_assoc done (x ∷ []) (drop (n + 1) o)) in
    let g = lent_rest (done ++ (x ∷ [])) o lit out ys (n + 1) long f e in
    let t = drop (n + 1 + length lit) o in
    ap (λ (l : List ℕ). set l n w) (g ∙ ap (λ (l : List ℕ). l ++ t) (append_assoc done (x ∷ []) lit) ∙ append_assoc done (x ∷ lit) t)
    ∙ set_at done x (lit ++ t) w n size
    ∙ sym (append_assoc done (w ∷ lit) t)
