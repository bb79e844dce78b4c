-- One place more, in either order. Assumes nothing.
use Rattle.std.proofs.Common.{◌≡◌, refl, sym, ap, ◌∙◌, Bool, true, false, cond, is_some, List, ◌++◌, ℕ, suc, ◌+◌, ◌-◌, ◌<◌, arith, add-one, length, take, drop, reverse, take-append-drop, length-drop}
use Rattle.std.proofs.Math.Option.{Option, none, some}
use Rattle.std.proofs.Math.ListN.{length-reverse}
use Rattle.std.proofs.Math.Seq.{drop-append_seam}
use Rattle.std.proofs.lemmas.List.{reverse-append}
use Rattle.def_meaning.specs.Choices.{Order, short, long}
use Rattle.def_meaning.specs.Rows.{run}
use Rattle.def_meaning.specs.Words.{prog, sound}
use Rattle.steps.specs.Steps.{answer, seen, length_at}
use Rattle.hits.specs.Hits.{found, start_in, end_in, last_hit}

-- one more than the last of the first so many places from which the words find, or 0
abbrev pub hit_in : Order → List ℕ → List ℕ → ℕ → ℕ
hit_in short ws hay n = start_in ws hay n
hit_in long ws hay n = end_in ws hay n

pub none_yet : (o : Order) (ws hay : List ℕ) → 0 ≡ hit_in o ws hay 0
unfolding start_in end_in
none_yet short ws hay = refl
none_yet long ws hay = refl

pub sound_hit : (o : Order) (ws hay : List ℕ) (n : ℕ) → true ≡ sound ws → hit_in o ws hay n ≡ last_hit o ws hay n
sound_hit short ws hay n h = rw (sym h)
sound_hit long ws hay n h = rw (sym h)

by_answer : (x : Option (List ℕ)) (m n : ℕ) → cond (is_some (answer x)) m n ≡ found x m n
by_answer none m n = refl
by_answer (some v) m n = refl

-- the part `&l[..k]`, read from its end, is what the whole, read so, leaves
reverse_take : (k : ℕ) (M : List ℕ) → reverse (take k M) ≡ drop (length M - k) (reverse M)
reverse_take k M =
    let e : length M - k ≡ length (reverse (drop k M)) = omega (arith, length-reverse (drop k M), length-drop k M) in
    sym (rw e (ap (λ (l : List ℕ). drop (length (reverse (drop k M))) (reverse l)) (sym (take-append-drop k M)) ∙ ap (drop (length (reverse (drop k M)))) (reverse-append (take k M) (drop k M)) ∙ drop-append_seam (reverse (drop k M)) (reverse (take k M))))

-- W is the window at place i
pub next_hit : (o : Order) (ws hay W : List ℕ) (i : ℕ) → seen o W ≡ drop (length_at o 0 (length hay) i) (seen o hay) → cond (is_some (answer (run o (prog ws) (seen o W)))) (i + 1) (hit_in o ws hay i) ≡ hit_in o ws hay (i + 1)
unfolding start_in end_in
next_hit short ws hay W i e = rw (add-one i) (by_answer (run short (prog ws) W) (suc i) (start_in ws hay i) ∙ ap (λ (M : List ℕ). found (run short (prog ws) M) (suc i) (start_in ws hay i)) e)
next_hit long ws hay W i e =
    let n : 0 + length hay - i ≡ length hay - i = omega arith in
    let d : reverse W ≡ reverse (take i hay) = e ∙ ap (λ (k : ℕ). drop k (reverse hay)) n ∙ sym (reverse_take i hay) in
    rw (add-one i) (by_answer (run long (prog ws) (reverse W)) (suc i) (end_in ws hay i) ∙ ap (λ (M : List ℕ). found (run long (prog ws) M) (suc i) (end_in ws hay i)) d)
