-- What an answer of a check tells of the window. Assumes nothing.
use Rattle.std.proofs.Common.{◌≡◌, refl, sym, ap, ◌∙◌, List, [], ◌∷◌, ◌++◌, ℕ, ◌-◌, ◌≤◌, arith, length, drop, length-append, Some, None}
use Rattle.std.proofs.Math.Option.{Option, none, some}
use Rattle.std.proofs.Math.Seq.{drop-append_seam}
use Rattle.def_meaning.specs.Programs.{Prog}
use Rattle.def_meaning.specs.Choices.{Order}
use Rattle.def_meaning.specs.Rows.{Row, or_else, rest, found, rows, run}
use Rattle.def_meaning.proofs.RowLaws.{rest_split}
use Rattle.steps.specs.Steps.{answer}

pub answer_none : (x : Option (List ℕ)) → None ≡ answer x → x ≡ none
answer_none none e = refl
answer_none (some v) e = let z : ◌≡◌ {A = ℕ} 0 1 = cc in absurd (omega arith)

pub answer_some : (x : Option (List ℕ)) (k : ℕ) → Some k ≡ answer x → (v : List ℕ) × (x ≡ some v) × (length v ≡ k)
answer_some none k e = let z : ◌≡◌ {A = ℕ} 0 1 = cc in absurd (omega arith)
answer_some (some v) k e = (v, refl, cc)

-- what is left is the window's end
found_split : (R : List Row) (M v : List ℕ) → found R M ≡ some v → (s : List ℕ) × (M ≡ s ++ v)
unfolding found
found_split [] M v e = let z : ◌≡◌ {A = ℕ} 0 1 = cc in absurd (omega arith)
found_split (r ∷ R) M v e = go (found_split R M v) (rest r M) refl
  where
    go : (found R M ≡ some v → (s : List ℕ) × (M ≡ s ++ v)) → (x : Option (List ℕ)) → rest r M ≡ x → (s : List ℕ) × (M ≡ s ++ v)
    go ih none f = ih (sym (ap (λ (y : Option (List ℕ)). or_else y (found R M)) f) ∙ e)
    go ih (some u) f =
        let q = rest_split r M u f in
        let g : some u ≡ some v = sym (ap (λ (y : Option (List ℕ)). or_else y (found R M)) f) ∙ e in
        let z : u ≡ v = cc in
        (q.0, q.1 ∙ ap (λ (y : List ℕ). q.0 ++ y) z)

module _ (o : Order) (p : Prog) (M : List ℕ) where
  pub run_split : (v : List ℕ) → run o p M ≡ some v → (s : List ℕ) × (M ≡ s ++ v)
  unfolding run
  run_split v e = found_split (rows o p) M v e

  pub left_fits : (k : ℕ) → Some k ≡ answer (run o p M) → k ≤ length M
  left_fits k e =
      let q = answer_some (run o p M) k e in
      let s = run_split q.0 q.1 in
      omega (arith, simp length-append at (ap length s.1), q.2)

  pub left_part : (k : ℕ) → Some k ≡ answer (run o p M) → run o p M ≡ some (drop (length M - k) M)
  left_part k e =
      let q = answer_some (run o p M) k e in
      let s = run_split q.0 q.1 in
      let n : length M - k ≡ length s.0 = omega (arith, simp length-append at (ap length s.1), q.2) in
      q.1 ∙ ap some (sym (ap (λ (j : ℕ). drop j M) n ∙ ap (drop (length s.0)) s.1 ∙ drop-append_seam s.0 q.0))
