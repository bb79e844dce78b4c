-- The branches of an alternation, one by one, in either order. Assumes nothing.
-- N is what the code keeps of the window M after a branch that leaves l bytes.
use Rattle.std.proofs.Common.{◌≡◌, sym, ap, ap₂, ◌∙◌, subst, true, List, [], ◌∷◌, ℕ, ◌-◌, length, take, drop, Some, None}
use Rattle.std.proofs.Math.Option.{Option, none}
use Rattle.def_meaning.specs.Programs.{Prog, Branches, alt, ◌▹◌, ◌⧺◌}
use Rattle.def_meaning.specs.Choices.{Order}
use Rattle.def_meaning.specs.Rows.{Row, or_else, and_then, rest, found, rows, run}
use Rattle.def_meaning.specs.Words.{kind_of, first_of, mark, shape, prog, branches, branches_of, SoundBranches, flat_words}
use Rattle.def_meaning.proofs.KindLaws.{Seen, seen, kind_mark}
use Rattle.def_meaning.proofs.ProgLaws.{rows_join}
use Rattle.def_meaning.proofs.RunLaws.{run_alt, run_alt_stop, found_single, or_none}
use Rattle.def_meaning.proofs.WordLaws.{branches_mark}
use Rattle.def_meaning.proofs.SoundLaws.{Marked, sound_branch, branch_shape, flat_row}
use Rattle.def_meaning.proofs.PartLaws.{from, to_end}
use Rattle.steps.specs.Steps.{answer}
use Rattle.steps.proofs.Heads.{none_left}
use Rattle.steps.proofs.Answers.{answer_none, answer_some, left_part}

-- a branch has one row, so it either fits in one way or not at all
flat_then : (o : Order) (ws : List ℕ) (p : Prog) (M : List ℕ) → flat_words ws ≡ true → run o (prog ws ⧺ p) M ≡ and_then (run o (prog ws) M) (run o p)
unfolding run
flat_then o ws p M h =
    let q = flat_row o ws h in
    rw (rows_join, q.1) (found_single q.0 (rows o p) M ∙ sym (ap (λ (x : Option (List ℕ)). and_then x (found (rows o p))) (one_found q.0 M)))
  where
    one_found : (r : Row) (N : List ℕ) → found (r ∷ []) N ≡ rest r N
    one_found r N = unfold found in or_none (rest r N)

-- the branches B that are left, at their head a mark w with the count n, and R after it
module _ {B : List ℕ} (w : ℕ) (R : List ℕ) (e : B ≡ w ∷ R) {n : ℕ} (s : n ≡ first_of w) (sb : SoundBranches B) where
  head_sound : SoundBranches (w ∷ R)
  head_sound = subst SoundBranches e sb

  head_mark : shape w ≡ mark n
  head_mark = let q = branch_shape w R head_sound in kind_mark w (subst (Seen (kind_of w)) q.1 (seen w)) s

  pub head_marked : Marked n R
  head_marked = sound_branch w R head_mark head_sound

  pub head_after : SoundBranches (from n R)
  head_after = rw (to_end n R) head_marked.after

  module _ (o : Order) (p : Prog) (M : List ℕ) where
    head_step : run o (alt (branches_of B) ▹ p) M ≡ or_else (and_then (run o (prog (take n R)) M) (run o p)) (run o (alt (branches_of (from n R)) ▹ p) M)
    head_step =
        ap (λ (l : List ℕ). run o (alt (branches_of l) ▹ p) M) e
        ∙ ap (λ (b : Branches). run o (alt b ▹ p) M) (branches_mark w R n head_mark)
        ∙ run_alt o p M (prog (take n R)) (branches_of (drop n R))
        ∙ ap₂ or_else
        (flat_then o (take n R) p M head_marked.inside)
        (ap (λ (l : List ℕ). run o (alt (branches_of l) ▹ p) M) (sym (to_end n R)))

    -- it does not fit
    pub head_none : None ≡ answer (run o (prog (take n R)) M) → run o (alt (branches_of B) ▹ p) M ≡ run o (alt (branches_of (from n R)) ▹ p) M
    head_none f = head_step ∙ rw (answer_none (run o (prog (take n R)) M) f)

    -- it fits, and what follows does not, or does
    module _ (N : List ℕ) (l : ℕ) (d : N ≡ drop (length M - l) M) (f : Some l ≡ answer (run o (prog (take n R)) M)) where
      fitted : run o (alt (branches_of B) ▹ p) M ≡ or_else (run o p N) (run o (alt (branches_of (from n R)) ▹ p) M)
      fitted = head_step ∙ rw (left_part o (prog (take n R)) M l f, d)

      pub head_skip : run o p N ≡ none → run o (alt (branches_of B) ▹ p) M ≡ run o (alt (branches_of (from n R)) ▹ p) M
      head_skip g = fitted ∙ rw g

      pub head_take : (r : ℕ) → Some r ≡ answer (run o p N) → Some r ≡ answer (run o (alt (branches_of B) ▹ p) M)
      head_take r g = let q = answer_some (run o p N) r g in g ∙ ap answer (q.1 ∙ sym (fitted ∙ ap (λ (x : Option (List ℕ)). or_else x (run o (alt (branches_of (from n R)) ▹ p) M)) q.1))

pub heads_over : (o : Order) (B : List ℕ) (p : Prog) (M : List ℕ) → length B ≡ 0 → run o (alt (branches_of B) ▹ p) M ≡ none
heads_over o B p M e = rw (none_left B e) (unfold branches_of branches in run_alt_stop o p M)
