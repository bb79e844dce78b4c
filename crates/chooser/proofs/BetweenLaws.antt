-- Between two winners, and one run more. Assumes nothing.
use Rattle.std.proofs.Common.{◌≡◌, refl, sym, ap, ◌∙◌, true, false, List, [], ◌∷◌, ℕ, ◌+◌, ◌-◌, ◌≤◌, ◌<◌, arith, length, take, drop, length-take, length-drop, Option, Some}
use Rattle.def_meaning.specs.Limits.{token_pool}
use Rattle.def_meaning.specs.Tokens.{Tokens, nothing}
use Rattle.def_picking.specs.Runs.{filled_ones}
use Rattle.def_picking.specs.Candidates.{Candidate, unranked, chosen, too_many_literals, beats, between, in_run, among_runs}
use Rattle.def_picking.proofs.ChosenLaws.{chosen_few}
use Rattle.def_picking.proofs.RefusalLaws.{between_full}
use Rattle.entries.specs.Words.{tokens_in}
use Rattle.entries.proofs.StepLaws.{tokens_end, tokens_step}
use Rattle.picks.specs.declared.Pick.{Pick}
use Rattle.picks.specs.Ranks.{pick_says}
use Rattle.runs.specs.Whole.{Whole}
use Rattle.runs.proofs.WholeLaws.{whole_first}
use Rattle.chooser.specs.Kept.{Kept, Told, Stretch}
use Rattle.chooser.proofs.ShiftLaws.{Shifts}

-- r is the winner of two
abbrev pub Between : List ℕ → Option Pick → Option Pick → Option Pick → Type 0
Between ws top next r = (pick_says ws r ≡ between (pick_says ws top) (pick_says ws next)) × Kept ws r

pub first_told : (c : Candidate) → c ≡ between unranked c
unfolding between
first_told c = refl

pub one_told : (c : Candidate) → c ≡ between c unranked
unfolding between
one_told unranked = refl
one_told (chosen m ts) = refl
one_told too_many_literals = refl

-- the newer of two picks wins, or it does not
module _ (ws : List ℕ) (old new : Pick) where
  pub new_taken : beats new.rank (tokens_in (take (new.to - new.from) (drop new.from ws))) old.rank (tokens_in (take (old.to - old.from) (drop old.from ws))) ≡ true → pick_says ws (Some new) ≡ between (pick_says ws (Some old)) (pick_says ws (Some new))
  unfolding between
  new_taken h = rw h

  pub old_taken : beats new.rank (tokens_in (take (new.to - new.from) (drop new.from ws))) old.rank (tokens_in (take (old.to - old.from) (drop old.from ws))) ≡ false → pick_says ws (Some old) ≡ between (pick_says ws (Some old)) (pick_says ws (Some new))
  unfolding between
  old_taken h = rw h

pub part_few : (ws : List ℕ) (a b : ℕ) → length ws ≤ token_pool → length (take (b - a) (drop a ws)) ≤ token_pool
part_few ws a b h = let d = length-take (b - a) (drop a ws) in let e = length-drop a ws in omega arith

-- a winner in a run keeps to the run, has few literals and is measured
pub shifted_kept : (ws : List ℕ) (p : Pick) (from n : ℕ) (r : Pick) → Shifts (Some p) from n (Some r) → from + n ≤ length ws → pick_says (take n (drop from ws)) (Some p) ≡ in_run (tokens_in (take n (drop from ws))) → Told (tokens_in (take n (drop from ws))) → Kept ws (Some r)
shifted_kept ws p from n r s h e g =
    let k = s.1 in
    let us = tokens_in (take (r.to - r.from) (drop r.from ws)) in
    let c : in_run (tokens_in (take n (drop from ws))) ≡ chosen r.rank (tokens_in (take (r.to - r.from) (drop r.from ws))) = sym (s.0 ws h ∙ e) in
    (k.0, omega arith, chosen_few (tokens_in (take n (drop from ws))) r.rank us c, g r.rank us c)

-- one run more
abbrev pub With : List ℕ → ℕ → ℕ → Option Pick → Option Pick → Type 0
With ws from to top r = (pick_says ws r ≡ among_runs (pick_says ws top) (filled_ones (tokens_in (take (to - from) (drop from ws)) ∷ []))) × Kept ws r

pub empty_run : (ws : List ℕ) (from to : ℕ) (top : Option Pick) → to ≤ from → Kept ws top → With ws from to top top
unfolding among_runs filled_ones
empty_run ws from to top h k =
    let z : to - from ≡ 0 = omega arith in
    let e : tokens_in (take (to - from) (drop from ws)) ≡ nothing = ap (λ (x : ℕ). tokens_in (take x (drop from ws))) z ∙ tokens_end [] (omega arith) in
    (sym (ap (λ (ts : Tokens). among_runs (pick_says ws top) (filled_ones (ts ∷ []))) e), k)

one_run : (c : Candidate) (us : List ℕ) → Whole us → 0 < length us → between c (in_run (tokens_in us)) ≡ among_runs c (filled_ones (tokens_in us ∷ []))
unfolding among_runs filled_ones
one_run c us w h =
    let e = tokens_step us (whole_first us w h).0.entry in
    ap (λ (ts : Tokens). between c (in_run ts)) e ∙ sym (ap (λ (ts : Tokens). among_runs c (filled_ones (ts ∷ []))) e)

module _ (ws : List ℕ) (from to : ℕ) (s : Stretch ws from to) where
  pub stretch_in : from + (to - from) ≤ length ws
  stretch_in = let b = s.ordered in let c = s.inside in omega arith

  run_some : from < to → 0 < length (take (to - from) (drop from ws))
  run_some h = let c = s.inside in let d = length-take (to - from) (drop from ws) in let e = length-drop from ws in omega arith

  pub full_run : (c : Candidate) → from < to → too_many_literals ≡ in_run (tokens_in (take (to - from) (drop from ws))) → too_many_literals ≡ among_runs c (filled_ones (tokens_in (take (to - from) (drop from ws)) ∷ []))
  full_run c h e = sym (between_full c) ∙ ap (between c) e ∙ one_run c (take (to - from) (drop from ws)) s.stretch_whole (run_some h)

  pub empty_told : (c : Candidate) → from < to → unranked ≡ in_run (tokens_in (take (to - from) (drop from ws))) → c ≡ among_runs c (filled_ones (tokens_in (take (to - from) (drop from ws)) ∷ []))
  empty_told c h e = one_told c ∙ ap (between c) e ∙ one_run c (take (to - from) (drop from ws)) s.stretch_whole (run_some h)

  pub filled_run : (top p q r : Option Pick) → from < to → pick_says (take (to - from) (drop from ws)) p ≡ in_run (tokens_in (take (to - from) (drop from ws)))
      → Shifts p from (to - from) q → Between ws top q r → With ws from to top r
  filled_run top p q r h e k g =
      (g.0 ∙ ap (between (pick_says ws top)) (k.0 ws stretch_in ∙ e) ∙ one_run (pick_says ws top) (take (to - from) (drop from ws)) s.stretch_whole (run_some h), g.1)
