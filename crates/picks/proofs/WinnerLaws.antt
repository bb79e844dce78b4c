-- A slice against the best so far. Assumes nothing.
use Rattle.std.proofs.Common.{◌≡◌, refl, ap, ◌∙◌, List, ℕ, ◌-◌, ◌≤◌, ◌<◌, take, drop, Option, Some, Result, Ok, Err, lt-ltb, le-ltb}
use Rattle.std.specs.Result.{IsErr}
use Rattle.def_picking.specs.Runs.{Slice}
use Rattle.def_picking.specs.Candidates.{Ranked, ranked, skipped, Candidate, chosen, unranked, too_many_literals, widened, against}
use Rattle.entries.specs.Words.{tokens_in}
use Rattle.picks.specs.declared.Pick.{Pick}
use Rattle.picks.specs.declared.TooMany.{TooMany}
use Rattle.picks.specs.Ranks.{rank_says, pick_says, winner_says, Settles}

-- what a pick becomes against one slice more
abbrev pub Stands : Result (Option Pick) TooMany → Result (Option Pick) TooMany → ℕ → ℕ → Ranked → Type 0
Stands r b from to k = (run : List ℕ) (s : Slice) → widened s ≡ tokens_in (take (to - from) (drop from run)) → winner_says run r ≡ against (winner_says run b) s k

-- ---- an answer that is as good as the rank

pub settled : (b : Result (Option Pick) TooMany) (r : Result (Option ℕ) TooMany) (k : Ranked) → rank_says r ≡ k → Settles b r k
settled b r k e run s = ap (against (winner_says run b) s) e

pub settled_on : (b : Result (Option Pick) TooMany) (r : Result (Option ℕ) TooMany) (k j : Ranked) → Settles b r k → k ≡ j → Settles b r j
settled_on b r k j h e run s = h run s ∙ ap (against (winner_says run b) s) e

-- too many literals are handed up as such
pub failed_says : (run : List ℕ) (w : Result (Option Pick) TooMany) → IsErr w → winner_says run w ≡ too_many_literals
failed_says run (Ok w) e = cc
failed_says run (Err t) e = refl

-- ---- one slice

pub skip_kept : (c : Candidate) (s : Slice) → c ≡ against c s skipped
unfolding against
skip_kept unranked s = refl
skip_kept (chosen m ts) s = refl
skip_kept too_many_literals s = refl

module _ (p : Pick) where
  pub lower_kept : (run : List ℕ) (s : Slice) (n : ℕ) → n ≤ p.rank → pick_says run (Some p) ≡ against (pick_says run (Some p)) s (ranked n)
  unfolding against
  lower_kept run s n h = rw (le-ltb p.rank n h)

  pub higher_taken : (run : List ℕ) (s : Slice) (n : ℕ) → p.rank < n → chosen n (widened s) ≡ against (pick_says run (Some p)) s (ranked n)
  unfolding against
  higher_taken run s n h = rw (lt-ltb p.rank n h)
