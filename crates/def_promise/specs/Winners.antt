-- Which literals win, in a run and between runs, with no order of trial. Assumes nothing: these are definitions.
-- To be believed: all.
use Rattle.std.specs.Prelude.{◌≡◌, true, ℕ, ◌≤◌, ◌<◌, length}
use mathlib.Core.List.{List, [], ◌∷◌, ◌++◌, Memᴰ}
use Rattle.def_meaning.specs.Limits.{literal_limit, combination_limit}
use Rattle.def_meaning.specs.Tokens.{Tokens, nothing, ◌⊕◌}
use Rattle.atoms.specs.Score.{literal_score}
use Rattle.def_picking.specs.Literals.{literals, combinations}
use Rattle.def_picking.specs.Runs.{runs, parts, is_literal, Slice, slice, slices}
use Rattle.def_picking.specs.Candidates.{least, rank_value, Candidate, unranked, chosen, too_many_literals, bytes_of}

-- A slice offers its rank and the literals of the slice with the literal parts on either side. Above 256 combinations it is skipped; if it is not
-- skipped and its literals exceed 256, they are too many.
pub data Offers : Slice → Candidate → Type 0 where
  ranks : {prior own next : Tokens} → combinations own ≤ combination_limit → length (literals own) ≤ literal_limit → Offers (slice prior own next) (chosen (rank_value own) (prior ⊕ (own ⊕ next)))
  skipped : {prior own next : Tokens} → combination_limit < combinations own → Offers (slice prior own next) unranked
  exceeds : {prior own next : Tokens} → combinations own ≤ combination_limit → literal_limit < length (literals own) → Offers (slice prior own next) too_many_literals

-- what each of some things offers, in their order
pub data Each {A : Type 0} (Offer : A → Candidate → Type 0) : List A → List Candidate → Type 0 where
  end : Each Offer [] []
  next : {x : A} {xs : List A} {c : Candidate} {cs : List Candidate} → Offer x c → Each Offer xs cs → Each Offer (x ∷ xs) (c ∷ cs)

-- a higher rank, or a rank where the other has none
pub data Higher : Candidate → Candidate → Type 0 where
  above : {m n : ℕ} {ts us : Tokens} → m < n → Higher (chosen n us) (chosen m ts)
  over_none : {n : ℕ} {us : Tokens} → Higher (chosen n us) unranked

-- a higher rank, then a longer shortest literal
pub data Better : Candidate → Candidate → Type 0 where
  higher : {c d : Candidate} → Higher c d → Better c d
  longer : {n : ℕ} {ts us : Tokens} → least length (literals ts) < least length (literals us) → Better (chosen n us) (chosen n ts)

-- the first of the best: it beats each earlier one, and no later one beats it
pub record FirstBest (Beats : Candidate → Candidate → Type 0) (cs : List Candidate) (best : Candidate) : Type 0 where
  pub earlier : List Candidate
  pub later : List Candidate
  pub stands : cs ≡ earlier ++ (best ∷ later)
  pub beats_earlier : (c : Candidate) → Memᴰ c earlier → Beats best c
  pub unbeaten : (c : Candidate) → Memᴰ c later → Beats c best → ⊥

-- 17 if one has too many literals; nothing if none has a rank; else the first of the best
pub data Best (Beats : Candidate → Candidate → Type 0) (cs : List Candidate) : Candidate → Type 0 where
  too_many : Memᴰ too_many_literals cs → Best Beats cs too_many_literals
  none_ranked : ((c : Candidate) → Memᴰ c cs → c ≡ unranked) → Best Beats cs unranked
  first : {n : ℕ} {us : Tokens} → (Memᴰ too_many_literals cs → ⊥) → FirstBest Beats cs (chosen n us) → Best Beats cs (chosen n us)

-- a literal part that scores at least 80
abbrev pub Strong : Tokens → Type 0
Strong p = (is_literal p ≡ true) × (80 ≤ literal_score (bytes_of p))

-- no part of some is one
abbrev pub NoneStrong : List Tokens → Type 0
NoneStrong ps = (p : Tokens) → Memᴰ p ps → Strong p → ⊥

-- in a run the first strong part wins alone; if there is none, the first highest slice does
pub data WinsRun (run : Tokens) : Candidate → Type 0 where
  alone : {p : Tokens} (before after : List Tokens) → parts run ≡ before ++ (p ∷ after) → NoneStrong before → Strong p → WinsRun run (chosen (literal_score (bytes_of p)) p)
  a_slice : {c : Candidate} {cs : List Candidate} → NoneStrong (parts run) → Each Offers (slices (parts run) nothing) cs → Best Higher cs c → WinsRun run c

-- between runs, the first of the best in the order of the runs
pub data Wins (ts : Tokens) : Candidate → Type 0 where
  a_run : {c : Candidate} {cs : List Candidate} → Each WinsRun (runs ts) cs → Best Better cs c → Wins ts c
