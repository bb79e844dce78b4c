-- No rank is above 80. Assumes nothing.
use Rattle.std.proofs.Common.{◌≡◌, subst, Bool, true, false, cond, ⊎_elim, List, [], ◌∷◌, ℕ, ◌≤◌, min, arith, ltb, length}
use mathlib.Core.Option.{Option, none, some}
use native.Mathlib.Nat.{min-le_left}
use Rattle.def_meaning.specs.Limits.{literal_limit, combination_limit}
use Rattle.def_meaning.specs.Tokens.{Tokens, nothing}
use Rattle.atoms.specs.Score.{literal_score}
use Rattle.atoms.proofs.Laws.{score_le}
use Rattle.def_picking.specs.Literals.{literals, combinations}
use Rattle.def_picking.specs.Runs.{runs, parts, Slice, slice, slices}
use Rattle.def_picking.specs.Candidates.{lowest, least, Ranked, ranked, skipped, excessive, rank_value, counted, combined, rank, Candidate, unranked, chosen, too_many_literals, widened, against, rank_of, best, bytes_of, strong, alone_or, in_run, beats, between, among_runs, in_pattern, picked, pick}
use Rattle.def_picking.proofs.PickedLaws.{Source, picked_from}

lowest_le : (ls : List (List ℕ)) (n : ℕ) → n ≤ 80 → lowest literal_score ls n ≤ 80
unfolding lowest
lowest_le [] n h = h
lowest_le (l ∷ ls) n h = lowest_le ls (min n (literal_score l)) (let a : min n (literal_score l) ≤ n = min-le_left n (literal_score l) in omega arith)

least_le : (ls : List (List ℕ)) → least literal_score ls ≤ 80
unfolding least
least_le [] = omega arith
least_le (l ∷ ls) = lowest_le ls (literal_score l) (score_le l)

-- a slice's rank, and that of what is chosen, if there is one
abbrev LowRank : Ranked → Type 0
LowRank (ranked n) = n ≤ 80
LowRank skipped = Unit {0}
LowRank excessive = Unit {0}

unfoldable Low : Candidate → Type 0
Low unranked = Unit {0}
Low (chosen n ts) = n ≤ 80
Low too_many_literals = Unit {0}

rank_low : (ts : Tokens) → LowRank (rank ts)
unfolding rank combined counted rank_value
rank_low ts = by_combinations (ltb combination_limit (combinations ts))
  where
    by_count : (b : Bool) → LowRank (counted b ts)
    by_count true = tt
    by_count false = let l : least literal_score (literals ts) ≤ 80 = least_le (literals ts) in omega arith

    by_combinations : (b : Bool) → LowRank (combined b ts)
    by_combinations true = tt
    by_combinations false = by_count (ltb literal_limit (length (literals ts)))

slice_low : (s : Slice) → LowRank (rank_of s)
unfolding rank_of
slice_low (slice prior own next) = rank_low own

low_by : (b : Bool) (c d : Candidate) → Low c → Low d → Low (cond b c d)
low_by true c d h k = h
low_by false c d h k = k

against_low : (c : Candidate) (s : Slice) (r : Ranked) → LowRank r → Low c → Low (against c s r)
unfolding against Low
against_low unranked s (ranked n) e h = e
against_low unranked s skipped e h = tt
against_low unranked s excessive e h = tt
against_low (chosen m ts) s (ranked n) e h = low_by (ltb m n) (chosen n (widened s)) (chosen m ts) e h
against_low (chosen m ts) s skipped e h = h
against_low (chosen m ts) s excessive e h = tt
against_low too_many_literals s r e h = tt

best_low : (ss : List Slice) (c : Candidate) → Low c → Low (best c ss)
unfolding best
best_low [] c h = h
best_low (s ∷ ss) c h = best_low ss (against c s (rank_of s)) (against_low c s (rank_of s) (slice_low s) h)

alone_low : (o : Option Tokens) (c : Candidate) → Low c → Low (alone_or o c)
unfolding alone_or Low
alone_low (some p) c h = score_le (bytes_of p)
alone_low none c h = h

run_low : (run : Tokens) → Low (in_run run)
unfolding in_run Low
run_low run = alone_low (strong (parts run)) _ (best_low (slices (parts run) nothing) unranked tt)

between_low : (c d : Candidate) → Low c → Low d → Low (between c d)
unfolding between Low
between_low unranked d h k = k
between_low (chosen m ts) unranked h k = h
between_low (chosen m ts) (chosen n us) h k = low_by (beats n us m ts) (chosen n us) (chosen m ts) k h
between_low (chosen m ts) too_many_literals h k = tt
between_low too_many_literals d h k = tt

among_low : (rs : List Tokens) (c : Candidate) → Low c → Low (among_runs c rs)
unfolding among_runs
among_low [] c h = h
among_low (r ∷ rs) c h = among_low rs (between c (in_run r)) (between_low c (in_run r) h (run_low r))

pattern_low : (ts : Tokens) → Low (in_pattern ts)
unfolding in_pattern Low
pattern_low ts = among_low (runs ts) unranked tt

pub picked_low : (ts : Tokens) (n : ℕ) (ls : List (List ℕ)) → pick ts ≡ picked n ls → n ≤ 80
unfolding Low
picked_low ts n ls h = ⊎_elim none_low some_low (picked_from ts n ls h)
  where
    none_low : (n ≡ 0) × (ls ≡ []) → n ≤ 80
    none_low (a, e) = omega arith

    some_low : (us : Tokens) × Source ts us n ls → n ≤ 80
    some_low (us, s) = subst Low s.given (pattern_low ts)
