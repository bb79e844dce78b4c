-- Ranks and winners, in the words of the definitions. Assumes nothing: these are definitions.
-- To be believed: nothing.
use Rattle.std.specs.Prelude.{◌≡◌, List, ℕ, ◌-◌, ◌≤◌, take, drop, Option, Some, None, Result, Ok, Err}
use Rattle.def_picking.specs.Runs.{Slice}
use Rattle.def_picking.specs.Candidates.{Ranked, ranked, skipped, excessive, Candidate, unranked, chosen, too_many_literals, against}
use Rattle.entries.specs.Words.{tokens_in}
use Rattle.picks.specs.declared.Pick.{Pick}
use Rattle.picks.specs.declared.TooMany.{TooMany}

-- a slice that isn't ranked is skipped
abbrev pub value_says : Option ℕ → Ranked
value_says None = skipped
value_says (Some n) = ranked n

abbrev pub rank_says : Result (Option ℕ) TooMany → Ranked
rank_says (Ok r) = value_says r
rank_says (Err e) = excessive

-- a pick is the words from one place of a run to another
abbrev pub pick_says : List ℕ → Option Pick → Candidate
pick_says run None = unranked
pick_says run (Some p) = chosen p.rank (tokens_in (take (p.to - p.from) (drop p.from run)))

-- what wins, or too many literals somewhere
abbrev pub winner_says : List ℕ → Result (Option Pick) TooMany → Candidate
winner_says run (Ok w) = pick_says run w
winner_says run (Err e) = too_many_literals

-- to the best so far the answer is as good as the rank
abbrev pub Settles : Result (Option Pick) TooMany → Result (Option ℕ) TooMany → Ranked → Type 0
Settles best r k = (run : List ℕ) (s : Slice) → against (winner_says run best) s (rank_says r) ≡ against (winner_says run best) s k

-- and a rank of at most m is as good as none
abbrev pub Beaten : Result (Option Pick) TooMany → ℕ → Type 0
Beaten best m = (n : ℕ) → n ≤ m → Settles best (Ok None) (ranked n)
