-- Winners by the words that they name. Assumes nothing: these are definitions.
-- To be believed: nothing.
use Rattle.std.specs.Prelude.{◌≡◌, List, [], ◌∷◌, ℕ, ◌-◌, ◌≤◌, length, take, drop, Option, Some, None}
use Rattle.def_meaning.specs.Limits.{literal_limit, token_pool}
use Rattle.def_meaning.specs.Tokens.{Tokens}
use Rattle.def_picking.specs.Literals.{literals, length_in}
use Rattle.def_picking.specs.Numbers.{count}
use Rattle.def_picking.specs.Runs.{filled_ones}
use Rattle.def_picking.specs.Candidates.{least, chosen, in_run}
use Rattle.entries.specs.Words.{tokens_in}
use Rattle.picks.specs.declared.Pick.{Pick}
use Rattle.runs.specs.Whole.{Whole, afterward}

-- the shortest literal is as long as the tokens tell: a byte and a class 1, alternatives their shortest branch
abbrev pub Measured : Tokens → Type 0
Measured us = least length (literals us) ≡ length_in us

-- what is chosen in a run is measured
abbrev pub Told : Tokens → Type 0
Told run = (n : ℕ) (us : Tokens) → in_run run ≡ chosen n us → Measured us

-- in each of some runs
abbrev pub AllTold : List Tokens → Type 0
AllTold [] = Unit {0}
AllTold (run ∷ runs) = Told run × AllTold runs

-- words that are there, of the first n
abbrev pub Inside : ℕ → Option Pick → Type 0
Inside n None = Unit {0}
Inside n (Some p) = (p.from ≤ p.to) × (p.to ≤ n)

-- and that have at most 256 literals, and are measured
abbrev pub Kept : List ℕ → Option Pick → Type 0
Kept ws None = Unit {0}
Kept ws (Some p) = (p.from ≤ p.to) × (p.to ≤ length ws) × (count (tokens_in (take (p.to - p.from) (drop p.from ws))) ≤ literal_limit) × Measured (tokens_in (take (p.to - p.from) (drop p.from ws)))

-- whole words of a pool, and what is chosen in them is measured
pub record Stretch (ws : List ℕ) (from to : ℕ) : Type 0 where
  pub few : length ws ≤ token_pool
  pub ordered : from ≤ to
  pub inside : to ≤ length ws
  pub stretch_whole : Whole (take (to - from) (drop from ws))
  pub told : Told (tokens_in (take (to - from) (drop from ws)))

-- the runs after the token that closed one
abbrev pub later_runs : List ℕ → List Tokens
later_runs ws = filled_ones (afterward (tokens_in ws))
