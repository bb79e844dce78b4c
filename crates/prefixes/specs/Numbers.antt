-- What the numbers of prefixes are asked of, and what bytes leave of them. Assumes nothing: these are definitions.
-- To be believed: nothing.
use Rattle.std.specs.Prelude.{◌≡◌, List, ℕ, ◌*◌, ◌≤◌, ◌<◌, length}
use Rattle.def_meaning.specs.Limits.{literal_limit}
use Rattle.def_picking.specs.Numbers.{count, prefixed}
use Rattle.entries.specs.Words.{tokens_in}

-- p prefixes before n literals are some, and no more than the limit
pub record Numerable (p n : ℕ) : Type 0 where
  pub some : 0 < p * n
  pub few : p * n ≤ literal_limit

-- what is left of words after bytes at their front: as many literals, with the same numbers of prefixes
pub record Past (words rest : List ℕ) : Type 0 where
  pub short : length rest ≤ length words
  pub counted : count (tokens_in words) ≡ count (tokens_in rest)
  pub numbered : (p k : ℕ) → prefixed (tokens_in words) p k ≡ prefixed (tokens_in rest) p k
