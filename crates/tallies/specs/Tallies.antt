-- What a tally tells. Assumes nothing: this is a definition.
-- To be believed: nothing.
use Rattle.std.specs.Prelude.{◌≡◌, ℕ, suc, min}
use Rattle.def_meaning.specs.Limits.{literal_limit}
use Rattle.tallies.specs.declared.Tally.{Tally}

-- counts above the limit are all one to the picker, so they stop right above it
abbrev pub count_top : ℕ
count_top = suc literal_limit

-- so many literals and combinations, or the top where there are more
pub record Tallied (t : Tally) (literals combinations : ℕ) : Type 0 where
  pub literals_are : t.literals ≡ min count_top literals
  pub combinations_are : t.combinations ≡ min count_top combinations
