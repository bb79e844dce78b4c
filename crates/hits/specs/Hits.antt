-- The last place at which a search finds. Assumes nothing: these are definitions.
-- To be believed: nothing.
use Rattle.std.specs.Prelude.{cond, List, ℕ, zero, suc, take, drop}
use Rattle.std.proofs.Math.Option.{Option, none, some}
use Rattle.def_meaning.specs.Choices.{Order, short, long}
use Rattle.def_meaning.specs.Rows.{forward, backward}
use Rattle.def_meaning.specs.Words.{prog, sound}

-- m after a find, else n
abbrev pub found : Option (List ℕ) → ℕ → ℕ → ℕ
found none m n = n
found (some v) m n = m

-- one more than the last of the first so many starts from which the words find, or 0
unfoldable pub start_in : List ℕ → List ℕ → ℕ → ℕ
start_in ws hay zero = 0
start_in ws hay (suc i) = found (forward (prog ws) (drop i hay)) (suc i) (start_in ws hay i)

-- one more than the last of the first so many ends before which the words find, or 0
unfoldable pub end_in : List ℕ → List ℕ → ℕ → ℕ
end_in ws hay zero = 0
end_in ws hay (suc i) = found (backward (prog ws) (take i hay)) (suc i) (end_in ws hay i)

-- the same of sound words, and 0 of others
abbrev pub last_start : List ℕ → List ℕ → ℕ → ℕ
last_start ws hay n = cond (sound ws) (start_in ws hay n) 0

abbrev pub last_end : List ℕ → List ℕ → ℕ → ℕ
last_end ws hay n = cond (sound ws) (end_in ws hay n) 0

-- in either order
abbrev pub last_hit : Order → List ℕ → List ℕ → ℕ → ℕ
last_hit short ws hay n = last_start ws hay n
last_hit long ws hay n = last_end ws hay n
