-- How an item is added to a program, as 01 says it with 02's limit. Assumes nothing: these are definitions.
-- To be believed: all.
use Rattle.std.specs.Prelude.{◌≡◌, ℕ, ◌+◌, ◌≤◌, ◌<◌}
use Rattle.def_meaning.specs.Limits.{jump_limit}
use Rattle.def_meaning.specs.Programs.{Item, Prog, jump, end, ◌▹◌, ◌⧺◌}

-- a jump enlarges the last node if that is a jump and the sum is at most 65,535; all else appends
pub data Adds : Prog → Item → Prog → Type 0 where
  enlarges : (p : Prog) (m n : ℕ) → m + n ≤ jump_limit → Adds (p ⧺ (jump m ▹ end)) (jump n) (p ⧺ (jump (m + n) ▹ end))
  appends : {p : Prog} {i : Item} → ((q : Prog) (m n : ℕ) → p ≡ q ⧺ (jump m ▹ end) → i ≡ jump n → jump_limit < m + n) → Adds p i (p ⧺ (i ▹ end))
