-- What the doors of the checks answer, case by case. Assumes nothing: these are definitions.
-- To be believed: all.
use Rattle.std.specs.Prelude.{List, [], reverse, ℕ, ◌≤◌, ◌<◌, length}
use Rattle.def_meaning.specs.Limits.{node_limit}
use Rattle.def_meaning.specs.Programs.{Prog}
use Rattle.def_meaning.specs.Choices.{Nowhere}
use Rattle.checkdoors.specs.Doors as doors
use Rattle.checkdoors.specs.Doors.{window}
use Rattle.def_meaning.specs.NodeWords.{Nodes, SoundWords}
use Rattle.def_promise.specs.Pattern.{FirstEnd, FirstStart}

-- 16, then 13, then 15
pub data Refuses (ws hay : List ℕ) (s e : ℕ) : ℕ → Type 0 where
  bad_window : (s ≤ e → e ≤ length hay → ⊥) → Refuses ws hay s e 16
  too_many : s ≤ e → e ≤ length hay → node_limit < length ws → Refuses ws hay s e 13
  unsound : s ≤ e → e ≤ length hay → length ws ≤ node_limit → (SoundWords ws → ⊥) → Refuses ws hay s e 15

-- the forward check: where the first choice of the program ends
pub data Forward (ws hay : List ℕ) (s e : ℕ) : doors.CheckSaid → Type 0 where
  refused : {k : ℕ} → Refuses ws hay s e k → Forward ws hay s e (doors.refuses k 0)
  found : {p : Prog} {n : ℕ} → e ≤ length hay → length ws ≤ node_limit → Nodes ws p → FirstEnd p hay s e n → Forward ws hay s e (doors.found n)
  missed : {p : Prog} → s ≤ e → e ≤ length hay → length ws ≤ node_limit → Nodes ws p → Nowhere p (window hay s e) → Forward ws hay s e doors.no_match

-- the second forward door: the offset in the haystack at which what is left of the window begins, and its bytes
pub data Left (ws hay : List ℕ) (s e : ℕ) : ℕ → List ℕ → Type 0 where
  tail : {n : ℕ} → Forward ws hay s e (doors.found n) → Left ws hay s e n (window hay n e)
  nothing : ((n : ℕ) → Forward ws hay s e (doors.found n) → ⊥) → Left ws hay s e 0 []

-- the reverse check: where the first choice starts, read from the window's end
pub data Reverse (ws hay : List ℕ) (s e : ℕ) : doors.CheckSaid → Type 0 where
  refused : {k : ℕ} → Refuses ws hay s e k → Reverse ws hay s e (doors.refuses k 0)
  found : {p : Prog} {n : ℕ} → e ≤ length hay → length ws ≤ node_limit → Nodes ws p → FirstStart p hay s e n → Reverse ws hay s e (doors.found n)
  missed : {p : Prog} → s ≤ e → e ≤ length hay → length ws ≤ node_limit → Nodes ws p → Nowhere p (reverse (window hay s e)) → Reverse ws hay s e doors.no_match
