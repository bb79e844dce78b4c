-- What the steps of a check answer, in the terms of the definitions. Assumes nothing: these are definitions.
-- To be believed: nothing.
use Rattle.std.specs.Borrow.{Bor}
use Rattle.std.specs.Prelude.{◌≡◌, Bool, true, false, List, ◌∷◌, reverse, ℕ, ◌+◌, ◌-◌, length, Option, Some, None}
use Rattle.std.proofs.Math.Option.{Option as Maybe, none, some}
use Rattle.def_meaning.specs.Choices.{Order, short, long}
use Rattle.def_meaning.specs.Programs.{pass, Item, one, jump, range, alt}
use Rattle.def_meaning.specs.Rows.{run}
use Rattle.def_meaning.specs.Words.{Shape, item, opens, mark, wrong, prog}

-- a check's answer tells how much of the window is left
abbrev pub answer : Maybe (List ℕ) → Option ℕ
answer none = None
answer (some v) = Some (length v)

-- the bytes of a window in the order in which they are read: forward, or from its end
abbrev pub seen : Order → List ℕ → List ℕ
seen short m = m
seen long m = reverse m

-- of the lengths from `least` to `most` the one that is tried where the shortest first would try n
abbrev pub length_at : Order → ℕ → ℕ → ℕ → ℕ
length_at short least most n = n
length_at long least most n = least + most - n

-- whether a word is a test of one byte, and whether a byte passes it; a word that is no test lets nothing pass
abbrev pub is_test_item : Item → Bool
is_test_item (one t) = true
is_test_item (jump n) = false
is_test_item (range a b) = false
is_test_item (alt bs) = false

abbrev pub is_test : Shape → Bool
is_test (item i) = is_test_item i
is_test (opens n) = false
is_test (mark n) = false
is_test wrong = false

abbrev pub pass_item : Item → ℕ → Bool
pass_item (one t) c = pass t c
pass_item (jump n) c = false
pass_item (range a b) c = false
pass_item (alt bs) c = false

abbrev pub pass_shape : Shape → ℕ → Bool
pass_shape (item i) c = pass_item i c
pass_shape (opens n) c = false
pass_shape (mark n) c = false
pass_shape wrong c = false

-- what comes of a word at a window that is read as M: nothing fits from it on, or what fits the rest of the words after what is left fits from it on
abbrev pub Leaves : Order → ℕ → List ℕ → Option (Bor (List ℕ)) → Type 0
Leaves o w M None = (R : List ℕ) → run o (prog (w ∷ R)) M ≡ none
Leaves o w M (Some m) = (R : List ℕ) → run o (prog (w ∷ R)) M ≡ run o (prog R) (seen o m.now)
