-- The search as a function. A row asks one test of each byte of a span; a program has a row for each choice, in choice order,
-- and the search takes the first row that fits. Nothing here has to be believed: proofs/FirstLaws.antt joins it to Choices.antt.
-- Assumes nothing: these are definitions.
-- To be believed: nothing.
use Rattle.std.specs.Prelude.{Bool, true, false, List, [], ◌∷◌, ◌++◌, map, reverse, ℕ, zero, suc, ◌-◌, replicate}
use Rattle.std.proofs.Math.Option.{Option, none, some}
use Rattle.def_meaning.specs.Programs.{Test, any, pass, Item, Prog, Branches, one, jump, range, alt, end, ◌▹◌, stop, or}
use Rattle.def_meaning.specs.Choices.{Way, Choice, only, bytes, first, later, done, via, Order, short, long}

abbrev pub Row : Type 0
Row = List Test

-- x if the test holds
abbrev pub when : Bool → Option (List ℕ) → Option (List ℕ)
when true x = x
when false x = none

abbrev pub or_else : Option (List ℕ) → Option (List ℕ) → Option (List ℕ)
or_else none y = y
or_else (some v) y = some v

abbrev pub and_then : Option (List ℕ) → (List ℕ → Option (List ℕ)) → Option (List ℕ)
and_then none k = none
and_then (some v) k = k v

-- what is left of a window whose first bytes pass the row's tests, one each
unfoldable pub rest : Row → List ℕ → Option (List ℕ)
rest [] w = some w
rest (t ∷ r) [] = none
rest (t ∷ r) (b ∷ w) = when (pass t b) (rest r w)

-- what the first row that fits the window's start leaves
unfoldable pub found : List Row → List ℕ → Option (List ℕ)
found [] w = none
found (r ∷ rs) w = or_else (rest r w) (found rs w)

-- a row before each of a list
unfoldable pub before : Row → List Row → List Row
before r [] = []
before r (s ∷ ss) = (r ++ s) ∷ before r ss

-- each row of the first list before each of the second, the first list deciding first
infixr 70 ◌⊗◌
unfoldable pub ◌⊗◌ : List Row → List Row → List Row
[] ⊗ ss = []
(r ∷ rs) ⊗ ss = before r ss ++ rs ⊗ ss

-- n bytes, whatever they are
abbrev pub anys : ℕ → Row
anys n = replicate n any

-- n numbers from a on
unfoldable pub rising : ℕ → ℕ → List ℕ
rising a zero = []
rising a (suc n) = a ∷ rising (suc a) n

-- the lengths from a to b, b included
unfoldable pub lengths : Order → ℕ → ℕ → List ℕ
lengths short a b = rising a (suc b - a)
lengths long a b = reverse (rising a (suc b - a))

unfoldable mutual
  pub rows_of : Order → Item → List Row
  rows_of o (one t) = (t ∷ []) ∷ []
  rows_of o (jump n) = anys n ∷ []
  rows_of o (range a b) = map anys (lengths o a b)
  rows_of o (alt bs) = rows_in o bs

  pub rows : Order → Prog → List Row
  rows o end = [] ∷ []
  rows o (i ▹ p) = rows_of o i ⊗ rows o p

  pub rows_in : Order → Branches → List Row
  rows_in o stop = []
  rows_in o (or p bs) = rows o p ++ rows_in o bs

-- what is left of a window after the first choice, in the order o, that fits at its start
unfoldable pub run : Order → Prog → List ℕ → Option (List ℕ)
run o p w = found (rows o p) w

-- the forward check, and the reverse check, which reads the window from its end
abbrev pub forward : Prog → List ℕ → Option (List ℕ)
forward p w = run short p w

abbrev pub backward : Prog → List ℕ → Option (List ℕ)
backward p w = run long p (reverse w)

-- every choice of a program, in choice order, and the row of each: proofs/ChoiceOrder.antt says that these are all, in that order

-- a way before each choice of a list
unfoldable pub via_each : Way → List Choice → List Choice
via_each k [] = []
via_each k (c ∷ cs) = via k c ∷ via_each k cs

-- each way of the first list before each choice of the second, the first list deciding first
infixr 70 ◌⊠◌
unfoldable pub ◌⊠◌ : List Way → List Choice → List Choice
[] ⊠ cs = []
(k ∷ ks) ⊠ cs = via_each k cs ++ ks ⊠ cs

unfoldable mutual
  pub ways : Order → Item → List Way
  ways o (one t) = only ∷ []
  ways o (jump n) = only ∷ []
  ways o (range a b) = map bytes (lengths o a b)
  ways o (alt bs) = ways_in o bs

  pub choices : Order → Prog → List Choice
  choices o end = done ∷ []
  choices o (i ▹ p) = ways o i ⊠ choices o p

  pub ways_in : Order → Branches → List Way
  ways_in o stop = []
  ways_in o (or p bs) = map first (choices o p) ++ map later (ways_in o bs)

abbrev pub head_way : Choice → Way
head_way done = only
head_way (via k c) = k

abbrev pub tail_choice : Choice → Choice
tail_choice done = done
tail_choice (via k c) = c

abbrev pub by_way : Way → (ℕ → Row) → (Choice → Row) → (Way → Row) → Row
by_way only f g h = []
by_way (bytes n) f g h = f n
by_way (first c) f g h = g c
by_way (later k) f g h = h k

unfoldable mutual
  pub row_way : Item → Way → Row
  row_way (one t) k = t ∷ []
  row_way (jump n) k = anys n
  row_way (range a b) k = by_way k anys (λ c. []) (λ j. [])
  row_way (alt bs) k = row_in bs k

  pub row_by : Prog → Choice → Row
  row_by end c = []
  row_by (i ▹ p) c = row_way i (head_way c) ++ row_by p (tail_choice c)

  pub row_in : Branches → Way → Row
  row_in stop k = []
  row_in (or p bs) k = by_way k (λ n. []) (λ c. row_by p c) (λ j. row_in bs j)
