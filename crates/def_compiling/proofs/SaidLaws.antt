-- The words of a program whose fields fit are sound, and say that program. Assumes nothing.
use mathlib.Core.Path.{◌≡◌, sym, subst}
use mathlib.Core.Bool.{true}
use mathlib.Core.List.{List, ◌∷◌, append-nil}
use Prim.Native.Nat.{ℕ, ◌≤◌, ◌<◌}
use native.Mathlib.Omega.{arith}
use lib.Dec.{leb}
use lib.ListN.{length-append}
use borrow.Author.Tests.{leb-true}
use Rattle.def_meaning.specs.Limits.{branch_limit}
use Rattle.def_meaning.specs.Programs.{Test, byte, mask, negated_mask, any, dot, Item, Prog, Branches, one, jump, range, alt, end, ◌▹◌, stop, or}
use Rattle.def_meaning.specs.NodeWords.{word, Flat, kind_0, kind_1, kind_2, kind_3, kind_5, Flats, no_node, a_node, Branched, last, more, Nodes, nothing, flat, kind_4, kind_6}
use Rattle.def_meaning.specs.Words.{field_size, word_for, is_flat, flat_prog, prog, Sound}
use Rattle.def_meaning.proofs.ProperLaws.{OfTest}
use Rattle.def_meaning.proofs.NodeWords.{listed_sound, program_listed}
use Rattle.def_meaning.proofs.SoundLaws.{and_left, and_right, false_true}
use Rattle.def_compiling.specs.ProgramWords.{opening, words_of, words_in, nodes}
use Rattle.def_compiling.specs.Compile.{short_in, short_of, short}

-- what is not nothing has an item
unfoldable pub Some : Prog → Type 0
Some end = ⊥
Some (i ▹ p) = Unit {0}

-- every item's fields are as its row of the table asks; an alternation has a branch, and a branch is flat and not empty
unfoldable mutual
  pub FitOf : Item → Type 0
  FitOf (one t) = OfTest t
  FitOf (jump n) = (1 ≤ n) × (n < field_size)
  FitOf (range a b) = (a ≤ b) × (b < field_size)
  FitOf (alt bs) = FitFirst bs

  pub Fit : Prog → Type 0
  Fit end = Unit {0}
  Fit (i ▹ p) = FitOf i × Fit p

  pub FitFirst : Branches → Type 0
  FitFirst stop = ⊥
  FitFirst (or p bs) = Fit p × (flat_prog p ≡ true) × Some p × FitMore bs

  pub FitMore : Branches → Type 0
  FitMore stop = Unit {0}
  FitMore (or p bs) = Fit p × (flat_prog p ≡ true) × Some p × FitMore bs

test_row : (t : Test) → OfTest t → Flat (word_for t) (one t)
unfolding OfTest
test_row (byte v) h = kind_0 h
test_row (mask v m) h = kind_1 h.0 h.1 h.2
test_row (negated_mask v m) h = kind_2 h.0 h.1 h.2
test_row any h = absurd h
test_row dot h = kind_5

-- a branch
flats_said : (p : Prog) → Fit p → flat_prog p ≡ true → Flats (words_of p) p
unfolding Fit flat_prog is_flat words_of
flats_said end h g = no_node
flats_said (one t ▹ p) h g = a_node (test_row t h.0) (flats_said p h.1 g)
flats_said (jump n ▹ p) h g = a_node (kind_3 h.0.0 h.0.1) (flats_said p h.1 g)
flats_said (range a b ▹ p) h g = false_true g
flats_said (alt bs ▹ p) h g = false_true g

some_words : (p : Prog) → Some p → 1 ≤ nodes p
unfolding Some words_of
some_words end h = absurd h
some_words (one t ▹ p) h = omega arith
some_words (jump n ▹ p) h = omega arith
some_words (range a b ▹ p) h = omega arith
some_words (alt bs ▹ p) h = omega arith

branched_said : (bs : Branches) → FitFirst bs → short_in bs ≡ true → Branched (words_in bs) bs
unfolding Fit words_of short_in
branched_said stop h g = absurd h
branched_said (or p stop) h g =
    let n : nodes p ≤ branch_limit = leb-true (nodes p) branch_limit (and_left (leb (nodes p) branch_limit) (short_in stop) g) in
    subst (λ (l : List ℕ). Branched (word 7 (nodes p) 0 ∷ l) (or p stop)) (sym (append-nil (words_of p))) (last (some_words p h.2) (omega arith) (flats_said p h.0 h.1))
branched_said (or p (or q bs)) h g =
    let n : nodes p ≤ branch_limit = leb-true (nodes p) branch_limit (and_left (leb (nodes p) branch_limit) (short_in (or q bs)) g) in
    more {ns = words_of p} (some_words p h.2) (omega arith) (flats_said p h.0 h.1) (branched_said (or q bs) h.3 (and_right (leb (nodes p) branch_limit) (short_in (or q bs)) g))

-- a program
said : (p : Prog) → Fit p → short p ≡ true → nodes p ≤ field_size → Nodes (words_of p) p
unfolding Fit words_of opening short short_of
said end h g l = nothing
said (one t ▹ p) h g l = flat (test_row t h.0) (said p h.1 g (omega arith))
said (jump n ▹ p) h g l = flat (kind_3 h.0.0 h.0.1) (said p h.1 g (omega arith))
said (range a b ▹ p) h g l = kind_4 h.0.0 h.0.1 (said p h.1 g (omega arith))
said (alt bs ▹ p) h g l =
    let e = length-append (words_in bs) (words_of p) in
    kind_6 {bs = words_in bs} (omega arith) (branched_said bs h.0 (and_left (short_in bs) (short p) g)) (said p h.1 (and_right (short_in bs) (short p) g) (omega arith))

module _ (p : Prog) (h : Fit p) (g : short p ≡ true) (l : nodes p ≤ field_size) where
  pub words_sound : Sound (words_of p)
  words_sound = listed_sound (said p h g l)

  pub words_say : prog (words_of p) ≡ p
  words_say = program_listed (said p h g l)
