-- The words of a program. Assumes nothing: these are definitions.
-- To be believed: nothing.
use Rattle.std.specs.Prelude.{List, [], ◌∷◌, ◌++◌, ℕ, length}
use Rattle.def_meaning.specs.Programs.{Item, Prog, Branches, one, jump, range, alt, end, ◌▹◌, stop, or}
use Rattle.def_meaning.specs.NodeWords.{word}
use Rattle.def_meaning.specs.Words.{word_for}

-- an Alternation's word, by the number of words that fill it
unfoldable pub opening : ℕ → ℕ
opening n = word 6 n 0

-- the words of a program: an Alternation counts its branches with their marks, an AltBranch its nodes
unfoldable mutual
  pub words_for : Item → List ℕ
  words_for (one t) = word_for t ∷ []
  words_for (jump n) = word 3 n 0 ∷ []
  words_for (range a b) = word 4 a b ∷ []
  words_for (alt bs) = opening (length (words_in bs)) ∷ words_in bs

  pub words_of : Prog → List ℕ
  words_of end = []
  words_of (i ▹ p) = words_for i ++ words_of p

  pub words_in : Branches → List ℕ
  words_in stop = []
  words_in (or p bs) = word 7 (length (words_of p)) 0 ∷ (words_of p ++ words_in bs)

abbrev pub nodes : Prog → ℕ
nodes p = length (words_of p)
