-- What the soundness test asks of one word, and of words that are pieces. Assumes nothing: these are definitions.
-- To be believed: nothing.
use Rattle.std.specs.Prelude.{◌≡◌, Bool, true, false, cond, ◌&&◌, List, [], ◌∷◌, ℕ, Option, None, Some, leb, length, take, drop}
use Rattle.def_meaning.specs.Words.{Shape, item, opens, mark, wrong, shape, proper, is_flat}

-- the words inside an item: those of an alternation's branches, and none of an item that is one word
abbrev pub in_item : Shape → Option ℕ
in_item (item i) = Some 0
in_item (opens k) = Some k
in_item (mark k) = None
in_item wrong = None

-- the words inside a branch
abbrev pub in_branch : Shape → Option ℕ
in_branch (item i) = None
in_branch (opens k) = None
in_branch (mark k) = Some k
in_branch wrong = None

-- what may stand in a branch
abbrev pub flat_shape : Shape → Bool
flat_shape (item i) = is_flat i
flat_shape (opens k) = false
flat_shape (mark k) = false
flat_shape wrong = false

-- the same of a word, which must be proper
abbrev pub proper_shape : ℕ → Shape
proper_shape w = cond (proper w) (shape w) wrong

abbrev pub item_inside : ℕ → Option ℕ
item_inside w = in_item (proper_shape w)

abbrev pub branch_inside : ℕ → Option ℕ
branch_inside w = in_branch (proper_shape w)

abbrev pub flat_word : ℕ → Bool
flat_word w = flat_shape (proper_shape w)

-- a test that goes by first words: each tells how many words are inside, which a second test looks at, and the rest is tested alike
pub record Steps (test part : List ℕ → Bool) (inside : ℕ → Option ℕ) : Type 0 where
  pub nil : test [] ≡ true
  pub fit : (w k : ℕ) (ws : List ℕ) → inside w ≡ Some k → test (w ∷ ws) ≡ (leb k (length ws) && (part (take k ws) && test (drop k ws)))
  pub unfit : (w : ℕ) (ws : List ℕ) → inside w ≡ None → test (w ∷ ws) ≡ false
