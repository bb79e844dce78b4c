-- What a node says, and its word. Assumes nothing: these are definitions.
-- To be believed: nothing.
use Rattle.std.specs.Prelude.{Option, Some, None, cond, ℕ, ◌<◌, eqb}
use Rattle.def_meaning.specs.Programs.{Test, byte, mask, negated_mask, dot, one, jump, range}
use Rattle.def_meaning.specs.Words.{field_size, Shape, item, opens, mark, wrong, word_for, word_of_shape}
use Rattle.nodes.specs.declared.ByteTest.{ByteTest}
use Rattle.nodes.specs.declared.ByteTest.TheVariants.{Byte, Mask, NegatedMask, Dot}
use Rattle.nodes.specs.declared.Node.{Node}
use Rattle.nodes.specs.declared.Node.TheVariants.{One, Jump, JumpRange, Alternation, AltBranch}

-- what a node says, in the terms of words
abbrev pub test_of : ByteTest → Test
test_of (Byte v) = byte v
test_of (Mask v m) = mask v m
test_of (NegatedMask v m) = negated_mask v m
test_of Dot = dot

abbrev pub shape_of : Node → Shape
shape_of (One t) = item (one (test_of t))
shape_of (Jump n) = item (jump n)
shape_of (JumpRange a b) = item (range a b)
shape_of (Alternation n) = opens n
shape_of (AltBranch n) = mark n

-- a word of a kind that 01 does not have says none
abbrev pub shape_said : Option Node → Shape
shape_said (Some n) = shape_of n
shape_said None = wrong

-- the word of a test and of a node
abbrev pub test_word : ByteTest → ℕ
test_word t = word_for (test_of t)

abbrev pub word_of : Node → ℕ
word_of n = word_of_shape (shape_of n)

abbrev pub word_said : Option Node → ℕ
word_said n = word_of_shape (shape_said n)

-- the fields of a node fit a word: every node that the code holds is such a one, by its types
abbrev pub TestFits : ByteTest → Type 0
TestFits (Byte v) = v < field_size
TestFits (Mask v m) = (v < field_size) × (m < field_size)
TestFits (NegatedMask v m) = (v < field_size) × (m < field_size)
TestFits Dot = Unit {0}

abbrev pub NodeFits : Node → Type 0
NodeFits (One t) = TestFits t
NodeFits (Jump n) = n < field_size
NodeFits (JumpRange a b) = (a < field_size) × (b < field_size)
NodeFits (Alternation n) = n < field_size
NodeFits (AltBranch n) = n < field_size

abbrev pub SaidFits : Option Node → Type 0
SaidFits (Some n) = NodeFits n
SaidFits None = Unit {0}

-- the mask under which a test's value lies, and the most that its second field may be, by its kind
abbrev pub mask_in : ℕ → ℕ → ℕ
mask_in k b = cond (eqb k 0) 0xFF b

abbrev pub most_in : ℕ → ℕ
most_in k = cond (eqb k 0) 0 0xFF
