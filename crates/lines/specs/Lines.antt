-- The lines of a listing, as 01 has them. Assumes nothing: these are definitions.
-- To be believed: `blank` `line_end` `number_line` `numbers_line` `byte_line` `mask_line` `program_lines` `literal_line` `literal_lines` `literals_lines` `refused_line` `literals_refused_line` `LiteralsGot` `got_lines` `Contents` `programs_lines` `listing`.
use mathlib.Core.List.{List, [], ◌∷◌, ◌++◌, flat_map}
use Rattle.std.specs.Prelude.{ℕ, ◌%◌, length, take, drop}
use Rattle.def_meaning.specs.Programs.{Item, one, jump, range, alt, Test, byte, mask, negated_mask, any, dot}
use Rattle.def_meaning.specs.Words.{byte_size, Shape, item, opens, mark, wrong, shape}
use Rattle.base.specs.Text.{ascii}
use Rattle.printing.specs.Numbers.{hex_of, decimal_of}

abbrev pub blank : List ℕ
blank = ascii " "

abbrev pub line_end : List ℕ
line_end = ascii "\n"

-- a line that ends with a number; with two numbers and what stands between them; with a byte; with a value and a mask
unfoldable pub number_line : List ℕ → ℕ → List ℕ
number_line name n = name ++ (decimal_of n ++ line_end)

unfoldable pub numbers_line : List ℕ → ℕ → List ℕ → ℕ → List ℕ
numbers_line name n between m = name ++ (decimal_of n ++ number_line between m)

unfoldable pub byte_line : List ℕ → ℕ → List ℕ
byte_line name v = name ++ (hex_of v ++ line_end)

unfoldable pub mask_line : List ℕ → ℕ → ℕ → List ℕ
mask_line name v m = name ++ (hex_of v ++ byte_line blank m)

-- the line of a node, the values and masks of which are bytes in a sound program; no word says `any` or whole alternatives, and a word that says nothing has no line
abbrev pub test_line : Test → List ℕ
test_line (byte v) = byte_line (ascii "byte ") (v % byte_size)
test_line (mask v m) = mask_line (ascii "mask ") (v % byte_size) (m % byte_size)
test_line (negated_mask v m) = mask_line (ascii "not ") (v % byte_size) (m % byte_size)
test_line any = []
test_line dot = ascii "dot\n"

abbrev pub item_line : Item → List ℕ
item_line (one t) = test_line t
item_line (jump n) = number_line (ascii "jump ") n
item_line (range a b) = numbers_line (ascii "range ") a blank b
item_line (alt bs) = []

abbrev pub shape_line : Shape → List ℕ
shape_line (item i) = item_line i
shape_line (opens n) = number_line (ascii "alt ") n
shape_line (mark n) = number_line (ascii "branch ") n
shape_line wrong = []

unfoldable pub node_line : ℕ → List ℕ
node_line w = shape_line (shape w)

-- a program: its name with the count of its nodes, and a line for each of them
unfoldable pub program_lines : List ℕ → List ℕ → List ℕ
program_lines name ws = number_line name (length ws) ++ flat_map node_line ws

-- a literal in hexadecimal, on a line of its own
unfoldable pub literal_line : List ℕ → List ℕ
literal_line bs = flat_map hex_of bs ++ line_end

unfoldable pub literal_lines : List (List ℕ) → List ℕ
literal_lines [] = []
literal_lines (l ∷ ls) = literal_line l ++ literal_lines ls

-- the literals: their count, their rank, and a line for each
unfoldable pub literals_lines : ℕ → List (List ℕ) → List ℕ
literals_lines rank ls = numbers_line (ascii "literals ") (length ls) (ascii " rank ") rank ++ literal_lines ls

-- literals cut out of their bytes, which stand one after another, by their lengths (proofs/ListingLaws.antt, `cut_flatten`)
unfoldable pub cut : List ℕ → List ℕ → List (List ℕ)
cut [] bs = []
cut (n ∷ ns) bs = take n bs ∷ cut ns (drop n bs)

-- the two refusals
unfoldable pub refused_line : ℕ → ℕ → List ℕ
refused_line n place = numbers_line (ascii "refused ") n (ascii " at ") place

unfoldable pub literals_refused_line : ℕ → List ℕ
literals_refused_line n = number_line (ascii "literals refused ") n

-- what is got from picking: a rank and literals, or a refusal's number
pub data LiteralsGot : Type 0 where
  got : ℕ → List (List ℕ) → LiteralsGot
  not_got : ℕ → LiteralsGot

unfoldable pub got_lines : LiteralsGot → List ℕ
got_lines (got rank ls) = literals_lines rank ls
got_lines (not_got n) = literals_refused_line n

-- what a listing tells of a text: both programs' words with what was got from picking, or a refusal's number and place
pub data Contents : Type 0 where
  compiled : List ℕ → List ℕ → LiteralsGot → Contents
  refused : ℕ → ℕ → Contents

unfoldable pub programs_lines : List ℕ → List ℕ → List ℕ
programs_lines f r = program_lines (ascii "forward ") f ++ program_lines (ascii "reverse ") r

-- the whole listing
unfoldable pub listing : Contents → List ℕ
listing (compiled f r p) = programs_lines f r ++ got_lines p
listing (refused n place) = refused_line n place
