-- Segments, runs, parts and slices. Assumes nothing: these are definitions.
-- To be believed: `closes` `plain_alternatives` `at_front` `segmented` `segments` `filled_ones` `first_last` `runs` `is_literal` `joins_part` `part_before` `parts` `Slice` `literal_only` `longer` `slices`.
use Rattle.std.specs.Prelude.{Bool, true, false, cond, not, ◌&&◌, ◌||◌, List, [], ◌∷◌, ◌++◌, ℕ, ◌+◌, leb}
use Rattle.def_meaning.specs.Tokens.{Token, Tokens, Byte, NotByte, MaskedByte, NotMaskedByte, Jump, Alternatives, nothing, ◌then◌, ◌⊕◌}
use Rattle.def_picking.specs.Literals.{is_byte, is_plain, plain_lists, length_in}

unfoldable pub is_alternatives : Token → Bool
is_alternatives (Byte v) = false
is_alternatives (NotByte v) = false
is_alternatives (MaskedByte v m) = false
is_alternatives (NotMaskedByte v m) = false
is_alternatives (Jump from to) = false
is_alternatives (Alternatives ls) = true

-- `??` and jumps close a run
abbrev pub closes : Token → Bool
closes t = not (is_plain t || is_alternatives t)

-- alternatives whose branches hold only bytes and classes; any other token is no matter here
unfoldable pub plain_inside : Token → Bool
plain_inside (Byte v) = true
plain_inside (NotByte v) = true
plain_inside (MaskedByte v m) = true
plain_inside (NotMaskedByte v m) = true
plain_inside (Jump from to) = true
plain_inside (Alternatives ls) = plain_lists ls

-- all alternatives are plain: else 19
unfoldable pub plain_alternatives : Tokens → Bool
plain_alternatives nothing = true
plain_alternatives (t then ts) = plain_inside t && plain_alternatives ts

-- a token at the front of the first segment
unfoldable pub at_front : Token → List Tokens → List Tokens
at_front t [] = (t then nothing) ∷ []
at_front t (s ∷ ss) = (t then s) ∷ ss

-- a token that closes a run opens the next segment, any other joins the first
unfoldable pub segmented : Bool → Token → List Tokens → List Tokens
segmented true t ss = nothing ∷ ss
segmented false t ss = at_front t ss

-- what stands before, between and after the tokens that close a run
unfoldable pub segments : Tokens → List Tokens
segments nothing = nothing ∷ []
segments (t then ts) = segmented (closes t) t (segments ts)

-- empty ones are dropped
unfoldable pub filled_ones : List Tokens → List Tokens
filled_ones [] = []
filled_ones (nothing ∷ ss) = filled_ones ss
filled_ones ((t then s) ∷ ss) = (t then s) ∷ filled_ones ss

-- the second, third and so on, the first last
unfoldable pub first_last : List Tokens → List Tokens
first_last [] = []
first_last (s ∷ ss) = ss ++ (s ∷ [])

-- the runs in their order
unfoldable pub runs : Tokens → List Tokens
runs ts = filled_ones (first_last (segments ts))

-- a part that begins with a byte is a literal: only bytes join a byte in a part
unfoldable pub is_literal : Tokens → Bool
is_literal nothing = false
is_literal (t then ts) = is_byte t

-- a token before a part and those that follow it
unfoldable pub joins_part : Bool → Token → Tokens → List Tokens → List Tokens
joins_part true t p ps = (t then p) ∷ ps
joins_part false t p ps = (t then nothing) ∷ p ∷ ps

-- a byte joins a literal part
unfoldable pub part_before : Token → List Tokens → List Tokens
part_before t [] = (t then nothing) ∷ []
part_before t (p ∷ ps) = joins_part (is_byte t && is_literal p) t p ps

-- the parts of a run: a literal (successive bytes), a class, or alternatives
unfoldable pub parts : Tokens → List Tokens
parts nothing = []
parts (t then ts) = part_before t (parts ts)

-- A slice of a run: the literal part that stands right before it, the slice, the literal part right after it. No two literal parts meet
-- (`parts_apart`), so beyond these stands no further one.
pub data Slice : Type 0 where
  slice : Tokens → Tokens → Tokens → Slice

-- a literal part, or nothing
unfoldable pub literal_only : Tokens → Tokens
literal_only p = cond (is_literal p) p nothing

-- A slice and the longer ones with the same first part; `len` is the length of its parts after the first.
-- After a slice beyond the first part, stop once that is 4 or more.
unfoldable pub longer : List Tokens → Tokens → Tokens → ℕ → List Slice
longer [] prior own len = slice prior own nothing ∷ []
longer (p ∷ ps) prior own len =
    slice prior own (literal_only p) ∷ cond (leb 4 len) [] (longer ps prior (own ⊕ p) (len + length_in p))

-- for each first part, it and each longer slice
unfoldable pub slices : List Tokens → Tokens → List Slice
slices [] prior = []
slices (p ∷ ps) prior = longer ps prior p 0 ++ slices ps (literal_only p)
