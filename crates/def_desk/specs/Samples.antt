-- The samples by the desk that 01 marks P, with 02's words, and one of 02's, as one list, and when a sample is right. Assumes nothing: these are definitions.
-- To be believed: all.
use Rattle.std.specs.Prelude.{Bool, true, false, ◌&&◌, List, [], ◌∷◌, ℕ, eqb, length}
use Rattle.base.specs.Refusals.{number_of}
use Rattle.def_reading.specs.Lists.{Verdict, accepted, rejected, reading}
use Rattle.def_compiling.specs.Compile.{Compiled, compiled, refused, compile}
use Rattle.checkdoors.specs.Doors as doors
use Rattle.base.specs.Text.{ascii}

pub data Sample : Type 0 where
  -- the text is refused, with the number and at the place
  refuses : List ℕ → ℕ → ℕ → Sample
  -- it is read; it is read up to an offset
  reads : List ℕ → Sample
  reaches : List ℕ → ℕ → Sample
  -- its forward program has these words
  says : List ℕ → List ℕ → Sample
  -- its forward check on these bytes gives the end
  ends : List ℕ → List ℕ → ℕ → Sample

unfoldable pub same : List ℕ → List ℕ → Bool
same [] [] = true
same [] (y ∷ ys) = false
same (x ∷ xs) [] = false
same (x ∷ xs) (y ∷ ys) = eqb x y && same xs ys

unfoldable pub refused_at : Verdict → ℕ → ℕ → Bool
refused_at (accepted e ts) n p = false
refused_at (rejected r q) n p = eqb (number_of r) n && eqb q p

unfoldable pub read_up_to : Verdict → ℕ → Bool
read_up_to (accepted e ts) n = eqb e n
read_up_to (rejected r q) n = false

unfoldable pub is_read : Verdict → Bool
is_read (accepted e ts) = true
is_read (rejected r q) = false

-- the forward words of a text, if it compiles
unfoldable pub forward_of : Compiled → List ℕ
forward_of (compiled f r) = f
forward_of (refused r) = []

unfoldable pub words_of : Verdict → List ℕ
words_of (accepted e ts) = forward_of (compile ts)
words_of (rejected r q) = []

unfoldable pub found_at : doors.CheckSaid → ℕ → Bool
found_at (doors.found m) n = eqb m n
found_at doors.no_match n = false
found_at (doors.refuses k p) n = false

unfoldable pub right : Sample → Bool
right (refuses t n p) = refused_at (reading t) n p
right (reads t) = is_read (reading t)
right (reaches t n) = read_up_to (reading t) n
right (says t ws) = same (words_of (reading t)) ws
right (ends t hay n) = found_at (doors.forward_says (words_of (reading t)) hay 0 (length hay)) n

unfoldable pub every : List Sample → Bool
every [] = true
every (s ∷ ss) = right s && every ss

unfoldable pub samples : List Sample
samples =
    refuses (ascii "{ AB [0] CD }") 4 5
    ∷ refuses (ascii "{ [5] AB }") 6 2
    ∷ reads (ascii "{ AB (CD [200] EF) }")
    ∷ refuses (ascii "{ AB (CD [201] EF) }") 8 9
    ∷ refuses (ascii "{ ~?? }") 9 2
    ∷ refuses (ascii "{ ??? }") 2 4
    ∷ refuses (ascii "{ AB [2-3] [x }") 6 2
    ∷ reaches (ascii "{ AB } zz") 7
    ∷ ends (ascii "{ (61|61 62) 63 }") (0x61 ∷ 0x62 ∷ 0x63 ∷ []) 3
    ∷ ends (ascii "{ (61 62|61) }") (0x61 ∷ 0x62 ∷ []) 2
    ∷ says (ascii "{ A? }") (0xF000A001 ∷ [])
    ∷ says (ascii "{ AB [100] [200] [50] [100] CD }") (0xAB00 ∷ 0x1C203 ∷ 0xCD00 ∷ [])
    ∷ []
