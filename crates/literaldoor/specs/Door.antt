-- What the literal door answers, and what it leaves in the two buffers. Assumes nothing: these are definitions.
-- To be believed: `LiteralsSaid` `literals_said`.
use Rattle.std.specs.Prelude.{◌≡◌, cond, Result, Ok, Err, List, ℕ, length}
use Rattle.base.specs.Refusals.{number_of}
use Rattle.def_reading.specs.Lists.{Verdict, accepted, rejected, reading}
use Rattle.def_picking.specs.Candidates.{Picked, picked, unpicked, pick}
use Rattle.generator.specs.Output as output
use Rattle.base.specs.declared.Refused.{Refused}
use Rattle.literaldoor.specs.declared.Picked.{Picked as Answer}

-- 01's values: the offset reached, how many literals and their rank; or the refusal's number and its place
pub data LiteralsSaid : Type 0 where
  gives : ℕ → ℕ → ℕ → LiteralsSaid
  refuses : ℕ → ℕ → LiteralsSaid

abbrev pub literals_said : Result Answer Refused → LiteralsSaid
literals_said (Ok p) = gives p.reached p.count p.rank
literals_said (Err x) = refuses (number_of x.why) x.place

-- a text's refusals have their places; 19, 17 and 18 have place 0, and 18 comes last
unfoldable pub picked_says : ℕ → Picked → List ℕ → List ℕ → LiteralsSaid
picked_says reached (picked rank ls) b l = cond (output.fits ls b l) (gives reached (length ls) rank) (refuses 18 0)
picked_says reached (unpicked x) b l = refuses (number_of x) 0

unfoldable pub verdict_says : Verdict → List ℕ → List ℕ → LiteralsSaid
verdict_says (accepted end ts) b l = picked_says end (pick ts) b l
verdict_says (rejected x place) b l = refuses (number_of x) place

-- the literals one after another, and the length of each; on a refusal nothing is written
unfoldable pub picked_bytes : Picked → List ℕ → List ℕ → List ℕ
picked_bytes (picked rank ls) b l = output.bytes_left ls b l
picked_bytes (unpicked x) b l = b

unfoldable pub picked_lengths : Picked → List ℕ → List ℕ → List ℕ
picked_lengths (picked rank ls) b l = output.lengths_left ls b l
picked_lengths (unpicked x) b l = l

unfoldable pub verdict_bytes : Verdict → List ℕ → List ℕ → List ℕ
verdict_bytes (accepted end ts) b l = picked_bytes (pick ts) b l
verdict_bytes (rejected x place) b l = b

unfoldable pub verdict_lengths : Verdict → List ℕ → List ℕ → List ℕ
verdict_lengths (accepted end ts) b l = picked_lengths (pick ts) b l
verdict_lengths (rejected x place) b l = l

-- of a text, and buffers that were b and l
abbrev pub literals_says : List ℕ → List ℕ → List ℕ → LiteralsSaid
literals_says t b l = verdict_says (reading t) b l

abbrev pub bytes_left : List ℕ → List ℕ → List ℕ → List ℕ
bytes_left t b l = verdict_bytes (reading t) b l

abbrev pub lengths_left : List ℕ → List ℕ → List ℕ → List ℕ
lengths_left t b l = verdict_lengths (reading t) b l

-- below the door: what is said of a pick from a text that was read up to the offset reached, and the buffers that were b and l
abbrev pub HandsOut : ℕ → Picked → LiteralsSaid → List ℕ → List ℕ → List ℕ → List ℕ → Type 0
HandsOut reached p s b l b' l' = (s ≡ picked_says reached p b l) × (b' ≡ picked_bytes p b l) × (l' ≡ picked_lengths p b l)
