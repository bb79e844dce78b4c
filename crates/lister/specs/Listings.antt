-- The listing of a text. Assumes nothing: these are definitions.
-- To be believed: `lent_bytes` `lent_lengths` `with_room` `with_programs` `contents` `listing_of`.
use Rattle.std.specs.Prelude.{cond, ◌&&◌, ℕ, leb, length}
use mathlib.Core.List.{List, flatten}
use Rattle.base.specs.declared.Refusal.TheVariants.{NoRoom}
use Rattle.base.specs.Refusals.{number_of}
use Rattle.def_reading.specs.Lists.{Verdict, accepted, rejected, reading}
use Rattle.def_compiling.specs.Compile.{Compiled, compiled as programs, refused as uncompiled, compile}
use Rattle.def_picking.specs.Candidates.{Picked, picked, unpicked, pick}
use Rattle.lines.specs.Lines.{LiteralsGot, got, not_got, Contents, compiled, refused, listing}

-- how many bytes and how many lengths the listing program lends for literals
abbrev pub lent_bytes : ℕ
lent_bytes = 32768

abbrev pub lent_lengths : ℕ
lent_lengths = 256

-- bytes that have room for every listing (proofs/Promises.antt, `listing_room`)
abbrev pub listing_limit : ℕ
listing_limit = 86016

-- the literals, if there is room for them
unfoldable pub with_room : Picked → LiteralsGot
with_room (picked rank ls) = cond (leb (length ls) lent_lengths && leb (length (flatten ls)) lent_bytes) (got rank ls) (not_got (number_of NoRoom))
with_room (unpicked r) = not_got (number_of r)

-- both programs with what was got, or why there are none: the place of such a refusal is 0
unfoldable pub with_programs : Compiled → LiteralsGot → Contents
with_programs (programs f r) p = compiled f r p
with_programs (uncompiled r) p = refused (number_of r) 0

-- of a text that was read, or was not
unfoldable pub got_of : Verdict → LiteralsGot
got_of (accepted end ts) = with_room (pick ts)
got_of (rejected r place) = not_got (number_of r)

unfoldable pub contents : Verdict → Contents
contents (accepted end ts) = with_programs (compile ts) (with_room (pick ts))
contents (rejected r place) = refused (number_of r) place

-- what the listing program writes for a text
unfoldable pub listing_of : List ℕ → List ℕ
listing_of text = listing (contents (reading text))
