-- What the reading door answers, and what it leaves in the pool. Assumes nothing: these are definitions.
-- To be believed: `ReadSaid` `read_said`.
use Rattle.std.specs.Prelude.{◌≡◌, cond, List, ℕ, leb, length, Result, Ok, Err}
use Rattle.base.specs.declared.Refusal.{Refusal}
use Rattle.base.specs.declared.Refused.{Refused}
use Rattle.base.specs.Refusals.{number_of}
use Rattle.base.specs.Pools.{filled, cleared}
use Rattle.def_meaning.specs.Limits.{token_pool}
use Rattle.def_meaning.specs.Entries.{entries}
use Rattle.def_reading.specs.Lists.{Verdict, accepted, rejected, reading}
use Rattle.reader.specs.Written.{written}
use Rattle.readdoor.specs.declared.Reading.{Reading}

-- 01's values: the offset reached and the words used; or the refusal's number and its place
pub data ReadSaid : Type 0 where
  gives : ℕ → ℕ → ReadSaid
  refuses : ℕ → ℕ → ReadSaid

abbrev pub read_said : Result Reading Refused → ReadSaid
read_said (Ok r) = gives r.end r.words
read_said (Err x) = refuses (number_of x.why) x.place

unfoldable pub verdict_says : Verdict → ReadSaid
verdict_says (accepted end ts) = gives end (length (entries ts))
verdict_says (rejected r place) = refuses (number_of r) place

-- success writes the used words and zeroes the rest of the 4,096; a refusal zeroes them
unfoldable pub verdict_leaves : Verdict → List ℕ → List ℕ
verdict_leaves (accepted end ts) p = filled token_pool (entries ts) p
verdict_leaves (rejected r place) p = cleared token_pool p

-- a pool of fewer than 4,096 words is refused first, and then nothing changes
unfoldable pub read_says : List ℕ → List ℕ → ReadSaid
read_says t p = cond (leb token_pool (length p)) (verdict_says (reading t)) (refuses 18 0)

unfoldable pub read_leaves : List ℕ → List ℕ → List ℕ
read_leaves t p = cond (leb token_pool (length p)) (verdict_leaves (reading t) p) p

-- the door's answers, by their parts
abbrev pub reads : ℕ → ℕ → Result Reading Refused
reads e u = Ok (record { end = e; words = u })

abbrev pub refused : Refusal → ℕ → Result Reading Refused
refused r y = Err (record { why = r; place = y })

-- below the door: the answer, and the used words in a pool that was p and is q
unfoldable pub TextSays : Verdict → Result Reading Refused → List ℕ → List ℕ → Type 0
TextSays (accepted end ts) r p q = (r ≡ reads end (length (entries ts))) × (q ≡ written p 0 (entries ts))
TextSays (rejected x place) r p q = r ≡ refused x place
