-- Ranks, and which candidate wins, by computing. Assumes nothing: these are definitions; crate def_promise says in its specs/Winners.antt which
-- one wins, with no order of trial, and shows that `in_run` and `in_pattern` give this one.
-- To be believed: `penalty` `rank_value` `Candidate` `Picked`.
use Rattle.std.specs.Prelude.{Bool, true, false, cond, ◌&&◌, ◌||◌, List, [], ◌∷◌, ℕ, ◌-◌, min, eqb, leb, ltb, length}
use Rattle.std.proofs.Math.Option.{Option, none, some}
use Rattle.def_meaning.specs.Limits.{literal_limit, combination_limit}
use Rattle.def_meaning.specs.Tokens.{Token, Tokens, Byte, NotByte, MaskedByte, NotMaskedByte, Jump, Alternatives, nothing, ◌then◌, ◌⊕◌}
use Rattle.base.specs.declared.Refusal.{Refusal}
use Rattle.base.specs.declared.Refusal.TheVariants.{TooManyLiterals, NotPlain}
use Rattle.atoms.specs.Score.{literal_score}
use Rattle.def_picking.specs.Literals.{literals, combinations}
use Rattle.def_picking.specs.Runs.{plain_alternatives, runs, parts, is_literal, Slice, slice, slices}

-- the least that a measure gives of some literals
unfoldable pub lowest : (List ℕ → ℕ) → List (List ℕ) → ℕ → ℕ
lowest of [] n = n
lowest of (l ∷ ls) n = lowest of ls (min n (of l))

unfoldable pub least : (List ℕ → ℕ) → List (List ℕ) → ℕ
least of [] = 0
least of (l ∷ ls) = lowest of ls (of l)

-- less 10 above 1 combination, 20 above 16, 40 from 100
unfoldable pub penalty : ℕ → ℕ
penalty n = cond (leb 100 n) 40 (cond (ltb 16 n) 20 (cond (ltb 1 n) 10 0))

-- a slice's rank; or it is skipped; or it has too many literals, which is refused with 17
pub data Ranked : Type 0 where
  ranked : ℕ → Ranked
  skipped : Ranked
  excessive : Ranked

-- the rank is the least score less the penalty, not below 0
unfoldable pub rank_value : Tokens → ℕ
rank_value ts = least literal_score (literals ts) - penalty (combinations ts)

-- literals that exceed 256 are refused with 17
unfoldable pub counted : Bool → Tokens → Ranked
counted true ts = excessive
counted false ts = ranked (rank_value ts)

-- above 256 combinations a slice is skipped
unfoldable pub combined : Bool → Tokens → Ranked
combined true ts = skipped
combined false ts = counted (ltb literal_limit (length (literals ts))) ts

unfoldable pub rank : Tokens → Ranked
rank ts = combined (ltb combination_limit (combinations ts)) ts

-- a candidate: nothing with a rank, a rank and the tokens whose literals are taken, or 17
pub data Candidate : Type 0 where
  unranked : Candidate
  chosen : ℕ → Tokens → Candidate
  too_many_literals : Candidate

-- a slice with the literal parts on either side
unfoldable pub widened : Slice → Tokens
widened (slice prior own next) = prior ⊕ (own ⊕ next)

-- the first highest slice wins and then takes in literal parts on either side, keeping its rank
unfoldable pub against : Candidate → Slice → Ranked → Candidate
against unranked s (ranked n) = chosen n (widened s)
against unranked s skipped = unranked
against unranked s excessive = too_many_literals
against (chosen m ts) s (ranked n) = cond (ltb m n) (chosen n (widened s)) (chosen m ts)
against (chosen m ts) s skipped = chosen m ts
against (chosen m ts) s excessive = too_many_literals
against too_many_literals s r = too_many_literals

unfoldable pub rank_of : Slice → Ranked
rank_of (slice prior own next) = rank own

unfoldable pub best : Candidate → List Slice → Candidate
best c [] = c
best c (s ∷ ss) = best (against c s (rank_of s)) ss

-- the bytes of a literal part
unfoldable pub byte_of : Token → ℕ
byte_of (Byte v) = v
byte_of (NotByte v) = 0
byte_of (MaskedByte v m) = 0
byte_of (NotMaskedByte v m) = 0
byte_of (Jump from to) = 0
byte_of (Alternatives ls) = 0

unfoldable pub bytes_of : Tokens → List ℕ
bytes_of nothing = []
bytes_of (t then ts) = byte_of t ∷ bytes_of ts

-- the first literal part that scores at least 80
unfoldable pub strong : List Tokens → Option Tokens
strong [] = none
strong (p ∷ ps) = cond (is_literal p && leb 80 (literal_score (bytes_of p))) (some p) (strong ps)

-- it wins alone; otherwise the best slice does
unfoldable pub alone_or : Option Tokens → Candidate → Candidate
alone_or (some p) c = chosen (literal_score (bytes_of p)) p
alone_or none c = c

-- what wins in a run
unfoldable pub in_run : Tokens → Candidate
in_run run = alone_or (strong (parts run)) (best unranked (slices (parts run) nothing))

-- a higher rank, then a longer shortest literal
unfoldable pub beats : ℕ → Tokens → ℕ → Tokens → Bool
beats n us m ts = ltb m n || (eqb m n && ltb (least length (literals ts)) (least length (literals us)))

-- between runs: the one that beats the other, else the earlier
unfoldable pub between : Candidate → Candidate → Candidate
between unranked c = c
between (chosen m ts) unranked = chosen m ts
between (chosen m ts) (chosen n us) = cond (beats n us m ts) (chosen n us) (chosen m ts)
between (chosen m ts) too_many_literals = too_many_literals
between too_many_literals c = too_many_literals

unfoldable pub among_runs : Candidate → List Tokens → Candidate
among_runs c [] = c
among_runs c (r ∷ rs) = among_runs (between c (in_run r)) rs

-- what wins in a pattern whose alternatives are plain
unfoldable pub in_pattern : Tokens → Candidate
in_pattern ts = among_runs unranked (runs ts)

-- the rank and the literals, or a refusal
pub data Picked : Type 0 where
  picked : ℕ → List (List ℕ) → Picked
  unpicked : Refusal → Picked

-- nothing ranked: no literals, rank 0
unfoldable pub taking : Candidate → Picked
taking unranked = picked 0 []
taking (chosen n ts) = picked n (literals ts)
taking too_many_literals = unpicked TooManyLiterals

-- 19, then 17
unfoldable pub pick : Tokens → Picked
pick ts = cond (plain_alternatives ts) (taking (in_pattern ts)) (unpicked NotPlain)
