-- What the mirror's door answers, and what it leaves in the pool. Assumes nothing: these are definitions.
-- To be believed: `MirrorSaid` `mirror_said`.
use Rattle.std.specs.Prelude.{cond, List, ℕ, Result, Ok, Err, ltb, length}
use Rattle.def_meaning.specs.Limits.{node_limit, node_pool}
use Rattle.def_meaning.specs.Words.{sound, mirror_words}
use Rattle.base.specs.declared.Refusal.{Refusal}
use Rattle.base.specs.Refusals.{number_of}
use Rattle.base.specs.Pools.{filled, cleared}

-- 01's answers: so many words were written; refused, by a number of its table and at a place
pub data MirrorSaid : Type 0 where
  mirrored : ℕ → MirrorSaid
  refuses : ℕ → ℕ → MirrorSaid

-- what each case of the answer says: the mirror's refusals are all at place 0
abbrev pub mirror_said : Result ℕ Refusal → MirrorSaid
mirror_said (Ok n) = mirrored n
mirror_said (Err r) = refuses (number_of r) 0

-- 18, then 13, then 15, then the mirror
unfoldable pub mirror_says : List ℕ → List ℕ → MirrorSaid
mirror_says words pool =
    cond (ltb (length pool) node_pool) (refuses 18 0)
    (cond (ltb node_limit (length words)) (refuses 13 0)
    (cond (sound words) (mirrored (length (mirror_words words))) (refuses 15 0)))

-- 18 changes nothing, 13 and 15 zero the lent words, and success writes the mirror and zeroes the rest of them
unfoldable pub mirror_leaves : List ℕ → List ℕ → List ℕ
mirror_leaves words pool =
    cond (ltb (length pool) node_pool) pool
    (cond (ltb node_limit (length words)) (cleared node_pool pool)
    (cond (sound words) (filled node_pool (mirror_words words) pool) (cleared node_pool pool)))
