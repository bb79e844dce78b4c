-- What compiling tokens answers, and what it leaves in the two pools. Assumes nothing: these are definitions.
-- To be believed: nothing.
use Rattle.std.specs.Prelude.{◌≡◌, Bool, cond, Result, Ok, Err, List, ℕ, length, take}
use Rattle.def_meaning.specs.Limits.{node_pool}
use Rattle.base.specs.declared.Refusal.{Refusal}
use Rattle.base.specs.declared.Refusal.TheVariants.{TooManyNodes, BranchTooLong}
use Rattle.base.specs.Pools.{filled, cleared}
use Rattle.def_compiling.specs.Compile.{Compiled, compiled, refused}
use Rattle.compiler.specs.declared.Sizes.{Sizes}

-- the programs' words fill the first 512 words of their pools; a refusal zeroes those
abbrev pub Fills : Compiled → Result Sizes Refusal → List ℕ → List ℕ → List ℕ → List ℕ → Type 0
Fills (compiled f r) made p p' q q' = (made ≡ Ok (record { forward = length f; reverse = length r })) × (p' ≡ filled node_pool f p) × (q' ≡ filled node_pool r q)
Fills (refused x) made p p' q q' = (made ≡ Err x) × (p' ≡ cleared node_pool p) × (q' ≡ cleared node_pool q)

-- the same while a refusal still leaves both pools as they were
abbrev pub Puts : Compiled → Result Sizes Refusal → List ℕ → List ℕ → List ℕ → List ℕ → Type 0
Puts (compiled f r) made p p' q q' = (made ≡ Ok (record { forward = length f; reverse = length r })) × (p' ≡ filled node_pool f p) × (q' ≡ filled node_pool r q)
Puts (refused x) made p p' q q' = (made ≡ Err x) × (p' ≡ p) × (q' ≡ q)

-- the same before the words are in their pools: they stand at the front of two buffers
abbrev pub Makes : Compiled → Result Sizes Refusal → List ℕ → List ℕ → Type 0
Makes (compiled f r) made a b = (made ≡ Ok (record { forward = length f; reverse = length r })) × (take (length f) a ≡ f) × (take (length r) b ≡ r)
Makes (refused x) made a b = made ≡ Err x

-- once the tokens are simple: 14, then 13
unfoldable pub limited : Bool → Bool → List ℕ → List ℕ → Compiled
limited short few f r = cond short (cond few (compiled f r) (refused TooManyNodes)) (refused BranchTooLong)
