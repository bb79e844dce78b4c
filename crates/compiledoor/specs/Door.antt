-- What the compiling door answers, and what it leaves in the two pools. Assumes nothing: these are definitions.
-- To be believed: `CompileSaid` `compile_said`.
use Rattle.std.specs.Prelude.{◌≡◌, Bool, cond, ◌&&◌, Result, Ok, Err, List, ℕ, leb, length}
use Rattle.def_meaning.specs.Limits.{node_pool}
use Rattle.base.specs.Refusals.{number_of}
use Rattle.base.specs.Pools.{filled, cleared}
use Rattle.def_reading.specs.Lists.{Verdict, accepted, rejected, reading}
use Rattle.def_compiling.specs.Compile.{Compiled, compiled, refused, compile}
use Rattle.base.specs.declared.Refusal.{Refusal}
use Rattle.base.specs.declared.Refused.{Refused}
use Rattle.compiler.specs.declared.Sizes.{Sizes}
use Rattle.compiledoor.specs.declared.Compiled.{Compiled as Answer}

-- 01's values: the offset reached and the words of each program; or the refusal's number and its place
pub data CompileSaid : Type 0 where
  gives : ℕ → ℕ → ℕ → CompileSaid
  refuses : ℕ → ℕ → CompileSaid

abbrev pub compile_said : Result Answer Refused → CompileSaid
compile_said (Ok c) = gives c.reached c.forward c.reverse
compile_said (Err x) = refuses (number_of x.why) x.place

-- of what was made of a text that was read up to the offset reached
abbrev pub made_says : ℕ → Result Sizes Refusal → CompileSaid
made_says reached (Ok s) = gives reached s.forward s.reverse
made_says reached (Err x) = refuses (number_of x) 0

-- a text's refusals have their places; 12, 14 and 13 have place 0
unfoldable pub compiled_says : ℕ → Compiled → CompileSaid
compiled_says reached (compiled f r) = gives reached (length f) (length r)
compiled_says reached (refused x) = refuses (number_of x) 0

unfoldable pub verdict_says : Verdict → CompileSaid
verdict_says (accepted end ts) = compiled_says end (compile ts)
verdict_says (rejected x place) = refuses (number_of x) place

-- success writes the used words and zeroes the rest of the 512; a refusal zeroes them
unfoldable pub compiled_forward : Compiled → List ℕ → List ℕ
compiled_forward (compiled f r) p = filled node_pool f p
compiled_forward (refused x) p = cleared node_pool p

unfoldable pub compiled_reverse : Compiled → List ℕ → List ℕ
compiled_reverse (compiled f r) q = filled node_pool r q
compiled_reverse (refused x) q = cleared node_pool q

unfoldable pub verdict_forward : Verdict → List ℕ → List ℕ
verdict_forward (accepted end ts) p = compiled_forward (compile ts) p
verdict_forward (rejected x place) p = cleared node_pool p

unfoldable pub verdict_reverse : Verdict → List ℕ → List ℕ
verdict_reverse (accepted end ts) q = compiled_reverse (compile ts) q
verdict_reverse (rejected x place) q = cleared node_pool q

-- pools of which either has fewer than 512 words are refused first, and then nothing changes
abbrev pub room : List ℕ → List ℕ → Bool
room p q = leb node_pool (length p) && leb node_pool (length q)

unfoldable pub compile_says : List ℕ → List ℕ → List ℕ → CompileSaid
compile_says t p q = cond (room p q) (verdict_says (reading t)) (refuses 18 0)

unfoldable pub forward_leaves : List ℕ → List ℕ → List ℕ → List ℕ
forward_leaves t p q = cond (room p q) (verdict_forward (reading t) p) p

unfoldable pub reverse_leaves : List ℕ → List ℕ → List ℕ → List ℕ
reverse_leaves t p q = cond (room p q) (verdict_reverse (reading t) q) q

-- below the door: what is said, and the pools that were p and q
abbrev pub TextFills : Verdict → CompileSaid → List ℕ → List ℕ → List ℕ → List ℕ → Type 0
TextFills x s p p' q q' = (s ≡ verdict_says x) × (p' ≡ verdict_forward x p) × (q' ≡ verdict_reverse x q)
