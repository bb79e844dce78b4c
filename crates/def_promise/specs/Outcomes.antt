-- What reading, compiling and the mirror answer, and what they leave in the lent pools, case by case. Assumes nothing: these are definitions.
-- To be believed: all.
use Rattle.std.specs.Prelude.{◌⊎◌, List, ℕ, ◌≤◌, ◌<◌, length}
use Rattle.base.specs.declared.Refusal.{Refusal}
use Rattle.base.specs.declared.Refusal.TheVariants.{NotSimple, TooManyNodes, BranchTooLong}
use Rattle.base.specs.Refusals.{number_of}
use Rattle.base.specs.Pools.{filled, cleared}
use Rattle.def_meaning.specs.Limits.{node_limit, token_pool, node_pool}
use Rattle.def_meaning.specs.Tokens.{Tokens}
use Rattle.def_meaning.specs.Entries.{entries}
use Rattle.def_meaning.specs.Programs.{Prog, mirror}
use Rattle.def_grammar.specs.Grammar.{Derives}
use Rattle.def_grammar.specs.Faults.{Fault}
use Rattle.readdoor.specs.Door as readdoor
use Rattle.def_compiling.specs.Compiling.{forward_program, reverse_program, Either}
use Rattle.def_compiling.specs.Compile as tokens
use Rattle.compiledoor.specs.Door as compiledoor
use Rattle.mirror.specs.MirrorDoor as mirrordoor
use Rattle.def_meaning.specs.NodeWords.{Nodes, SoundWords}
use Rattle.def_promise.specs.Cases.{Complex, Long, Large}

-- reading the text t into the pool p
pub data Reads (t p : List ℕ) : readdoor.ReadSaid → List ℕ → Type 0 where
  no_room : length p < token_pool → Reads t p (readdoor.refuses 18 0) p
  rejected : {x : Refusal} {place : ℕ} → token_pool ≤ length p → Fault t x place → Reads t p (readdoor.refuses (number_of x) place) (cleared token_pool p)
  accepted : {reached : ℕ} {ts : Tokens} → token_pool ≤ length p → Derives t reached ts → Reads t p (readdoor.gives reached (length (entries ts))) (filled token_pool (entries ts) p)

-- what is made of the tokens ts: 12, else 14, else 13, else the words that say both programs
pub data Makes (ts : Tokens) : tokens.Compiled → Type 0 where
  not_simple : Complex ts → Makes ts (tokens.refused NotSimple)
  branch_too_long : (Complex ts → ⊥) → Either Long ts → Makes ts (tokens.refused BranchTooLong)
  too_many_nodes : (Complex ts → ⊥) → (Either Long ts → ⊥) → Either Large ts → Makes ts (tokens.refused TooManyNodes)
  programs : {f r : List ℕ} → (Complex ts → ⊥) → (Either Long ts → ⊥) → (Either Large ts → ⊥) → Nodes f (forward_program ts) → Nodes r (reverse_program ts) → Makes ts (tokens.compiled f r)

-- compiling the text t into the pools p and q
pub data Compiles (t p q : List ℕ) : compiledoor.CompileSaid → List ℕ → List ℕ → Type 0 where
  no_room : (length p < node_pool) ⊎ (length q < node_pool) → Compiles t p q (compiledoor.refuses 18 0) p q
  rejected : {x : Refusal} {place : ℕ} → node_pool ≤ length p → node_pool ≤ length q → Fault t x place → Compiles t p q (compiledoor.refuses (number_of x) place) (cleared node_pool p) (cleared node_pool q)
  refused : {x : Refusal} {reached : ℕ} {ts : Tokens} → node_pool ≤ length p → node_pool ≤ length q → Derives t reached ts → Makes ts (tokens.refused x) → Compiles t p q (compiledoor.refuses (number_of x) 0) (cleared node_pool p) (cleared node_pool q)
  compiled : {reached : ℕ} {ts : Tokens} {f r : List ℕ} → node_pool ≤ length p → node_pool ≤ length q → Derives t reached ts → Makes ts (tokens.compiled f r) → Compiles t p q (compiledoor.gives reached (length f) (length r)) (filled node_pool f p) (filled node_pool r q)

-- the mirror of the words ws in the pool p
pub data Mirrors (ws p : List ℕ) : mirrordoor.MirrorSaid → List ℕ → Type 0 where
  no_room : length p < node_pool → Mirrors ws p (mirrordoor.refuses 18 0) p
  too_many : node_pool ≤ length p → node_limit < length ws → Mirrors ws p (mirrordoor.refuses 13 0) (cleared node_pool p)
  unsound : node_pool ≤ length p → length ws ≤ node_limit → (SoundWords ws → ⊥) → Mirrors ws p (mirrordoor.refuses 15 0) (cleared node_pool p)
  mirrored : {vs : List ℕ} {g : Prog} → node_pool ≤ length p → length ws ≤ node_limit → Nodes ws g → Nodes vs (mirror g) → Mirrors ws p (mirrordoor.mirrored (length vs)) (filled node_pool vs p)
