-- Sound words as 01 and 02 list them, kind by kind, and the program that they say. Assumes nothing: these are definitions.
-- To be believed: all.
use Rattle.std.specs.Prelude.{◌≡◌, List, [], ◌∷◌, ◌++◌, ℕ, ◌+◌, ◌*◌, ◌^◌, ◌≤◌, ◌<◌, length}
use Rattle.std.specs.Int.Bits.{bit_and}
use Rattle.def_meaning.specs.Limits.{node_limit}
use Rattle.def_meaning.specs.Programs.{byte, mask, negated_mask, dot, Item, Prog, Branches, one, jump, range, alt, end, ◌▹◌, stop, or}

-- 02's word
abbrev pub word : ℕ → ℕ → ℕ → ℕ
word kind first second = kind + 2 ^ 8 * first + 2 ^ 24 * second

-- every bit of the value v lies under the mask m
abbrev pub Under : ℕ → ℕ → Type 0
Under v m = bit_and v m ≡ v

-- the kinds that a branch may hold, each with its fields; those not named are 0
pub data Flat : ℕ → Item → Type 0 where
  kind_0 : {v : ℕ} → v < 256 → Flat (word 0 v 0) (one (byte v))
  kind_1 : {v m : ℕ} → v < 256 → m < 256 → Under v m → Flat (word 1 v m) (one (mask v m))
  kind_2 : {v m : ℕ} → v < 256 → m < 256 → Under v m → Flat (word 2 v m) (one (negated_mask v m))
  kind_3 : {n : ℕ} → 1 ≤ n → n < 65536 → Flat (word 3 n 0) (jump n)
  kind_5 : Flat (word 5 0 0) (one dot)

-- what a branch holds
pub data Flats : List ℕ → Prog → Type 0 where
  no_node : Flats [] end
  a_node : {w : ℕ} {ws : List ℕ} {i : Item} {p : Prog} → Flat w i → Flats ws p → Flats (w ∷ ws) (i ▹ p)

-- one or more branches: kind 7, with the count of its nodes, which are one or more
pub data Branched : List ℕ → Branches → Type 0 where
  last : {ns : List ℕ} {p : Prog} → 1 ≤ length ns → length ns < 256 → Flats ns p → Branched (word 7 (length ns) 0 ∷ ns) (or p stop)
  more : {ns bs : List ℕ} {p : Prog} {b : Branches} → 1 ≤ length ns → length ns < 256 → Flats ns p → Branched bs b → Branched (word 7 (length ns) 0 ∷ (ns ++ bs)) (or p b)

-- a program; kind 4 has min at most max, and kind 6 counts the words of its branches
pub data Nodes : List ℕ → Prog → Type 0 where
  nothing : Nodes [] end
  flat : {w : ℕ} {ws : List ℕ} {i : Item} {p : Prog} → Flat w i → Nodes ws p → Nodes (w ∷ ws) (i ▹ p)
  kind_4 : {a b : ℕ} {ws : List ℕ} {p : Prog} → a ≤ b → b < 65536 → Nodes ws p → Nodes (word 4 a b ∷ ws) (range a b ▹ p)
  kind_6 : {bs ws : List ℕ} {b : Branches} {p : Prog} → length bs < 65536 → Branched bs b → Nodes ws p → Nodes (word 6 (length bs) 0 ∷ (bs ++ ws)) (alt b ▹ p)

-- sound: at most 512 words, which say a program
pub record SoundWords (ws : List ℕ) : Type 0 where
  pub few : length ws ≤ node_limit
  pub program : Prog
  pub nodes : Nodes ws program
