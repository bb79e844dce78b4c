-- Choices: the way taken at each node of a program, when a choice fits a window, and 01's order on choices.
-- Assumes nothing: these are definitions.
-- To be believed: `Way` `Choice` `Takes` `Fits` `TakesIn` `FitsAt` `Order` `Earlier` `SoonerWay` `Sooner` `First` `Nowhere` `FirstForward` `FirstReverse`.
use Rattle.std.specs.Prelude.{◌≡◌, true, ◌⊎◌, List, [], ◌∷◌, ◌++◌, reverse, ℕ, ◌≤◌, ◌<◌, length}
use Rattle.def_meaning.specs.Programs.{pass, Item, Prog, Branches, one, jump, range, alt, end, ◌▹◌, stop, or}

mutual
  -- the way taken at one node
  pub data Way : Type 0 where
    -- a test or a jump has one
    only : Way
    -- of a range: how many bytes
    bytes : ℕ → Way
    -- of an alternation: its first branch, and the choice there; or a way among the later ones
    first : Choice → Way
    later : Way → Way

  -- the way taken at each node of a program
  pub data Choice : Type 0 where
    done : Choice
    via : Way → Choice → Choice

-- the ways that there are: proofs/ChoiceOrder.antt lists exactly these
unfoldable mutual
  pub Allows : Item → Way → Type 0
  Allows (one t) k = k ≡ only
  Allows (jump n) k = k ≡ only
  Allows (range a b) k = (n : ℕ) × (k ≡ bytes n) × (a ≤ n) × (n ≤ b)
  Allows (alt bs) k = AllowsIn bs k

  pub Chooses : Prog → Choice → Type 0
  Chooses end c = c ≡ done
  Chooses (i ▹ p) c = (k : Way) × (d : Choice) × (c ≡ via k d) × Allows i k × Chooses p d

  pub AllowsIn : Branches → Way → Type 0
  AllowsIn stop k = ⊥
  AllowsIn (or p bs) k = ((c : Choice) × (k ≡ first c) × Chooses p c) ⊎ ((j : Way) × (k ≡ later j) × AllowsIn bs j)

-- a choice fits the bytes s, from the first to the last
unfoldable mutual
  pub Takes : Item → Way → List ℕ → Type 0
  Takes (one t) k s = (b : ℕ) × (k ≡ only) × (s ≡ b ∷ []) × (pass t b ≡ true)
  Takes (jump n) k s = (k ≡ only) × (length s ≡ n)
  Takes (range a b) k s = (k ≡ bytes (length s)) × (a ≤ length s) × (length s ≤ b)
  Takes (alt bs) k s = TakesIn bs k s

  pub Fits : Prog → Choice → List ℕ → Type 0
  Fits end c s = (c ≡ done) × (s ≡ [])
  Fits (i ▹ p) c s = (k : Way) × (d : Choice) × (a : List ℕ) × (b : List ℕ) × (c ≡ via k d) × (s ≡ a ++ b) × Takes i k a × Fits p d b

  pub TakesIn : Branches → Way → List ℕ → Type 0
  TakesIn stop k s = ⊥
  TakesIn (or p bs) k s = ((c : Choice) × (k ≡ first c) × Fits p c s) ⊎ ((j : Way) × (k ≡ later j) × TakesIn bs j s)

-- a choice fits the window w from its start, and leaves v
abbrev pub FitsAt : Prog → Choice → List ℕ → List ℕ → Type 0
FitsAt p c w v = (s : List ℕ) × (w ≡ s ++ v) × Fits p c s

-- forward, short jumps come before long; in reverse, long before short
pub data Order : Type 0 where
  short : Order
  long : Order

abbrev pub Earlier : Order → ℕ → ℕ → Type 0
Earlier short m n = m < n
Earlier long m n = n < m

-- 01's order: node by node, branches first to last, jumps by their order
mutual
  pub data SoonerWay (o : Order) : Way → Way → Type 0 where
    of_lengths : {m n : ℕ} → Earlier o m n → SoonerWay o (bytes m) (bytes n)
    of_branches : {c : Choice} {k : Way} → SoonerWay o (first c) (later k)
    in_first : {c d : Choice} → Sooner o c d → SoonerWay o (first c) (first d)
    in_later : {j k : Way} → SoonerWay o j k → SoonerWay o (later j) (later k)

  pub data Sooner (o : Order) : Choice → Choice → Type 0 where
    at_this : {j k : Way} {c d : Choice} → SoonerWay o j k → Sooner o (via j c) (via k d)
    further : {k : Way} {c d : Choice} → Sooner o c d → Sooner o (via k c) (via k d)

-- the first choice that fits the window w from its start leaves v: it fits, and no sooner one does
pub record First (o : Order) (p : Prog) (w v : List ℕ) : Type 0 where
  pub choice : Choice
  pub fits : FitsAt p choice w v
  pub none_sooner : (d : Choice) (u : List ℕ) → Sooner o d choice → FitsAt p d w u → ⊥

-- no choice fits the window from its start
abbrev pub Nowhere : Prog → List ℕ → Type 0
Nowhere p w = (c : Choice) (v : List ℕ) → FitsAt p c w v → ⊥

-- what the forward check is to find: the first choice, short jumps before long, leaves v of the window
abbrev pub FirstForward : Prog → List ℕ → List ℕ → Type 0
FirstForward p w v = First short p w v

-- what the reverse check is to find: the first choice, long jumps before short, that fits the window read from its end leaves the front u of it
abbrev pub FirstReverse : Prog → List ℕ → List ℕ → Type 0
FirstReverse p w u = First long p (reverse w) (reverse u)
