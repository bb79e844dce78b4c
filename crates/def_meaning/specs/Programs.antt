-- Programs: what sound node words say, and the bytes that a program fits. Assumes nothing: these are definitions.
-- To be believed: `Test` `pass` `Item` `Prog` `Branches` `◌⧺◌` `mirror_of` `mirror` `mirror_in`.
use Rattle.std.specs.Prelude.{◌≡◌, Bool, true, not, ◌⊎◌, List, [], ◌∷◌, ◌++◌, ℕ, ◌≤◌, eqb, length}
use Rattle.std.specs.Int.Bits.{bit_and}

-- what is asked of one byte: to be this one; to have this value under the mask, or not to; nothing (no word says that: it serves
-- the rows of jumps); not to be 0A
pub data Test : Type 0 where
  byte : ℕ → Test
  mask : ℕ → ℕ → Test
  negated_mask : ℕ → ℕ → Test
  any : Test
  dot : Test

unfoldable pub pass : Test → ℕ → Bool
pass (byte v) b = eqb b v
pass (mask v m) b = eqb (bit_and b m) v
pass (negated_mask v m) b = not (eqb (bit_and b m) v)
pass any b = true
pass dot b = not (eqb b 10)

-- A branch is a whole program: that today's branches hold only tests and jumps is a rule of sound words, not of this type.
infixr 50 ◌▹◌
mutual
  pub data Item : Type 0 where
    one : Test → Item
    jump : ℕ → Item
    range : ℕ → ℕ → Item
    alt : Branches → Item

  pub data Prog : Type 0 where
    end : Prog
    ◌▹◌ : Item → Prog → Prog

  pub data Branches : Type 0 where
    stop : Branches
    or : Prog → Branches → Branches

unfoldable mutual
  -- the bytes s are what one item fits
  pub SpanOf : Item → List ℕ → Type 0
  SpanOf (one t) s = (b : ℕ) × (s ≡ b ∷ []) × (pass t b ≡ true)
  SpanOf (jump n) s = length s ≡ n
  SpanOf (range a b) s = (a ≤ length s) × (length s ≤ b)
  SpanOf (alt bs) s = SpanIn bs s

  -- the bytes s are a span of the program: of each item, one after another
  pub Span : Prog → List ℕ → Type 0
  Span end s = s ≡ []
  Span (i ▹ p) s = (a : List ℕ) × (b : List ℕ) × (s ≡ a ++ b) × SpanOf i a × Span p b

  -- the bytes s are a span of one of the branches
  pub SpanIn : Branches → List ℕ → Type 0
  SpanIn stop s = ⊥
  SpanIn (or p bs) s = Span p s ⊎ SpanIn bs s

-- one program after another
infixr 50 ◌⧺◌
unfoldable pub ◌⧺◌ : Prog → Prog → Prog
end ⧺ q = q
(i ▹ p) ⧺ q = i ▹ (p ⧺ q)

-- items and each branch's contents reversed, branches in their order
unfoldable mutual
  pub mirror_of : Item → Item
  mirror_of (one t) = one t
  mirror_of (jump n) = jump n
  mirror_of (range a b) = range a b
  mirror_of (alt bs) = alt (mirror_in bs)

  pub mirror : Prog → Prog
  mirror end = end
  mirror (i ▹ p) = mirror p ⧺ (mirror_of i ▹ end)

  pub mirror_in : Branches → Branches
  mirror_in stop = stop
  mirror_in (or p bs) = or (mirror p) (mirror_in bs)
