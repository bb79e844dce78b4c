-- What picking counts and compares, in other words. Assumes nothing: these are definitions.
-- To be believed: all.
use Rattle.std.specs.Prelude.{◌≡◌, ◌↔◌, ℕ, ◌≤◌, ◌<◌}
use mathlib.Core.List.{List, [], ◌∷◌, Memᴰ}
use Rattle.def_meaning.specs.Tokens.{Mask, all, Token, Byte, NotByte, MaskedByte, NotMaskedByte, Matches}

-- a byte or a class: `~XX`, a half mask, or the negation of one
pub data Plain : Token → Type 0 where
  byte : {v : ℕ} → Plain (Byte v)
  not_byte : {v : ℕ} → Plain (NotByte v)
  half : {v : ℕ} {m : Mask} → (m ≡ all → ⊥) → Plain (MaskedByte v m)
  not_half : {v : ℕ} {m : Mask} → (m ≡ all → ⊥) → Plain (NotMaskedByte v m)

-- each number above the one before
pub data Rising : List ℕ → Type 0 where
  none : Rising []
  single : {a : ℕ} → Rising (a ∷ [])
  more : {a b : ℕ} {l : List ℕ} → a < b → Rising (b ∷ l) → Rising (a ∷ (b ∷ l))

-- the bytes that a token matches, rising
pub record Members (t : Token) (l : List ℕ) : Type 0 where
  pub rising : Rising l
  pub matched : (b : ℕ) → Memᴰ b l ↔ ((b < 256) × Matches t (b ∷ []))

-- the least that a measure gives of some literals
pub record Least (f : List ℕ → ℕ) (ls : List (List ℕ)) (n : ℕ) : Type 0 where
  pub reached : (l : List ℕ) × Memᴰ l ls × (f l ≡ n)
  pub none_below : (l : List ℕ) → Memᴰ l ls → n ≤ f l
