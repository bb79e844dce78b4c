-- Hexadecimal strings, as the YARA document ('Writing YARA rules') has them, with `~` from 01, and the bytes that they match.
-- Assumes nothing: these are definitions.
-- To be believed: all.
use Rattle.std.specs.Prelude.{◌≡◌, ◌⊎◌, List, [], ◌∷◌, ◌++◌, ℕ, suc, ◌+◌, ◌/◌, ◌%◌, ◌≤◌, length}
use Rattle.std.proofs.Math.Option.{Option, none, some}

-- which half of a byte is left open: the left one of `?X`, the right one of `X?`, both of `??`
pub data Mask : Type 0 where
  left : Mask
  right : Mask
  all : Mask

infixr 50 ◌then◌
infixr 45 ◌or◌
mutual
  -- one token, by its name in 01
  pub data Token : Type 0 where
    -- `AB` and `~AB`
    Byte : ℕ → Token
    NotByte : ℕ → Token
    -- `?X`, `X?`, `??` and their negations: the digit as typed, and what is left open
    MaskedByte : ℕ → Mask → Token
    NotMaskedByte : ℕ → Mask → Token
    -- `[from-to]`, or `[from-]` where there is no to
    Jump : ℕ → Option ℕ → Token
    -- `( .. | .. )`
    Alternatives : Lists → Token

  -- a list of tokens, one after another
  pub data Tokens : Type 0 where
    nothing : Tokens
    ◌then◌ : Token → Tokens → Tokens

  -- the lists of alternatives
  pub data Lists : Type 0 where
    neither : Lists
    ◌or◌ : Tokens → Lists → Lists

-- a byte b has the digit v where the mask leaves a half to be compared
unfoldable pub Agrees : Mask → ℕ → ℕ → Type 0
Agrees left v b = b % 16 ≡ v
Agrees right v b = b / 16 ≡ v
Agrees all v b = Unit {0}

-- the bytes s are one byte, and it is as asked
abbrev pub One : (ℕ → Type 0) → List ℕ → Type 0
One asked s = (b : ℕ) × (s ≡ b ∷ []) × asked b

-- so many bytes as a jump's bounds allow
unfoldable pub Within : ℕ → Option ℕ → ℕ → Type 0
Within from none n = from ≤ n
Within from (some to) n = (from ≤ n) × (n ≤ to)

unfoldable mutual
  -- the bytes s are what one token matches
  pub Matches : Token → List ℕ → Type 0
  Matches (Byte v) s = One (λ b. b ≡ v) s
  Matches (NotByte v) s = One (λ b. b ≡ v → ⊥) s
  Matches (MaskedByte v m) s = One (λ b. Agrees m v b) s
  Matches (NotMaskedByte v m) s = One (λ b. Agrees m v b → ⊥) s
  Matches (Jump from to) s = Within from to (length s)
  Matches (Alternatives ls) s = MatchesOne ls s

  -- the bytes s are a span of a list of tokens: a span of each, one after another
  pub Spans : Tokens → List ℕ → Type 0
  Spans nothing s = s ≡ []
  Spans (t then ts) s = (a : List ℕ) × (b : List ℕ) × (s ≡ a ++ b) × Matches t a × Spans ts b

  -- the bytes s are a span of one of the lists
  pub MatchesOne : Lists → List ℕ → Type 0
  MatchesOne neither s = ⊥
  MatchesOne (ts or ls) s = Spans ts s ⊎ MatchesOne ls s

-- one list of tokens after another
infixr 50 ◌⊕◌
unfoldable pub ◌⊕◌ : Tokens → Tokens → Tokens
nothing ⊕ us = us
(t then ts) ⊕ us = t then (ts ⊕ us)

-- the count of tokens: alternatives are one, and what is inside counts too
unfoldable mutual
  pub total_in : Token → ℕ
  total_in (Byte v) = 1
  total_in (NotByte v) = 1
  total_in (MaskedByte v m) = 1
  total_in (NotMaskedByte v m) = 1
  total_in (Jump from to) = 1
  total_in (Alternatives ls) = suc (totals ls)

  pub total : Tokens → ℕ
  total nothing = 0
  total (t then ts) = total_in t + total ts

  pub totals : Lists → ℕ
  totals neither = 0
  totals (ts or ls) = total ts + totals ls
