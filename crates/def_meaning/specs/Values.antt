-- The values that bytes and tokens have: what a haystack holds, and what a text can spell. Assumes nothing: these are definitions.
-- To be believed: `Bytes`.
use Rattle.std.proofs.Math.Option.{none, some}
use Rattle.std.specs.Prelude.{List, [], ◌∷◌, ℕ, ◌≤◌, ◌<◌}
use Rattle.def_meaning.specs.Tokens.{Token, Tokens, Lists, Byte, NotByte, MaskedByte, NotMaskedByte, Jump, Alternatives, nothing, ◌then◌, neither, ◌or◌}

-- every number is a byte's
unfoldable pub Bytes : List ℕ → Type 0
Bytes [] = Unit {0}
Bytes (b ∷ s) = (b < 256) × Bytes s

-- a list has a token
unfoldable pub Filled : Tokens → Type 0
Filled nothing = ⊥
Filled (t then ts) = Unit {0}

-- two digits spell a byte and one a half; a jump's from is at most its to, and its to is not 0; alternatives have a list, and none that is empty
unfoldable mutual
  pub SpelledOne : Token → Type 0
  SpelledOne (Byte v) = v < 256
  SpelledOne (NotByte v) = v < 256
  SpelledOne (MaskedByte v m) = v < 16
  SpelledOne (NotMaskedByte v m) = v < 16
  SpelledOne (Jump from none) = Unit {0}
  SpelledOne (Jump from (some to)) = (from ≤ to) × (1 ≤ to)
  SpelledOne (Alternatives ls) = SpelledFirst ls

  pub Spelled : Tokens → Type 0
  Spelled nothing = Unit {0}
  Spelled (t then ts) = SpelledOne t × Spelled ts

  pub SpelledFirst : Lists → Type 0
  SpelledFirst neither = ⊥
  SpelledFirst (ts or ls) = Spelled ts × SpelledMore ls × Filled ts

  pub SpelledMore : Lists → Type 0
  SpelledMore neither = Unit {0}
  SpelledMore (ts or ls) = Spelled ts × SpelledMore ls × Filled ts
