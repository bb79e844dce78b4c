-- The grammar once more, as predicates on strings by recursion on the tokens: a tool, which the proofs about the reader take apart by its
-- parts. RulesSpell and SpellingDerived say that it is specs/Grammar.antt. Assumes nothing: these are definitions.
use mathlib.Core.Path.{◌≡◌}
use mathlib.Core.Bool.{Bool, true, false}
use mathlib.Core.Logic.{◌⊎◌}
use mathlib.Core.Option.{Option, none, some}
use mathlib.Core.List.{List, [], ◌∷◌, ◌++◌}
use Prim.Native.Char.{code}
use Prim.Native.Nat.{ℕ, suc, ◌+◌, ◌-◌, ◌*◌, ◌^◌, ◌≤◌, ◌<◌, max}
use lib.ListN.{length}
use Rattle.def_meaning.specs.Limits.{text_limit, token_limit, level_limit, number_limit, inner_jump_limit}
use Rattle.def_meaning.specs.Tokens.{Mask, left, right, all, Token, Tokens, Lists, Byte, NotByte, MaskedByte, NotMaskedByte, Jump, Alternatives, nothing, ◌then◌, neither, ◌or◌, total}

-- some of the byte strings
abbrev pub Language : Type 1
Language = List ℕ → Type 0

-- one string, then another
infixr 40 ◌⨾◌
unfoldable pub ◌⨾◌ : Language → Language → Language
◌⨾◌ P Q s = (a : List ℕ) × (b : List ℕ) × (s ≡ a ++ b) × P a × Q b

-- space, tab, CR, LF
unfoldable pub Blank : ℕ → Type 0
Blank c = (c ≡ code " ") ⊎ ((c ≡ code "\t") ⊎ ((c ≡ code "\r") ⊎ (c ≡ code "\n")))

-- any count of blanks, none included
unfoldable pub Blanks : Language
Blanks [] = Unit {0}
Blanks (c ∷ s) = Blank c × Blanks s

-- a string and the blanks that may follow it
unfoldable pub Spaced : Language → Language
Spaced P = P ⨾ Blanks

-- one byte, by its number: 40 `(`, 41 `)`, 45 `-`, 63 `?`, 91 `[`, 93 `]`, 123 `{`, 124 `|`, 125 `}`, 126 `~`
unfoldable pub Sign : ℕ → Language
Sign c s = s ≡ c ∷ []

-- a sign that blanks may follow
unfoldable pub Marked : ℕ → Language
Marked c = Spaced (Sign c)

-- c is a hexadecimal digit of value v, in either case
pub data Digit (c v : ℕ) : Type 0 where
  decimal : v < 10 → c ≡ code "0" + v → Digit c v
  upper : 10 ≤ v → v < 16 → c ≡ code "A" + (v - 10) → Digit c v
  lower : 10 ≤ v → v < 16 → c ≡ code "a" + (v - 10) → Digit c v

-- one hexadecimal digit
unfoldable pub HexDigit : ℕ → Language
HexDigit v s = (c : ℕ) × (s ≡ c ∷ []) × Digit c v

-- a byte: two digits with nothing between them
unfoldable pub Whole : ℕ → Language
Whole v s = (high : ℕ) × (low : ℕ) × (v ≡ 16 * high + low) × (HexDigit high ⨾ HexDigit low) s

-- a masked byte: `?X`, `X?`, `??`
unfoldable pub Masked : ℕ → Mask → Language
Masked v left s = (Sign (code "?") ⨾ HexDigit v) s
Masked v right s = (HexDigit v ⨾ Sign (code "?")) s
Masked v all s = (v ≡ 0) × (Sign (code "?") ⨾ Sign (code "?")) s

-- decimal digits
unfoldable pub Decimals : Language
Decimals [] = Unit {0}
Decimals (c ∷ s) = (code "0" ≤ c) × (c ≤ code "9") × Decimals s

-- the number that they spell: each digit times ten to the number of digits after it
unfoldable pub value : List ℕ → ℕ
value [] = 0
value (c ∷ s) = (c - code "0") * 10 ^ length s + value s

-- one decimal digit or more, with any count of leading zeros, for a number of at most 4,294,967,295
unfoldable pub Numeral : ℕ → Language
Numeral n s = Decimals s × (0 < length s) × (n ≡ value s) × (n ≤ number_limit)

-- a number and the blanks that may follow it
unfoldable pub Number : ℕ → Language
Number n = Spaced (Numeral n)

-- before a jump's dash: a number, or nothing for 0
unfoldable pub From : ℕ → Language
From from s = Number from s ⊎ ((from ≡ 0) × (s ≡ []))

-- after it: a number, or nothing where there is no to
unfoldable pub To : Option ℕ → Language
To none s = s ≡ []
To (some to) s = Number to s

-- `[n]`
unfoldable pub Single : ℕ → Language
Single n = Marked (code "[") ⨾ (Number n ⨾ Marked (code "]"))

-- `[a-b]`, `[a-]`, `[-b]`, `[-]`
unfoldable pub Dashed : ℕ → Option ℕ → Language
Dashed from to = Marked (code "[") ⨾ (From from ⨾ (Marked (code "-") ⨾ (To to ⨾ Marked (code "]"))))

-- from is at most to, and to is not 0: `[0]`, `[0-0]` and `[-0]` are none
unfoldable pub Ordered : ℕ → Option ℕ → Type 0
Ordered from none = Unit {0}
Ordered from (some to) = (from ≤ to) × (0 < to)

-- either of the two; `[n]` has n for from and to
unfoldable pub Bracketed : ℕ → Option ℕ → Language
Bracketed from to s = ((to ≡ some from) × Single from s) ⊎ Dashed from to s

-- a jump with these bounds
unfoldable pub Bounds : ℕ → Option ℕ → Language
Bounds from to s = Ordered from to × Bracketed from to s

-- in alternatives a jump has a bound, of at most 200
unfoldable pub Allowed : Bool → Option ℕ → Type 0
Allowed false to = Unit {0}
Allowed true none = ⊥
Allowed true (some to) = to ≤ inner_jump_limit

-- `[1]` and `[1-1]` spell no jump
unfoldable pub NotOne : ℕ → Option ℕ → Type 0
NotOne from none = Unit {0}
NotOne from (some to) = from ≡ 1 → to ≡ 1 → ⊥

-- they spell `??`
unfoldable pub AsJump : ℕ → Mask → Language
AsJump v left s = ⊥
AsJump v right s = ⊥
AsJump v all s = (v ≡ 0) × Bounds 1 (some 1) s

-- `~??` spells nothing
unfoldable pub Negatable : Mask → Type 0
Negatable left = Unit {0}
Negatable right = Unit {0}
Negatable all = ⊥

-- any token but a jump
unfoldable pub NoJump : Token → Type 0
NoJump (Byte v) = Unit {0}
NoJump (NotByte v) = Unit {0}
NoJump (MaskedByte v m) = Unit {0}
NoJump (NotMaskedByte v m) = Unit {0}
NoJump (Jump from to) = ⊥
NoJump (Alternatives ls) = Unit {0}

-- the last of a token and those after it is no jump
unfoldable pub EndsWell : Token → Tokens → Type 0
EndsWell tok nothing = NoJump tok
EndsWell tok (next then ts) = EndsWell next ts

-- one token or more, and neither the first nor the last is a jump
unfoldable pub Bounded : Tokens → Type 0
Bounded nothing = ⊥
Bounded (tok then ts) = NoJump tok × EndsWell tok ts

unfoldable mutual
  -- one token with the blanks that may follow it; `inside` says whether it stands in alternatives
  pub SpellsToken : Bool → Token → List ℕ → Type 0
  SpellsToken inside (Byte v) s = Spaced (Whole v) s
  SpellsToken inside (NotByte v) s = (Sign (code "~") ⨾ Spaced (Whole v)) s
  SpellsToken inside (MaskedByte v m) s = Spaced (Masked v m) s ⊎ AsJump v m s
  SpellsToken inside (NotMaskedByte v m) s = Negatable m × (Sign (code "~") ⨾ Spaced (Masked v m)) s
  SpellsToken inside (Jump from to) s = Bounds from to s × NotOne from to × Allowed inside to
  SpellsToken inside (Alternatives ls) s = (Marked (code "(") ⨾ (λ b. SpellsLists ls b)) s

  -- tokens, one after another
  pub SpellsTokens : Bool → Tokens → List ℕ → Type 0
  SpellsTokens inside nothing s = s ≡ []
  SpellsTokens inside (tok then ts) s = ((λ a. SpellsToken inside tok a) ⨾ (λ b. SpellsTokens inside ts b)) s

  -- the lists of alternatives: the first, and what follows it
  pub SpellsLists : Lists → List ℕ → Type 0
  SpellsLists neither s = ⊥
  SpellsLists (ts or ls) s = Bounded ts × ((λ a. SpellsTokens true ts a) ⨾ (λ b. SpellsRest ls b)) s

  -- `)`; or `|`, a list, and what follows that
  pub SpellsRest : Lists → List ℕ → Type 0
  SpellsRest neither s = Marked (code ")") s
  SpellsRest (ts or ls) s = Bounded ts × (Marked (code "|") ⨾ ((λ a. SpellsTokens true ts a) ⨾ (λ b. SpellsRest ls b))) s

-- a list: tokens, with no jump at its bounds
abbrev pub SpellsList : Bool → Tokens → Language
SpellsList inside ts s = Bounded ts × SpellsTokens inside ts s

-- `{`, the outer list, `}`
unfoldable pub SpellsString : Tokens → Language
SpellsString ts = Marked (code "{") ⨾ (SpellsList false ts ⨾ Marked (code "}"))

-- a string that does not begin with a blank
unfoldable pub NoBlank : Language
NoBlank [] = Unit {0}
NoBlank (c ∷ s) = Blank c → ⊥

-- a text: a hexadecimal string with all its blanks, and anything after it; the offset reached is the string's length
unfoldable pub SpellsText : List ℕ → ℕ → Tokens → Type 0
SpellsText t e ts = (s : List ℕ) × (r : List ℕ) × (t ≡ s ++ r) × SpellsString ts s × NoBlank r × (e ≡ length s)

-- the list levels of a list of tokens, itself the first; and those within a token and within alternatives
unfoldable mutual
  pub depth_in : Token → ℕ
  depth_in (Byte v) = 0
  depth_in (NotByte v) = 0
  depth_in (MaskedByte v m) = 0
  depth_in (NotMaskedByte v m) = 0
  depth_in (Jump from to) = 0
  depth_in (Alternatives ls) = depths ls

  pub depth : Tokens → ℕ
  depth nothing = 1
  depth (tok then ts) = max (suc (depth_in tok)) (depth ts)

  pub depths : Lists → ℕ
  depths neither = 0
  depths (ts or ls) = max (depth ts) (depths ls)

-- a text that is spelled within 01's limits: 8 list levels, 512 tokens, 4,096 bytes
abbrev pub Spelled : List ℕ → ℕ → Tokens → Type 0
Spelled t e ts = SpellsText t e ts × (depth ts ≤ level_limit) × (total ts ≤ token_limit) × (length t ≤ text_limit)
