-- When each refusal is given, by what the readers read and the places to which they come: a tool for the proofs. 01's table is said over the
-- grammar, in crate def_grammar, and is the same. Assumes nothing: these are definitions.
-- To be believed: nothing.
use Rattle.std.specs.Prelude.{◌≡◌, Bool, true, List, ℕ, ◌+◌, ◌≤◌, ◌<◌, ltb, length, drop}
use Rattle.std.proofs.Math.Option.{Option, none, some}
use Prim.Native.Char.{code}
use Rattle.base.specs.declared.Refusal.{Refusal}
use Rattle.base.specs.declared.Refusal.TheVariants.{TextTooLong, Unexpected, NumberTooBig, JumpEmpty, JumpRangeInvalid, JumpAtBound, JumpUnboundedInAlternation, JumpTooBigInAlternation, CannotNegateMaskAll, HexStringTooDeep, TooManyTokens}
use Rattle.def_meaning.specs.Limits.{text_limit, token_limit, level_limit, number_limit, inner_jump_limit}
use Rattle.def_meaning.specs.Tokens.{Token, Tokens}
use Rattle.def_reading.specs.Blanks.{here, skip}
use Rattle.def_reading.specs.Pieces.{found, absent, hex_at, decimal, numeral, number_at, leaf_at}
use Rattle.def_reading.specs.Lists.{read, missing, token, more, list, at_bound}

-- before a jump's dash: a number that ends before x with its blanks; or none, for 0
pub data From (t : List ℕ) (start : ℕ) : ℕ → ℕ → Type 0 where
  number : {n s x : ℕ} → number_at t start ≡ found n s x → From t start n x
  nothing : number_at t start ≡ absent → From t start 0 start

-- the jump at `at` is spelled with these bounds, and its `]` ends at `stop`
pub data Jumps (t : List ℕ) (at : ℕ) : ℕ → Option ℕ → ℕ → Type 0 where
  single : {n s x : ℕ} → here t at ≡ code "[" → number_at t (skip t (at + 1)) ≡ found n s x → here t x ≡ code "]" → Jumps t at n (some n) (x + 1)
  bounded : {from to s x y : ℕ} → here t at ≡ code "[" → From t (skip t (at + 1)) from x → here t x ≡ code "-" → number_at t (skip t (x + 1)) ≡ found to s y → here t y ≡ code "]" → Jumps t at from (some to) (y + 1)
  unbounded : {from x : ℕ} → here t at ≡ code "[" → From t (skip t (at + 1)) from x → here t x ≡ code "-" → number_at t (skip t (x + 1)) ≡ absent → here t (skip t (x + 1)) ≡ code "]" → Jumps t at from none (skip t (x + 1) + 1)

-- a number above 4,294,967,295 stands at x
abbrev pub Big : List ℕ → ℕ → Type 0
Big t x = (decimal (here t x) ≡ true) × (number_limit < numeral 0 (drop x t))

-- a token looked for at `at`, in alternatives or not, is refused
pub data InToken (t : List ℕ) (inside : Bool) (at : ℕ) : Refusal → ℕ → Type 0 where
  -- 2: no byte and no masked byte after `~`
  after_tilde : here t at ≡ code "~" → hex_at t (at + 1) ≡ absent → InToken t inside at Unexpected (at + 1)
  -- 9: `~??`
  tilde_all : here t at ≡ code "~" → here t (at + 1) ≡ code "?" → here t (at + 2) ≡ code "?" → InToken t inside at CannotNegateMaskAll at
  -- 3: a jump's number too big, from or to
  big_from : here t at ≡ code "[" → Big t (skip t (at + 1)) → InToken t inside at NumberTooBig (skip t (at + 1))
  big_to : {from x : ℕ} → here t at ≡ code "[" → From t (skip t (at + 1)) from x → here t x ≡ code "-" → Big t (skip t (x + 1)) → InToken t inside at NumberTooBig (skip t (x + 1))
  -- 4: `[0]`, `[0-0]`, `[-0]`
  empty : {stop : ℕ} → Jumps t at 0 (some 0) stop → InToken t inside at JumpEmpty at
  -- 5: from above to
  backwards : {from to stop : ℕ} → Jumps t at from (some to) stop → to < from → InToken t inside at JumpRangeInvalid at
  -- 7 and 8: in alternatives, no to; or one above 200
  open_inside : {from stop : ℕ} → inside ≡ true → Jumps t at from none stop → InToken t inside at JumpUnboundedInAlternation at
  long_inside : {from to stop : ℕ} → inside ≡ true → Jumps t at from (some to) stop → from ≤ to → inner_jump_limit < to → InToken t inside at JumpTooBigInAlternation at

mutual
  -- a list of this level begins at `at`, after so many tokens: the outer one, of level 1, or one in brackets, of level 2 to 8
  pub data Begins (t : List ℕ) : (level count at : ℕ) → Type 0 where
    outermost : {level count at : ℕ} → length t ≤ text_limit → here t 0 ≡ code "{" → level ≡ 1 → count ≡ 0 → at ≡ skip t 1 → Begins t level count at
    bracketed : {level count at miss : ℕ} → InBrackets t level count at miss → level ≤ level_limit → Begins t level count at

  -- a token is looked for at `at`: where a list begins, and after each token
  pub data Looked (t : List ℕ) : (level count at : ℕ) → Type 0 where
    first : {level count at : ℕ} → Begins t level count at → Looked t level count at
    next : {level count at e d : ℕ} {tok : Token} → Looked t level count at → token t level count at ≡ read tok e d → Looked t level d e

  -- a list in brackets should begin at `at`, and is missed at `miss`: after `(`, or after `|`
  pub data InBrackets (t : List ℕ) : (level count at miss : ℕ) → Type 0 where
    opened : {level count at deeper counted x miss : ℕ} → Looked t level count at → here t at ≡ code "(" → count < token_limit → deeper ≡ level + 1 → counted ≡ count + 1 → x ≡ skip t (at + 1) → miss ≡ skip t (at + 1) → InBrackets t deeper counted x miss
    barred : {level count at miss e d x : ℕ} {ts : Tokens} → InBrackets t level count at miss → list t level count at ≡ read ts e d → here t e ≡ code "|" → x ≡ skip t (e + 1) → InBrackets t level d x e

pub data Given (t : List ℕ) : Refusal → ℕ → Type 0 where
  -- 1: above 4,096 bytes
  too_long : text_limit < length t → Given t TextTooLong 0
  -- 2: no `{` at the start; no outer list; no list in brackets; something else than what should close a list
  not_opened : length t ≤ text_limit → (here t 0 ≡ code "{" → ⊥) → Given t Unexpected 0
  no_outer : length t ≤ text_limit → here t 0 ≡ code "{" → list t 1 0 (skip t 1) ≡ missing → Given t Unexpected (skip t 1)
  no_list : {level count at miss : ℕ} → InBrackets t level count at miss → list t level count at ≡ missing → Given t Unexpected miss
  not_closed : {e d : ℕ} {ts : Tokens} → length t ≤ text_limit → here t 0 ≡ code "{" → list t 1 0 (skip t 1) ≡ read ts e d → (here t e ≡ code "}" → ⊥) → Given t Unexpected e
  not_bracketed : {level count at miss e d : ℕ} {ts : Tokens} → InBrackets t level count at miss → list t level count at ≡ read ts e d → (here t e ≡ code ")" → ⊥) → (here t e ≡ code "|" → ⊥) → Given t Unexpected e
  -- 2 after `~`, 3, 4, 5, 7, 8, 9: within a token; from level 2 on it stands in alternatives
  in_token : {level count at p : ℕ} {r : Refusal} → Looked t level count at → InToken t (ltb 1 level) at r p → Given t r p
  -- 6: a list that begins or ends with a jump, once it has ended
  jump_at_bound : {level count at e d : ℕ} {ts : Tokens} → Begins t level count at → more t level count at ≡ read ts e d → at_bound ts ≡ true → Given t JumpAtBound at
  -- 10: a ninth level
  too_deep : {level count at miss : ℕ} → InBrackets t level count at miss → level_limit < level → Given t HexStringTooDeep at
  -- 11: a token read whole, or a `(`, after 512 tokens
  too_many : {level count at s e : ℕ} {tok : Token} → Looked t level count at → token_limit ≤ count → leaf_at t (ltb 1 level) at ≡ found tok s e → Given t TooManyTokens at
  too_many_brackets : {level count at : ℕ} → Looked t level count at → token_limit ≤ count → here t at ≡ code "(" → Given t TooManyTokens at
