-- When each refusal of a text is given, and its place: 01's table, over the grammar. Assumes nothing: these are definitions.
-- To be believed: all.
use Rattle.std.specs.Prelude.{◌≡◌, ◌⊎◌, ◌∷◌, ◌++◌, ℕ, suc, ◌+◌, ◌≤◌, ◌<◌, length, drop}
use Rattle.std.proofs.Math.Option.{Option, none, some}
use Prim.Native.Char.{code}
use Rattle.base.specs.declared.Refusal.{Refusal}
use Rattle.base.specs.declared.Refusal.TheVariants.{TextTooLong, Unexpected, NumberTooBig, JumpEmpty, JumpRangeInvalid, JumpAtBound, JumpUnboundedInAlternation, JumpTooBigInAlternation, CannotNegateMaskAll, HexStringTooDeep, TooManyTokens}
use Rattle.def_meaning.specs.Limits.{text_limit, token_limit, level_limit, number_limit, inner_jump_limit}
use Rattle.def_meaning.specs.Tokens.{Token, Tokens, total_in, total}
use Rattle.def_grammar.specs.Grammar.{Text, Clear, Mark, Numeral, Number, Gap, Solid, TokenList}

-- from `at` up to e stands a string of this kind, and no blank follows it
pub data Stands (t : Text) (Kind : Text → Type 0) (at : ℕ) : (e : ℕ) → Type 0 where
  stands : {s r : Text} → drop at t ≡ s ++ r → Kind s → Clear r → Stands t Kind at (at + length s)

-- none stands there, up to any offset
abbrev pub Lacks : Text → (Text → Type 0) → ℕ → Type 0
Lacks t Kind at = (e : ℕ) → Stands t Kind at e → ⊥

-- a token in a list of this level
abbrev pub Spells : ℕ → Token → Text → Type 0
Spells level tok s = Solid level tok s ⊎ Gap level tok s

-- before a jump's dash: a number, or nothing for 0
pub data From (t : Text) (at : ℕ) : (n e : ℕ) → Type 0 where
  number : {n e : ℕ} → Stands t (Number n) at e → From t at n e
  nothing : From t at 0 at

-- a jump as it is spelled at `at`, whatever its bounds; after each number a sign stands, so that no digit is left over
pub data Jumps (t : Text) (at : ℕ) : (from : ℕ) (to : Option ℕ) → Type 0 where
  single : {n x y z : ℕ} → Stands t (Mark "[") at x → Stands t (Number n) x y → Stands t (Mark "]") y z → Jumps t at n (some n)
  bounded : {m n x y z u v : ℕ} → Stands t (Mark "[") at x → From t x m y → Stands t (Mark "-") y z → Stands t (Number n) z u → Stands t (Mark "]") u v → Jumps t at m (some n)
  unbounded : {m x y z u : ℕ} → Stands t (Mark "[") at x → From t x m y → Stands t (Mark "-") y z → Stands t (Mark "]") z u → Jumps t at m none

-- a number above 4,294,967,295 begins at `at`; digits that follow make it no smaller
pub data Big (t : Text) (at : ℕ) : Type 0 where
  big : {n : ℕ} {s : Text} (r : Text) → drop at t ≡ s ++ r → Numeral n s → number_limit < n → Big t at

-- a token looked for at `at`, in a list of this level, is refused
pub data InToken (t : Text) (level at : ℕ) : Refusal → (place : ℕ) → Type 0 where
  -- 2: after `~`, neither what makes it a token nor `??`
  after_tilde : {r : Text} → drop at t ≡ code "~" ∷ r → ((u : Text) → r ≡ code "?" ∷ (code "?" ∷ u) → ⊥) → ((tok : Token) → Lacks t (Spells level tok) at) → InToken t level at Unexpected (at + 1)
  -- 9: `~??`
  tilde_all : {r : Text} → drop at t ≡ code "~" ∷ (code "?" ∷ (code "?" ∷ r)) → InToken t level at CannotNegateMaskAll at
  -- 3: a jump's number too big, from or to
  big_from : {x : ℕ} → Stands t (Mark "[") at x → Big t x → InToken t level at NumberTooBig x
  big_to : {m x y z : ℕ} → Stands t (Mark "[") at x → From t x m y → Stands t (Mark "-") y z → Big t z → InToken t level at NumberTooBig z
  -- 4: `[0]`, `[0-0]`, `[-0]`
  empty : Jumps t at 0 (some 0) → InToken t level at JumpEmpty at
  -- 5: from above to
  backwards : {m n : ℕ} → Jumps t at m (some n) → n < m → InToken t level at JumpRangeInvalid at
  -- 7 and 8: in alternatives, no to; or one above 200
  open_inside : {m : ℕ} → 1 < level → Jumps t at m none → InToken t level at JumpUnboundedInAlternation at
  long_inside : {m n : ℕ} → 1 < level → Jumps t at m (some n) → m ≤ n → inner_jump_limit < n → InToken t level at JumpTooBigInAlternation at

-- no token at `at`: none stands there, none is refused, no alternatives are opened
abbrev pub Missing : (t : Text) (level at : ℕ) → Type 0
Missing t level at = ((tok : Token) → Lacks t (Spells level tok) at) × ((r : Refusal) (p : ℕ) → InToken t level at r p → ⊥) × Lacks t (Mark "(") at

-- from `at` up to e stands a list of this level, and no token follows; with those before it, it has d tokens
pub data ListEnds (t : Text) (level count at : ℕ) : (d e : ℕ) → Type 0 where
  list_ends : {d e : ℕ} {ts : Tokens} → level ≤ level_limit → Stands t (TokenList level ts) at e → d ≡ count + total ts → d ≤ token_limit → Missing t level e → ListEnds t level count at d e

mutual
  -- a list of this level should begin at `at`, after so many tokens, and would be missed at `miss`: after `{`, after `(`, or after `|`
  pub data Begins (t : Text) : (level count at miss : ℕ) → Type 0 where
    outermost : {at : ℕ} → length t ≤ text_limit → Stands t (Mark "{") 0 at → Begins t 1 0 at at
    opened : {level count at start x : ℕ} → Looked t level count at start → Stands t (Mark "(") at x → count < token_limit → Begins t (suc level) (suc count) x x
    barred : {level count at miss d e x : ℕ} → Begins t level count at miss → 1 < level → ListEnds t level count at d e → Stands t (Mark "|") e x → Begins t level d x e

  -- in a list of this level that begins at `start`, a token is looked for at `at`, after so many tokens
  pub data Looked (t : Text) : (level count at start : ℕ) → Type 0 where
    first : {level count at miss : ℕ} → Begins t level count at miss → level ≤ level_limit → Looked t level count at at
    next : {level count at start d e : ℕ} {tok : Token} → Looked t level count at start → Stands t (Spells level tok) at e → d ≡ count + total_in tok → d ≤ token_limit → Looked t level d e start

pub data Fault (t : Text) : Refusal → (place : ℕ) → Type 0 where
  -- 1: above 4,096 bytes
  too_long : text_limit < length t → Fault t TextTooLong 0
  -- 2: no `{` at the start; no list; something else than what should close the outer list, or one in brackets
  not_opened : length t ≤ text_limit → Lacks t (Mark "{") 0 → Fault t Unexpected 0
  no_list : {level count at miss : ℕ} → Begins t level count at miss → level ≤ level_limit → Missing t level at → Fault t Unexpected miss
  not_closed : {at miss d e : ℕ} → Begins t 1 0 at miss → ListEnds t 1 0 at d e → Lacks t (Mark "}") e → Fault t Unexpected e
  not_bracketed : {level count at miss d e : ℕ} → Begins t level count at miss → 1 < level → ListEnds t level count at d e → Lacks t (Mark ")") e → Lacks t (Mark "|") e → Fault t Unexpected e
  -- 2 after `~`, 3, 4, 5, 7, 8, 9: within a token
  in_token : {level count at start p : ℕ} {r : Refusal} → Looked t level count at start → InToken t level at r p → Fault t r p
  -- 6: a jump at the start of a list, or at its end, once it has ended
  jump_is_first : {level count at start e : ℕ} {tok : Token} → Looked t level count at start → Missing t level at → Stands t (Gap level tok) start e → Fault t JumpAtBound start
  jump_is_last : {level count at start e : ℕ} {tok : Token} → Looked t level count at start → Stands t (Gap level tok) at e → count < token_limit → Missing t level e → Fault t JumpAtBound start
  -- 10: a ninth level
  too_deep : {level count at miss : ℕ} → Begins t level count at miss → level_limit < level → Fault t HexStringTooDeep at
  -- 11: a token, or a `(`, after 512 tokens
  too_many : {level at start e : ℕ} {tok : Token} → Looked t level token_limit at start → Stands t (Spells level tok) at e → Fault t TooManyTokens at
  too_many_brackets : {level at start e : ℕ} → Looked t level token_limit at start → Stands t (Mark "(") at e → Fault t TooManyTokens at
