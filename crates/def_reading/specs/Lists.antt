-- Tokens, lists, alternatives, and the whole text. Assumes nothing: these are definitions.
-- To be believed: `Verdict`.
use Rattle.std.specs.Prelude.{Bool, true, false, cond, ◌&&◌, ◌||◌, List, ℕ, zero, suc, ◌+◌, ◌-◌, ◌*◌, eqb, leb, ltb, length}
use Prim.Native.Char.{code}
use Rattle.base.specs.declared.Refusal.{Refusal}
use Rattle.base.specs.declared.Refusal.TheVariants.{TextTooLong, Unexpected, JumpAtBound, HexStringTooDeep, TooManyTokens}
use Rattle.def_meaning.specs.Limits.{text_limit, token_limit, level_limit}
use Rattle.def_meaning.specs.Tokens.{Token, Tokens, Lists, Byte, NotByte, MaskedByte, NotMaskedByte, Jump, Alternatives, nothing, ◌then◌, neither, ◌or◌}
use Rattle.def_meaning.specs.Entries.{token_count}
use Rattle.def_reading.specs.Blanks.{here, skip}
use Rattle.def_reading.specs.Pieces.{Seen, found, absent, refused, leaf_at}

-- what was read, the offset after it and its blanks, and the tokens counted by then; nothing there; or a refusal and its place
pub data Parsed (A : Type 0) : Type 0 where
  read : A → ℕ → ℕ → Parsed A
  missing : Parsed A
  stopped : Refusal → ℕ → Parsed A

-- a token counts when read whole, and the 513th is refused at its first byte; where none is, alternatives are tried
unfoldable pub token_or : ℕ → ℕ → Seen Token → Parsed Token → Parsed Token
token_or at count (found tok s e) other = cond (ltb count token_limit) (read tok e (count + 1)) (stopped TooManyTokens at)
token_or at count absent other = other
token_or at count (refused r p) other = stopped r p

unfoldable pub as_token : Parsed Lists → Parsed Token
as_token (read ls e count) = read (Alternatives ls) e count
as_token missing = missing
as_token (stopped r p) = stopped r p

-- alternatives count at their `(`
unfoldable pub bracketed : List ℕ → ℕ → ℕ → Parsed Lists → Parsed Token
bracketed t at count lists = cond (eqb (here t at) (code "(")) (cond (ltb count token_limit) (as_token lists) (stopped TooManyTokens at)) missing

-- a token before those that follow it
unfoldable pub before : Token → Parsed Tokens → Parsed Tokens
before tok (read ts e count) = read (tok then ts) e count
before tok missing = missing
before tok (stopped r p) = stopped r p

-- a token, then as many as there are
unfoldable pub then_more : ℕ → ℕ → Parsed Token → (ℕ → ℕ → Parsed Tokens) → Parsed Tokens
then_more at count (read tok e c) more = before tok (more c e)
then_more at count missing more = read nothing at count
then_more at count (stopped r p) more = stopped r p

unfoldable pub is_jump : Token → Bool
is_jump (Byte v) = false
is_jump (NotByte v) = false
is_jump (MaskedByte v m) = false
is_jump (NotMaskedByte v m) = false
is_jump (Jump from to) = true
is_jump (Alternatives ls) = false

unfoldable pub jump_first : Tokens → Bool
jump_first nothing = false
jump_first (tok then ts) = is_jump tok

unfoldable pub jump_last_in : Token → Tokens → Bool
jump_last_in tok nothing = is_jump tok
jump_last_in tok (next then ts) = jump_last_in next ts

unfoldable pub jump_last : Tokens → Bool
jump_last nothing = false
jump_last (tok then ts) = jump_last_in tok ts

-- a list begins with a jump, or has two or more tokens and ends with one
unfoldable pub at_bound : Tokens → Bool
at_bound ts = jump_first ts || (leb 2 (token_count ts) && jump_last ts)

-- a list without a token is missing, and who needs it says where; one with a jump at its bounds is refused at its first byte
unfoldable pub list_of : ℕ → Parsed Tokens → Parsed Tokens
list_of at (read nothing e count) = missing
list_of at (read (tok then ts) e count) = cond (at_bound (tok then ts)) (stopped JumpAtBound at) (read (tok then ts) e count)
list_of at missing = missing
list_of at (stopped r p) = stopped r p

-- a list before those that follow it
unfoldable pub beside : Tokens → Parsed Lists → Parsed Lists
beside ts (read ls e count) = read (ts or ls) e count
beside ts missing = missing
beside ts (stopped r p) = stopped r p

-- a list in brackets, then `)`, or `|` and more lists; `miss` is where it is missed: where it should begin, or at the `|` before it
unfoldable pub then_lists : List ℕ → ℕ → Parsed Tokens → (ℕ → ℕ → ℕ → Parsed Lists) → Parsed Lists
then_lists t miss (read ts e count) more =
    cond (eqb (here t e) (code ")")) (read (ts or neither) (skip t (e + 1)) count)
    (cond (eqb (here t e) (code "|")) (beside ts (more count (skip t (e + 1)) e)) (stopped Unexpected e))
then_lists t miss missing more = stopped Unexpected miss
then_lists t miss (stopped r p) more = stopped r p

-- One token, as many as there are, a list, lists up to the closing bracket. The outer list has level 1, and a ninth is refused where it
-- would begin. The first number bounds the depth of calls: four times the bytes left, and four, is enough, and
-- proofs/ListSteps.antt has what follows for `token`, `more`, `list` and `lists` below, where it is gone.
unfoldable mutual
  pub token_f : ℕ → List ℕ → ℕ → ℕ → ℕ → Parsed Token
  token_f zero t level count at = missing
  token_f (suc f) t level count at =
      token_or at count (leaf_at t (ltb 1 level) at) (bracketed t at count (lists_f f t (level + 1) (count + 1) (skip t (at + 1)) (skip t (at + 1))))

  pub more_f : ℕ → List ℕ → ℕ → ℕ → ℕ → Parsed Tokens
  more_f zero t level count at = missing
  more_f (suc f) t level count at = then_more at count (token_f f t level count at) (λ c x. more_f f t level c x)

  pub list_f : ℕ → List ℕ → ℕ → ℕ → ℕ → Parsed Tokens
  list_f zero t level count at = missing
  list_f (suc f) t level count at = cond (ltb level_limit level) (stopped HexStringTooDeep at) (list_of at (more_f f t level count at))

  pub lists_f : ℕ → List ℕ → ℕ → ℕ → ℕ → ℕ → Parsed Lists
  lists_f zero t level count at miss = missing
  lists_f (suc f) t level count at miss = then_lists t miss (list_f f t level count at) (λ c x m. lists_f f t level c x m)

-- calls enough for what is left of the text
abbrev pub enough : List ℕ → ℕ → ℕ
enough t at = 4 * (length t - at) + 4

abbrev pub token : List ℕ → ℕ → ℕ → ℕ → Parsed Token
token t level count at = token_f (enough t at) t level count at

abbrev pub more : List ℕ → ℕ → ℕ → ℕ → Parsed Tokens
more t level count at = more_f (enough t at) t level count at

abbrev pub list : List ℕ → ℕ → ℕ → ℕ → Parsed Tokens
list t level count at = list_f (enough t at) t level count at

abbrev pub lists : List ℕ → ℕ → ℕ → ℕ → ℕ → Parsed Lists
lists t level count at miss = lists_f (enough t at) t level count at miss

-- the offset reached and the tokens, or a refusal and its place
pub data Verdict : Type 0 where
  accepted : ℕ → Tokens → Verdict
  rejected : Refusal → ℕ → Verdict

-- after the outer list that begins at `at`: `}` and blanks, and the rest is ignored
unfoldable pub closing : List ℕ → ℕ → Parsed Tokens → Verdict
closing t at (read ts e count) = cond (eqb (here t e) (code "}")) (accepted (skip t (e + 1)) ts) (rejected Unexpected e)
closing t at missing = rejected Unexpected at
closing t at (stopped r p) = rejected r p

-- a whole text, of at most 4,096 bytes: `{` with nothing before it, and the outer list
unfoldable pub reading : List ℕ → Verdict
reading t =
    cond (leb (length t) text_limit)
    (cond (eqb (here t 0) (code "{")) (closing t (skip t 1) (list t 1 0 (skip t 1))) (rejected Unexpected 0))
    (rejected TextTooLong 0)
