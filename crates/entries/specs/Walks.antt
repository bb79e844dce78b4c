-- What the walks over words give, a token or a list at a time. Assumes nothing: these are definitions.
-- To be believed: nothing.
use Rattle.std.specs.Prelude.{◌≡◌, List, ℕ, ◌+◌, ◌≤◌, ◌<◌, length, drop, Option, MatchOption}
use Rattle.std.specs.Borrow.{Bor}
use Rattle.def_meaning.specs.Tokens as token
use Rattle.classes.specs.Entry.{token_of}
use Rattle.entries.specs.declared.Token.{Token}
use Rattle.entries.specs.declared.Token.TheVariants.{One, Alternatives}
use Rattle.entries.specs.declared.Tokens.{Tokens}
use Rattle.entries.specs.declared.Lists.{Lists}
use Rattle.entries.specs.Words.{ends, inside, lists_in, token_in, width}

-- the code's token, and the words that it takes
abbrev pub meant : Token → token.Token
meant (One e) = token_of e
meant (Alternatives ls) = token.Alternatives (lists_in ls.now)

abbrev pub words_of : Token → ℕ
words_of (One e) = 4
words_of (Alternatives ls) = length ls.now + 4

-- the token at the front of words, and what is left of them
pub record IsFront (ws : List ℕ) (t : Token) (rest : List ℕ) : Type 0 where
  pub long : 4 ≤ length ws
  pub is : meant t ≡ token_in ws
  pub wide : words_of t ≡ width ws
  pub left : rest ≡ drop (width ws) ws

abbrev pub GivesToken : Tokens → Option Token → Tokens → Type 0
GivesToken s r t = MatchOption r ((length s.words.now < 4) × (t ≡ s)) (λ x. IsFront s.words.now x t.words.now)

-- the list after the mark at the front of words, and what is left of them
pub record IsList (ws list rest : List ℕ) : Type 0 where
  pub long : 4 ≤ length ws
  pub is : list ≡ inside ws
  pub left : rest ≡ drop (ends ws) ws

abbrev pub GivesList : Lists → Option (Bor (List ℕ)) → Lists → Type 0
GivesList s r t = MatchOption r ((length s.words.now < 4) × (t ≡ s)) (λ x. IsList s.words.now x.now t.words.now)
