-- What a writer of literals needs and leaves. Assumes nothing: these are definitions.
-- To be believed: nothing.
use Rattle.std.specs.Prelude.{◌≡◌, List, ◌++◌, ℕ, ◌≤◌, ◌<◌, length, drop}
use Rattle.def_meaning.specs.Limits.{literal_limit}
use Rattle.def_meaning.specs.Tokens.{Token}
use Rattle.def_picking.specs.Numbers.{count_of, ending_of}

-- so many bytes are written at the front, and they are the literal; the others stay
pub record Written (r : ℕ) (literal was is : List ℕ) : Type 0 where
  pub long : r ≡ length literal
  pub content : is ≡ literal ++ drop (length literal) was

-- what the writer of one token's ending needs
pub record Writable (p : ℕ) (t : Token) (q room : ℕ) : Type 0 where
  pub prefixes : p ≤ literal_limit
  pub some : 0 < count_of t
  pub few : count_of t ≤ literal_limit
  pub fits : length (ending_of t p q) ≤ room
