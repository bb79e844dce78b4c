-- Walks over token entries: whether they are simple, and where tokens start. Assumes nothing: these are definitions.
-- To be believed: nothing.
use Rattle.std.specs.Prelude.{◌≡◌, Bool, true, cond, ◌&&◌, List, [], ◌∷◌, ℕ, ◌+◌, ◌*◌, ◌≤◌, eqb, length, get_or, take, drop}
use Rattle.std.proofs.Math.Option.{Option, none, some}
use Rattle.def_meaning.specs.Limits.{token_pool}
use Rattle.def_meaning.specs.Tokens.{Token, Tokens, Byte, Jump, Alternatives, neither}
use Rattle.def_meaning.specs.Values.{Spelled}
use Rattle.def_meaning.specs.Entries.{entries}
use Rattle.def_compiling.specs.Compile.{flat_token, simple_token, simple}

-- What an entry says, as far as 12 asks: a jump with its bounds, alternatives, or else a token of one byte. What 12 asks of it stands in `simple_token`
-- and `flat_token` alone.
unfoldable pub to_of : ℕ → ℕ → Option ℕ
to_of b c = cond (eqb c 0) none (some b)

unfoldable pub told_by : ℕ → ℕ → ℕ → ℕ → Token
told_by k a b c = cond (eqb k 4) (Jump a (to_of b c)) (cond (eqb k 5) (Alternatives neither) (Byte a))

-- all entries inside a bracket, four words at a time
unfoldable pub flat_entries : List ℕ → Bool
flat_entries [] = true
flat_entries (k ∷ []) = true
flat_entries (k ∷ (a ∷ [])) = true
flat_entries (k ∷ (a ∷ (b ∷ []))) = true
flat_entries (k ∷ (a ∷ (b ∷ (c ∷ ws)))) = flat_token (told_by k a b c) && flat_entries ws

-- the token at a place of the outer list
unfoldable pub simple_at : List ℕ → ℕ → Bool
simple_at ws at =
    cond (eqb (get_or ws at 0) 5) (flat_entries (take (4 * get_or ws (at + 2) 0) (drop (at + 4) ws)))
    (simple_token (told_by (get_or ws at 0) (get_or ws (at + 1) 0) (get_or ws (at + 2) 0) (get_or ws (at + 3) 0)))

-- words that are the entries of tokens that a text spells
pub record Entered (ws : List ℕ) : Type 0 where
  pub tokens : Tokens
  pub entered : ws ≡ entries tokens
  pub spelled : Spelled tokens
  pub short : length ws ≤ token_pool

-- whatever tokens the words are the entries of, they are simple
abbrev pub Simply : List ℕ → Type 0
Simply ws = (ts : Tokens) → ws ≡ entries ts → simple ts ≡ true
