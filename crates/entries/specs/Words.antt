-- Token entries, four words each, taken for the tokens that they stand for. Total: what is no entry of a token is taken for a jump.
-- Assumes nothing: these are definitions; crate runs shows (EntryLaws) that the entries of tokens are taken for those tokens.
-- To be believed: nothing.
use Rattle.std.specs.Prelude.{cond, List, ℕ, zero, suc, ◌+◌, ◌-◌, ◌*◌, min, eqb, ltb, length, take, drop, get_or}
use Rattle.def_meaning.specs.Tokens.{Token, Tokens, Lists, Alternatives, nothing, ◌then◌, neither, ◌or◌}
use Rattle.classes.specs.Entry.{entry_token}

-- the entry at the front
abbrev pub first_entry : List ℕ → Token
first_entry ws = entry_token (get_or ws 0 0) (get_or ws 1 0) (get_or ws 2 0)

-- Through entries from the front: what is made of the words and of those after the first step. The number bounds the depth of calls, and as many
-- as there are words are enough.
unfoldable pub walk : {A : Type 0} → A → (List ℕ → A → A) → (List ℕ → ℕ) → ℕ → List ℕ → A
walk stop make step zero ws = stop
walk stop make step (suc n) ws = cond (ltb (length ws) 4) stop (make ws (walk stop make step n (drop (step ws) ws)))

-- a branch: a list without alternatives
unfoldable pub branch_in : List ℕ → Tokens
branch_in ws = walk nothing (λ w ts. first_entry w then ts) (λ w. 4) (length ws) ws

-- where the words within an entry of alternatives or a list mark end
unfoldable pub ends : List ℕ → ℕ
ends ws = min (length ws) (4 + 4 * get_or ws 2 0)

-- the words within
abbrev pub inside : List ℕ → List ℕ
inside ws = take (ends ws - 4) (drop 4 ws)

-- lists, each after its mark
unfoldable pub lists_in : List ℕ → Lists
lists_in ws = walk neither (λ w ls. branch_in (inside w) or ls) ends (length ws) ws

-- the token at the front, and its words
unfoldable pub token_in : List ℕ → Token
token_in ws = cond (eqb (get_or ws 0 0) 5) (Alternatives (lists_in (inside ws))) (first_entry ws)

unfoldable pub width : List ℕ → ℕ
width ws = cond (eqb (get_or ws 0 0) 5) (ends ws) 4

-- a list of tokens
unfoldable pub tokens_in : List ℕ → Tokens
tokens_in ws = walk nothing (λ w ts. token_in w then ts) width (length ws) ws
