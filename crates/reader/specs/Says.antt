-- What the readers' answers and the pool say of what was read. Assumes nothing: these are definitions.
-- To be believed: nothing.
use Rattle.std.specs.Prelude.{◌≡◌, Bool, cond, List, ℕ, suc, ◌+◌, ◌*◌, ◌≤◌, eqb, length, Option, Some, None, Result, Ok, Err}
use Rattle.base.specs.declared.Refusal.{Refusal}
use Rattle.base.specs.declared.Refusal.TheVariants.{JumpAtBound}
use Rattle.base.specs.declared.Refused.{Refused}
use Rattle.def_meaning.specs.Limits.{text_limit, token_limit, level_limit, token_pool}
use Rattle.def_meaning.specs.Tokens.{Token, Tokens}
use Rattle.def_meaning.specs.Entries.{entries_of, entries, token_count}
use Rattle.def_reading.specs.Blanks.{skip}
use Rattle.def_reading.specs.Lists.{Parsed, read, missing, stopped, is_jump, bracketed, lists}
use Rattle.reader.specs.declared.TokenRead.{TokenRead}
use Rattle.reader.specs.declared.ListRead.{ListRead}
use Rattle.reader.specs.Written.{written}

-- the readers' answers, by their parts: the offset, the words and the tokens until then; and whether it is a jump
abbrev pub TokenGot : Type 0
TokenGot = Result (Option TokenRead) Refused

abbrev pub token_to : ℕ → ℕ → ℕ → Bool → TokenGot
token_to e u d j = Ok (Some (record { to = record { at = e; count = d; words = u }; jump = j }))

abbrev pub no_token : TokenGot
no_token = Ok None

abbrev pub token_refusal : Refusal → ℕ → TokenGot
token_refusal r y = Err (record { why = r; place = y })

-- the same, with how many tokens the list has of its own
abbrev pub ListGot : Type 0
ListGot = Result (Option ListRead) Refused

abbrev pub list_to : ℕ → ℕ → ℕ → ℕ → ListGot
list_to e u d k = Ok (Some (record { to = record { at = e; count = d; words = u }; tokens = k }))

abbrev pub no_list : ListGot
no_list = Ok None

abbrev pub list_refusal : Refusal → ℕ → ListGot
list_refusal r y = Err (record { why = r; place = y })

-- the pool was p with n words used, and is q: a token's entries follow them; where there is no token nothing is written
unfoldable pub TokenSays : Parsed Token → ℕ → TokenGot → List ℕ → List ℕ → Type 0
TokenSays (read tok e count) n r p q = (r ≡ token_to e (n + length (entries_of tok)) count (is_jump tok)) × (q ≡ written p n (entries_of tok))
TokenSays missing n r p q = (r ≡ no_token) × (q ≡ p)
TokenSays (stopped x place) n r p q = r ≡ token_refusal x place

-- the same of a list, with how many tokens are its own
unfoldable pub ListSays : Parsed Tokens → ℕ → ListGot → List ℕ → List ℕ → Type 0
ListSays (read ts e count) n r p q = (r ≡ list_to e (n + length (entries ts)) count (token_count ts)) × (q ≡ written p n (entries ts))
ListSays missing n r p q = (r ≡ no_list) × (q ≡ p)
ListSays (stopped x place) n r p q = r ≡ list_refusal x place

-- alternatives at `at`
abbrev pub alternatives : List ℕ → ℕ → ℕ → ℕ → Parsed Token
alternatives t level count at = bracketed t at count (lists t (level + 1) (count + 1) (skip t (at + 1)) (skip t (at + 1)))

-- The n words used so far are at most two entries for each token counted. So the 1,024 entries of the pool are enough for 512 tokens and the
-- mark of a list that has none yet.
pub record Room (len at level count n cap : ℕ) : Type 0 where
  pub inside : at ≤ len
  pub short : len ≤ text_limit
  pub shallow : level ≤ suc level_limit
  pub few : count ≤ token_limit
  pub used : n ≤ 8 * count
  pub pool : cap ≡ token_pool

-- whether a list's first token is a jump, once one more is read after k of them
abbrev pub first_of : ℕ → Bool → Bool → Bool
first_of k first jump = cond (eqb k 0) jump first

-- a list's end: k tokens, and whether the first and the last are jumps
abbrev pub list_end : ℕ → ℕ → ℕ → ℕ → ℕ → Bool → Bool → ListGot
list_end at e m count k first last =
    cond (eqb k 0) no_list (cond first (list_refusal JumpAtBound at) (cond last (list_refusal JumpAtBound at) (list_to e m count k)))
