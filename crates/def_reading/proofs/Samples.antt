-- 01's samples on reading, from the definitions, as one claim over the list. Assumes nothing.
use mathlib.Core.Path.{◌≡◌, refl}
use mathlib.Core.Bool.{Bool, true, ◌&&◌}
use mathlib.Core.List.{List, [], ◌∷◌}
use Prim.Native.Nat.{ℕ}
use lib.Dec.{eqb}
use Rattle.base.specs.Refusals.{number_of}
use Rattle.base.specs.Text.{ascii}
use Rattle.def_reading.specs.Blanks.{blank, blanks, skip}
use Rattle.def_reading.specs.Pieces.{within, digit, two_digits, byte_at, one_digit, masked_at, hex_at, hex_token, negated, not_at, decimals, numeral, number_at, checked, closed_at, upper_at, dash_at, lower_at, range_at, jump_token, jumped, leaf_at, ◌else◌}
use Rattle.def_reading.specs.Lists.{token_or, as_token, bracketed, before, then_more, is_jump, jump_first, jump_last_in, jump_last, at_bound, list_of, beside, then_lists, token_f, more_f, list_f, lists_f, closing, reading, Verdict, accepted, rejected}
use Rattle.def_meaning.specs.Entries.{token_count}

-- a text, and the refusal's number and place; or 0 and the offset reached
pub data Sample : Type 0 where
  gives : List ℕ → ℕ → ℕ → Sample

pub answered : Verdict → ℕ → ℕ → Bool
answered (accepted e ts) n p = eqb 0 n && eqb e p
answered (rejected r x) n p = eqb (number_of r) n && eqb x p

pub right : Sample → Bool
right (gives t n p) = answered (reading t) n p

pub every : List Sample → Bool
every [] = true
every (s ∷ ss) = right s && every ss

pub samples : List Sample
samples =
    gives (ascii "{ AB [0] CD }") 4 5 ∷
    gives (ascii "{ [5] AB }") 6 2 ∷
    gives (ascii "{ AB (CD [200] EF) }") 0 20 ∷
    gives (ascii "{ AB (CD [201] EF) }") 8 9 ∷
    gives (ascii "{ ~?? }") 9 2 ∷
    gives (ascii "{ ??? }") 2 4 ∷
    gives (ascii "{ AB [2-3] [x }") 6 2 ∷
    gives (ascii "{ AB [x }") 2 5 ∷
    gives (ascii "{ (AB|) }") 2 5 ∷
    gives (ascii "{ AB } zz") 0 7 ∷
    gives (ascii "{ AB [4294967296] CD }") 3 6 ∷
    gives (ascii "{ AB [4294967295] CD }") 0 22 ∷ []

pub samples_hold : every samples ≡ true
unfolding samples every right answered blank blanks skip within digit two_digits byte_at one_digit masked_at hex_at hex_token negated not_at decimals numeral number_at checked closed_at upper_at dash_at lower_at range_at jump_token jumped leaf_at ◌else◌ token_or as_token bracketed before then_more is_jump jump_first jump_last_in jump_last at_bound list_of beside then_lists token_f more_f list_f lists_f closing reading token_count
samples_hold = refl
