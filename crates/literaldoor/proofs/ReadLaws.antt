-- In the tokens of every accepted text no list of alternatives is empty, and there are at most 512; so its literals have 1 to 512 bytes.
-- Assumes nothing.
use Rattle.std.proofs.Common.{◌≡◌, Bool, true, false, List, ℕ, ◌≤◌, min, arith, length}
use mathlib.Core.List.{Memᴰ}
use Rattle.def_meaning.specs.Limits.{token_limit}
use Rattle.def_meaning.specs.Values.{Filled}
use Rattle.def_meaning.specs.Tokens.{Token, Tokens, Lists, Byte, NotByte, MaskedByte, NotMaskedByte, Jump, Alternatives, nothing, ◌then◌, neither, ◌or◌, total}
use Rattle.def_reading.specs.Lists.{accepted, reading}
use Rattle.def_grammar.proofs.Spelling.{◌⨾◌, Bounded, SpellsToken, SpellsTokens, SpellsLists, SpellsRest, SpellsString, SpellsText}
use Rattle.def_grammar.proofs.TextSpelled.{accepted_spelled}
use Rattle.def_picking.specs.Literals.{length_in, shortest, shorter, NonemptyOf, Nonempty, NonemptyIn}
use Rattle.def_picking.specs.Candidates.{picked, pick}
use Rattle.def_picking.proofs.PickedLaws.{filled_long, literal_bounds}

-- ---- no list of alternatives is empty

bounded_filled : (ts : Tokens) → Bounded ts → Filled ts
unfolding Bounded Filled
bounded_filled nothing h = h
bounded_filled (t then ts) h = tt

mutual
  unfolding SpellsToken SpellsTokens SpellsLists SpellsRest ◌⨾◌ NonemptyOf Nonempty NonemptyIn shortest shorter

  token_nonempty : (inside : Bool) (t : Token) (s : List ℕ) → SpellsToken inside t s → NonemptyOf t
  token_nonempty inside (Byte v) s h = tt
  token_nonempty inside (NotByte v) s h = tt
  token_nonempty inside (MaskedByte v m) s h = tt
  token_nonempty inside (NotMaskedByte v m) s h = tt
  token_nonempty inside (Jump from to) s h = tt
  token_nonempty inside (Alternatives ls) s h = lists_nonempty ls h.1 h.4

  tokens_nonempty : (inside : Bool) (ts : Tokens) (s : List ℕ) → SpellsTokens inside ts s → Nonempty ts
  tokens_nonempty inside nothing s h = tt
  tokens_nonempty inside (t then ts) s h = (token_nonempty inside t h.0 h.3, tokens_nonempty inside ts h.1 h.4)

  lists_nonempty : (ls : Lists) (s : List ℕ) → SpellsLists ls s → (1 ≤ shortest ls) × NonemptyIn ls
  lists_nonempty neither s h = absurd h
  lists_nonempty (ts or ls) s h =
      let g = tokens_nonempty true ts h.1.0 h.1.3 in
      let r = rest_nonempty ls h.1.1 (length_in ts) (filled_long ts (bounded_filled ts h.0) g) h.1.4 in
      (r.0, (g, r.1))

  rest_nonempty : (ls : Lists) (s : List ℕ) (n : ℕ) → 1 ≤ n → SpellsRest ls s → (1 ≤ shorter ls n) × NonemptyIn ls
  rest_nonempty neither s n l h = (l, tt)
  rest_nonempty (ts or ls) s n l h =
      let u = h.1.4 in
      let g = tokens_nonempty true ts u.0 u.3 in
      let k = filled_long ts (bounded_filled ts h.0) g in
      let r = rest_nonempty ls u.1 (min n (length_in ts)) (omega arith) u.4 in
      (r.0, (g, r.1))

pub accepted_nonempty : (t : List ℕ) (e : ℕ) (ts : Tokens) → reading t ≡ accepted e ts → Nonempty ts
unfolding SpellsText SpellsString ◌⨾◌
accepted_nonempty t e ts h =
    let s = (accepted_spelled t e ts h).0.3 in
    tokens_nonempty false ts s.4.0 s.4.3.1

-- ---- at most 512 tokens

pub accepted_size : (t : List ℕ) (e : ℕ) (ts : Tokens) → reading t ≡ accepted e ts → total ts ≤ token_limit
accepted_size t e ts h = (accepted_spelled t e ts h).2

-- the literals picked for an accepted text have 1 to 512 bytes
pub read_literal_bounds : (t : List ℕ) (e : ℕ) (ts : Tokens) → reading t ≡ accepted e ts → (n : ℕ) (ls : List (List ℕ)) → pick ts ≡ picked n ls → (l : List ℕ) → Memᴰ l ls
    → (1 ≤ length l) × (length l ≤ token_limit)
read_literal_bounds t e ts h n ls q l m = literal_bounds ts (accepted_nonempty t e ts h) (accepted_size t e ts h) n ls q l m
