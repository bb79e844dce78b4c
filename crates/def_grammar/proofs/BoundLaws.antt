-- Jumps at the bounds of a list: the reader's test and what the grammar says. Assumes nothing.
use mathlib.Core.Path.{◌≡◌, refl}
use mathlib.Core.Bool.{Bool, true, false, ◌&&◌, ◌||◌, and-false}
use Prim.Native.Nat.{suc}
use native.Mathlib.Omega.{arith}
use borrow.Author.Tests.{le-leb}
use lib.Dec.{leb}
use Rattle.def_meaning.specs.Tokens.{Token, Tokens, Byte, NotByte, MaskedByte, NotMaskedByte, Jump, Alternatives, nothing, ◌then◌}
use Rattle.def_meaning.specs.Entries.{token_count}
use Rattle.def_reading.specs.Lists.{is_jump, jump_first, jump_last_in, jump_last, at_bound}
use Rattle.def_reading.proofs.PieceLaws.{never}
use Rattle.def_grammar.proofs.Spelling.{NoJump, EndsWell, Bounded}

no_jump : (tok : Token) → is_jump tok ≡ false → NoJump tok
unfolding is_jump NoJump
no_jump (Byte v) h = tt
no_jump (NotByte v) h = tt
no_jump (MaskedByte v m) h = tt
no_jump (NotMaskedByte v m) h = tt
no_jump (Jump from to) h = never (cc)
no_jump (Alternatives ls) h = tt

pub is_no_jump : (tok : Token) → NoJump tok → is_jump tok ≡ false
unfolding is_jump NoJump
is_no_jump (Byte v) h = refl
is_no_jump (NotByte v) h = refl
is_no_jump (MaskedByte v m) h = refl
is_no_jump (NotMaskedByte v m) h = refl
is_no_jump (Jump from to) h = absurd h
is_no_jump (Alternatives ls) h = refl

ends_well : (tok : Token) (ts : Tokens) → jump_last_in tok ts ≡ false → EndsWell tok ts
unfolding jump_last_in EndsWell
ends_well tok nothing h = no_jump tok h
ends_well tok (next then ts) h = ends_well next ts h

is_ends_well : (tok : Token) (ts : Tokens) → EndsWell tok ts → jump_last_in tok ts ≡ false
unfolding jump_last_in EndsWell
is_ends_well tok nothing h = is_no_jump tok h
is_ends_well tok (next then ts) h = is_ends_well next ts h

pub bounded : (tok : Token) (ts : Tokens) → at_bound (tok then ts) ≡ false → Bounded (tok then ts)
unfolding at_bound jump_first jump_last jump_last_in token_count EndsWell Bounded
bounded tok nothing h = go (is_jump tok) refl h
  where
    go : (a : Bool) → is_jump tok ≡ a → a || (leb 2 1 && is_jump tok) ≡ false → NoJump tok × NoJump tok
    go true d h = never (cc)
    go false d h = (no_jump tok d, no_jump tok d)
bounded tok (next then ts) h = go (is_jump tok) (leb 2 (suc (suc (token_count ts)))) refl (le-leb 2 (suc (suc (token_count ts))) (omega arith)) h
  where
    go : (a b : Bool) → is_jump tok ≡ a → b ≡ true → a || (b && jump_last_in next ts) ≡ false → NoJump tok × EndsWell next ts
    go true b d e h = never (cc)
    go false true d e h = (no_jump tok d, ends_well next ts h)
    go false false d e h = never (cc)

pub is_bounded : (tok : Token) (ts : Tokens) → Bounded (tok then ts) → at_bound (tok then ts) ≡ false
unfolding at_bound jump_first jump_last Bounded
is_bounded tok ts h = rw (is_no_jump tok h.0, is_ends_well tok ts h.1) (and-false (leb 2 (token_count (tok then ts))))
