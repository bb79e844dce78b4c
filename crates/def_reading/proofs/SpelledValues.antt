-- The tokens of every accepted text have values that a text can spell. Assumes nothing.
use mathlib.Core.Path.{◌≡◌}
use mathlib.Core.List.{List}
use Prim.Native.Nat.{ℕ}
use Rattle.def_meaning.specs.Tokens.{Tokens}
use Rattle.def_meaning.specs.Values.{SpelledOne, Spelled, SpelledFirst}
use Rattle.def_meaning.proofs.ValueLaws.{any_spelled}
use Rattle.def_reading.specs.Lists.{accepted, reading}
use Rattle.def_reading.proofs.Kept.{Keeps, accepted_keeps}

spelled_keeps : Keeps SpelledOne Spelled SpelledFirst
unfolding Spelled
spelled_keeps = record {
  byte = λ v h. h;
  not_byte = λ v h. h;
  masked_byte = λ v m h. h;
  not_masked = λ v m h. h;
  open_jump = λ from. tt;
  jump = λ from to h g. (h, g);
  alternatives = λ ls h. h;
  empty = tt;
  next = λ tok ts a b. (a, b);
  last_list = λ ts f a. (a, tt, f);
  next_list = λ ts ls f a b. (a, any_spelled ls b, f);
}

pub accepted_spelled : (t : List ℕ) (e : ℕ) (ts : Tokens) → reading t ≡ accepted e ts → Spelled ts
accepted_spelled t e ts h = accepted_keeps SpelledOne Spelled SpelledFirst spelled_keeps t e ts h
