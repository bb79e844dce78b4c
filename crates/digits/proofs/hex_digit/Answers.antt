-- The value of a digit of either case. Assumes nothing.
use Rattle.std.proofs.Common.{◌≡◌, ℕ, ◌-◌, ◌≤◌, refl, arith, le-leb}
use Rattle.std.proofs.lemmas.Bool.{lt-leb}
use Rattle.std.proofs.Math.Option.{some}
use Rattle.std.proofs.lemmas.Bool.Decides.{nat_tests}
use Prim.Native.Char.{code}
use Rattle.def_reading.specs.Pieces.{digit, within}
use Rattle.digits.proofs.hex_digit.Goals as goal

module _ (c : ℕ) where
  decimal_digit : code "0" ≤ c → c ≤ code "9" → some (c - code "0") ≡ digit c
  unfolding digit within
  decimal_digit a b = rw (le-leb (code "0") c a, le-leb c (code "9") b) refl

  upper_digit : code "A" ≤ c → c ≤ code "F" → some (c - 55) ≡ digit c
  unfolding digit within
  upper_digit a b = rw (le-leb (code "0") c (omega arith), lt-leb c (code "9") (omega arith), le-leb (code "A") c a, le-leb c (code "F") b) refl

  lower_digit : code "a" ≤ c → c ≤ code "f" → some (c - 87) ≡ digit c
  unfolding digit within
  lower_digit a b = rw (le-leb (code "0") c (omega arith), lt-leb c (code "9") (omega arith), le-leb (code "A") c (omega arith), lt-leb c (code "F") (omega arith), le-leb (code "a") c a, le-leb c (code "f") b) refl

pub returns-in-48-to-57 : goal.returns-in-48-to-57
returns-in-48-to-57 c = decimal_digit c.args.c (omega arith) (omega arith)

pub returns-in-65-to-70 : goal.returns-in-65-to-70
returns-in-65-to-70 c = upper_digit c.args.c (omega arith) (omega arith)

pub returns-in-97-to-102 : goal.returns-in-97-to-102
returns-in-97-to-102 c = lower_digit c.args.c (omega arith) (omega arith)

pub returns-in_default : goal.returns-in_default
unfolding digit within
returns-in_default c = grind (arith, nat_tests)

pub returns-in_default-2 : goal.returns-in_default-2
unfolding digit within
returns-in_default-2 c = grind (arith, nat_tests)

pub returns-in_default-3 : goal.returns-in_default-3
unfolding digit within
returns-in_default-3 c = grind (arith, nat_tests)

pub returns-in_default-4 : goal.returns-in_default-4
unfolding digit within
returns-in_default-4 c = grind (arith, nat_tests)
