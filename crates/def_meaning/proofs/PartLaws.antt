-- A part of a list that goes to its end. Assumes nothing.
use mathlib.Core.Path.{◌≡◌}
use mathlib.Core.List.{List}
use Prim.Native.Nat.{ℕ, ◌-◌}
use native.Mathlib.Omega.{arith}
use lib.ListN.{length, take, drop, length-drop}
use lib.Seq.{take_all}

-- what the code's part from n on is
abbrev pub from : ℕ → List ℕ → List ℕ
from n l = take (length l - n) (drop n l)

pub to_end : (n : ℕ) (l : List ℕ) → from n l ≡ drop n l
to_end n l = take_all (length l - n) (drop n l) (rw length-drop (omega arith))

pub length_from : (n : ℕ) (l : List ℕ) → length (from n l) ≡ length l - n
length_from n l = rw (to_end n l) (length-drop n l)
