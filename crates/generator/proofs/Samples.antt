-- The literals `a` and `bc` in buffers that are large enough, and in such as are not. Assumes nothing.
use Rattle.std.proofs.Common.{refl, List, [], ◌∷◌, ℕ, Ok, Err}
use mathlib.Core.List.{flatten}
use Rattle.base.specs.declared.Refusal.TheVariants.{NoRoom}
use Rattle.generator.specs.Output.{fits, answered, bytes_left, lengths_left, Generated}

-- the two literals
abbrev pub two : List (List ℕ)
two = (97 ∷ []) ∷ (98 ∷ 99 ∷ []) ∷ []

-- room for one more of each: it stays
pub more_room : Generated two (Ok 2) (1 ∷ 2 ∷ 3 ∷ 4 ∷ []) (5 ∷ 6 ∷ 7 ∷ []) (97 ∷ 98 ∷ 99 ∷ 4 ∷ []) (1 ∷ 2 ∷ 7 ∷ [])
unfolding flatten fits answered bytes_left lengths_left
more_room = record { answer_is = refl; bytes_are = refl; lengths_are = refl }

-- just enough
pub just_room : Generated two (Ok 2) (1 ∷ 2 ∷ 3 ∷ []) (5 ∷ 6 ∷ []) (97 ∷ 98 ∷ 99 ∷ []) (1 ∷ 2 ∷ [])
unfolding flatten fits answered bytes_left lengths_left
just_room = record { answer_is = refl; bytes_are = refl; lengths_are = refl }

-- a byte too few, though the first literal would fit
pub few_bytes : Generated two (Err NoRoom) (1 ∷ 2 ∷ []) (5 ∷ 6 ∷ []) (1 ∷ 2 ∷ []) (5 ∷ 6 ∷ [])
unfolding flatten fits answered bytes_left lengths_left
few_bytes = record { answer_is = refl; bytes_are = refl; lengths_are = refl }

-- a length too few, though all bytes would fit
pub few_lengths : Generated two (Err NoRoom) (1 ∷ 2 ∷ 3 ∷ []) (5 ∷ []) (1 ∷ 2 ∷ 3 ∷ []) (5 ∷ [])
unfolding flatten fits answered bytes_left lengths_left
few_lengths = record { answer_is = refl; bytes_are = refl; lengths_are = refl }

-- no literals need no room
pub none : Generated [] (Ok 0) [] [] [] []
unfolding flatten fits answered bytes_left lengths_left
none = record { answer_is = refl; bytes_are = refl; lengths_are = refl }
