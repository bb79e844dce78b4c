-- 01's samples of the checks, at their doors, by computation. Assumes nothing.
use mathlib.Core.Path.{◌≡◌, refl}
use mathlib.Core.List.{List, [], ◌∷◌}
use Prim.Native.Nat.{ℕ}
use Rattle.def_meaning.specs.Programs.{pass}
use Rattle.def_meaning.specs.Rows.{rest, found, before, ◌⊗◌, rows, run}
use Rattle.def_meaning.specs.NodeWords.{word}
use Rattle.def_meaning.specs.Words.{shape, shape_by, prog, items, sound, sound_words, sound_branches, flat_words, is_flat, proper, proper_by, mirror_words, mirror_items}
use Rattle.checkdoors.specs.Doors as doors

-- (61|61 62) 63
unfoldable pub a_or_ab_c : List ℕ
a_or_ab_c = word 6 5 0 ∷ word 7 1 0 ∷ word 0 0x61 0 ∷ word 7 2 0 ∷ word 0 0x61 0 ∷ word 0 0x62 0 ∷ word 0 0x63 0 ∷ []

-- (61 62|61)
unfoldable pub ab_or_a : List ℕ
ab_or_a = word 6 5 0 ∷ word 7 2 0 ∷ word 0 0x61 0 ∷ word 0 0x62 0 ∷ word 7 1 0 ∷ word 0 0x61 0 ∷ []

-- (61|62 61)
unfoldable pub a_or_ba : List ℕ
a_or_ba = word 6 5 0 ∷ word 7 1 0 ∷ word 0 0x61 0 ∷ word 7 2 0 ∷ word 0 0x62 0 ∷ word 0 0x61 0 ∷ []

-- on 61 62 63: end 3
pub second_branch : doors.forward_says a_or_ab_c (0x61 ∷ 0x62 ∷ 0x63 ∷ []) 0 3 ≡ doors.found 3
unfolding a_or_ab_c doors.forward_says doors.refusal prog items shape shape_by sound sound_words sound_branches flat_words is_flat proper proper_by run rows found before ◌⊗◌ rest pass
second_branch = refl

-- on 61 62: end 2
pub first_branch : doors.forward_says ab_or_a (0x61 ∷ 0x62 ∷ []) 0 2 ≡ doors.found 2
unfolding ab_or_a doors.forward_says doors.refusal prog items shape shape_by sound sound_words sound_branches flat_words is_flat proper proper_by run rows found before ◌⊗◌ rest pass
first_branch = refl

-- the false friend: backwards on 62 61 gives 1, not the smallest start
pub not_the_smallest : doors.reverse_says (mirror_words a_or_ba) (0x62 ∷ 0x61 ∷ []) 0 2 ≡ doors.found 1
unfolding a_or_ba mirror_words mirror_items doors.reverse_says doors.refusal prog items shape shape_by sound sound_words sound_branches flat_words is_flat proper proper_by run rows found before ◌⊗◌ rest pass
not_the_smallest = refl
