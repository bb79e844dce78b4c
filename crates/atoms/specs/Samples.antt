-- Worked scores.
-- To be believed: nothing.
use Rattle.std.specs.Prelude.{◌≡◌, refl, [], ◌∷◌, ◌+◌}
use Rattle.atoms.specs.Score.{among, common, byte_score, atom_score, highest, literal_score}

-- four bytes that are not common reach the threshold of 80
pub four_rare : literal_score (0x01 ∷ 0x02 ∷ 0x03 ∷ 0x04 ∷ []) ≡ 80
unfolding literal_score highest atom_score byte_score among common
four_rare = refl

pub four_zeros : literal_score (0x00 ∷ 0x00 ∷ 0x00 ∷ 0x00 ∷ []) ≡ 40
unfolding literal_score highest atom_score byte_score among common
four_zeros = refl

-- each of the five common bytes scores 10
pub five_common : literal_score (0x00 ∷ 0x20 ∷ 0x90 ∷ []) + literal_score (0xCC ∷ 0xFF ∷ []) ≡ 50
unfolding literal_score highest atom_score byte_score among common
five_common = refl

-- the best four of five bytes are the last four
pub best_of_five : literal_score (0x90 ∷ 0x41 ∷ 0x20 ∷ 0x42 ∷ 0x43 ∷ []) ≡ 70
unfolding literal_score highest atom_score byte_score among common
best_of_five = refl

-- a literal of three bytes is summed whole
pub short : literal_score (0x41 ∷ 0xFF ∷ 0x42 ∷ []) ≡ 50
unfolding literal_score highest atom_score byte_score among common
short = refl

pub nothing : literal_score [] ≡ 0
unfolding literal_score highest atom_score byte_score among common
nothing = refl
