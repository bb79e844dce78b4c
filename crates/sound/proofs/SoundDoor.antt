-- What is known of the soundness test's door, whose promise is that its answer is `sound words`. Assumes nothing.
use Rattle.std.proofs.Common.{◌≡◌, refl, sym, ◌∙◌, Bool, true, not, ◌&&◌, List, [], ◌∷◌, ℕ, ◌^◌, replicate}
use Rattle.def_meaning.specs.NodeWords.{word}
use Rattle.def_meaning.specs.Words.{sound, sound_words, sound_branches, flat_words, is_flat, proper, proper_by, shape, shape_by}

-- the promise leaves one outcome; the words lent are only read
pub one_outcome : (ws : List ℕ) (r s : Bool) → r ≡ sound ws → s ≡ sound ws → r ≡ s
one_outcome ws r s e f = e ∙ sym f

-- the empty program is sound
pub empty_program : sound [] ≡ true
unfolding sound sound_words
empty_program = refl

-- and so are these, of which 02 says nothing: a range from 0 to 0, and one from 0 to 1; a mask that asks nothing, and its negation, which no byte
-- passes; a value that is its whole mask, and one that is part of it; a jump of 1, and a branch of one
unfoldable pub sounds : List (List ℕ)
sounds =
    (word 4 0 0 ∷ [])
    ∷ (word 4 0 1 ∷ [])
    ∷ (word 1 0 0 ∷ [])
    ∷ (word 2 0 0 ∷ [])
    ∷ (word 1 0x0F 0x0F ∷ [])
    ∷ (word 2 0x81 0xC1 ∷ [])
    ∷ (word 3 1 0 ∷ [])
    ∷ (word 6 2 0 ∷ word 7 1 0 ∷ word 3 1 0 ∷ [])
    ∷ []

unfoldable pub all_sound : List (List ℕ) → Bool
all_sound [] = true
all_sound (ws ∷ rest) = sound ws && all_sound rest

pub all_sound_lem : all_sound sounds ≡ true
unfolding sounds all_sound sound sound_words sound_branches flat_words is_flat proper proper_by shape shape_by
all_sound_lem = refl

unfoldable pub none_sound : List (List ℕ) → Bool
none_sound [] = true
none_sound (ws ∷ rest) = not (sound ws) && none_sound rest

-- 02: these are not, though 01 had them sound: a value with a bit outside its mask, also negated; a jump of 0, also in a branch; an empty
-- branch, alone, before another, after another, and between two
unfoldable pub unmeant : List (List ℕ)
unmeant =
    (word 1 0xAB 0x0F ∷ [])
    ∷ (word 1 1 0 ∷ [])
    ∷ (word 2 0x10 0x0F ∷ [])
    ∷ (word 3 0 0 ∷ [])
    ∷ (word 6 2 0 ∷ word 7 1 0 ∷ word 3 0 0 ∷ [])
    ∷ (word 6 1 0 ∷ word 7 0 0 ∷ [])
    ∷ (word 6 3 0 ∷ word 7 0 0 ∷ word 7 1 0 ∷ word 5 0 0 ∷ [])
    ∷ (word 6 3 0 ∷ word 7 1 0 ∷ word 5 0 0 ∷ word 7 0 0 ∷ [])
    ∷ (word 6 5 0 ∷ word 7 1 0 ∷ word 5 0 0 ∷ word 7 0 0 ∷ word 7 1 0 ∷ word 5 0 0 ∷ [])
    ∷ []

pub none_meant : none_sound unmeant ≡ true
unfolding unmeant none_sound sound sound_words sound_branches flat_words is_flat proper proper_by shape shape_by
none_meant = refl

-- 01 and Req 07: nor these: a range whose min is above its max; a branch outside an alternation; an alternation without a branch;
-- counts that are not filled exactly, or not by branches; a range in a branch; a field that is not named and not 0; a kind
-- that is none; a value, a mask and a branch's count above 255; a word of more than 40 bits
unfoldable pub unsound : List (List ℕ)
unsound =
    (word 4 2 1 ∷ [])
    ∷ (word 7 1 0 ∷ word 5 0 0 ∷ [])
    ∷ (word 6 0 0 ∷ [])
    ∷ (word 6 3 0 ∷ word 7 1 0 ∷ word 5 0 0 ∷ [])
    ∷ (word 6 1 0 ∷ word 7 1 0 ∷ word 5 0 0 ∷ [])
    ∷ (word 6 1 0 ∷ word 5 0 0 ∷ [])
    ∷ (word 6 2 0 ∷ word 7 1 0 ∷ word 4 1 2 ∷ [])
    ∷ (word 0 1 1 ∷ [])
    ∷ (word 8 0 0 ∷ [])
    ∷ (word 6 2 1 ∷ word 7 1 0 ∷ word 5 0 0 ∷ [])
    ∷ (word 0 256 0 ∷ [])
    ∷ (word 1 256 256 ∷ [])
    ∷ (word 2 0 256 ∷ [])
    ∷ (word 6 257 0 ∷ word 7 256 0 ∷ replicate 256 (word 5 0 0))
    ∷ (word 1 0 65536 ∷ [])
    ∷ (2 ^ 40 ∷ [])
    ∷ []

pub none_sound_lem : none_sound unsound ≡ true
unfolding unsound none_sound sound sound_words sound_branches flat_words is_flat proper proper_by shape shape_by
none_sound_lem = refl
