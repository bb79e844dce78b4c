-- 01's samples and false friends that speak of compiling, from the definitions. Assumes nothing.
use mathlib.Core.Path.{◌≡◌, refl}
use mathlib.Core.Option.{none, some}
use mathlib.Core.List.{List, [], ◌∷◌}
use Rattle.base.specs.declared.Refusal.TheVariants.{NotSimple}
use Rattle.def_meaning.specs.Tokens.{left, right, all, Tokens, Byte, NotByte, MaskedByte, NotMaskedByte, Jump, Alternatives, nothing, ◌then◌, neither, ◌or◌, ◌⊕◌}
use Rattle.def_meaning.specs.NodeWords.{word}
use Rattle.def_compiling.specs.ProgramWords.{opening, words_of}
use Rattle.def_compiling.specs.Compiling.{jump_of, pair_by, add, item_of, backwards, forward_program, reverse_program, forward_words, reverse_words}
use Rattle.def_compiling.specs.Compile.{flat_token, flat_tokens, flat_branches, simple_token, simple, short_in, short_of, short, few, Compiled, compiled, refused, compile}

-- a pattern, and what compiling it gives
pub data Sample : Type 0 where
  gives : Tokens → Compiled → Sample

-- every one of the samples is right
unfoldable pub Right : List Sample → Type 0
Right [] = Unit {0}
Right (gives ts c ∷ ss) = (compile ts ≡ c) × Right ss

pub samples : List Sample
samples =
    -- `{ A? }`
    gives (MaskedByte 0xA right then nothing) (compiled (0xF000A001 ∷ []) (0xF000A001 ∷ [])) ∷
    -- `{ AB [100] [200] [50] [100] CD }`: one jump both ways
    gives (Byte 0xAB then Jump 100 (some 100) then Jump 200 (some 200) then Jump 50 (some 50) then Jump 100 (some 100) then Byte 0xCD then nothing) (compiled (word 0 0xAB 0 ∷ word 3 450 0 ∷ word 0 0xCD 0 ∷ []) (word 0 0xCD 0 ∷ word 3 450 0 ∷ word 0 0xAB 0 ∷ [])) ∷
    -- `{ AB [25000] [50000] [12000] [25000] CD }`: the reverse program is not the mirror word for word
    gives (Byte 0xAB then Jump 25000 (some 25000) then Jump 50000 (some 50000) then Jump 12000 (some 12000) then Jump 25000 (some 25000) then Byte 0xCD then nothing) (compiled (word 0 0xAB 0 ∷ word 3 25000 0 ∷ word 3 62000 0 ∷ word 3 25000 0 ∷ word 0 0xCD 0 ∷ []) (word 0 0xCD 0 ∷ word 3 37000 0 ∷ word 3 50000 0 ∷ word 3 25000 0 ∷ word 0 0xAB 0 ∷ [])) ∷
    -- `{ AB [65535] CD }` compiles, `{ AB [65536] CD }` and `{ AB [4294967295] CD }` are not simple
    gives (Byte 0xAB then Jump 65535 (some 65535) then Byte 0xCD then nothing) (compiled (word 0 0xAB 0 ∷ word 3 65535 0 ∷ word 0 0xCD 0 ∷ []) (word 0 0xCD 0 ∷ word 3 65535 0 ∷ word 0 0xAB 0 ∷ [])) ∷
    gives (Byte 0xAB then Jump 65536 (some 65536) then Byte 0xCD then nothing) (refused NotSimple) ∷
    gives (Byte 0xAB then Jump 4294967295 (some 4294967295) then Byte 0xCD then nothing) (refused NotSimple) ∷
    -- `{ (AA ??) ?? }`: a `??` after alternatives does not grow the last branch's jump
    gives (Alternatives ((Byte 0xAA then MaskedByte 0 all then nothing) or neither) then MaskedByte 0 all then nothing) (compiled (word 6 3 0 ∷ word 7 2 0 ∷ word 0 0xAA 0 ∷ word 3 1 0 ∷ word 3 1 0 ∷ []) (word 3 1 0 ∷ word 6 3 0 ∷ word 7 2 0 ∷ word 3 1 0 ∷ word 0 0xAA 0 ∷ [])) ∷
    -- `{ 61 [0-2] 63 }`
    gives (Byte 0x61 then Jump 0 (some 2) then Byte 0x63 then nothing) (compiled (word 0 0x61 0 ∷ word 4 0 2 ∷ word 0 0x63 0 ∷ []) (word 0 0x63 0 ∷ word 4 0 2 ∷ word 0 0x61 0 ∷ [])) ∷
    -- `{ (61 | 62 61) 63 }`: branches keep their order
    gives (Alternatives ((Byte 0x61 then nothing) or (Byte 0x62 then Byte 0x61 then nothing) or neither) then Byte 0x63 then nothing) (compiled (word 6 5 0 ∷ word 7 1 0 ∷ word 0 0x61 0 ∷ word 7 2 0 ∷ word 0 0x62 0 ∷ word 0 0x61 0 ∷ word 0 0x63 0 ∷ []) (word 0 0x63 0 ∷ word 6 5 0 ∷ word 7 1 0 ∷ word 0 0x61 0 ∷ word 7 2 0 ∷ word 0 0x61 0 ∷ word 0 0x62 0 ∷ [])) ∷
    -- `{ (61 [0-2] 62) 63 }`, `{ (61 | (62 | 63)) 64 }`: a range and nested alternatives inside a branch; `{ (61 [2-2] 62) 63 }` is none
    gives (Alternatives ((Byte 0x61 then Jump 0 (some 2) then Byte 0x62 then nothing) or neither) then Byte 0x63 then nothing) (refused NotSimple) ∷
    gives (Alternatives ((Byte 0x61 then nothing) or (Alternatives ((Byte 0x62 then nothing) or (Byte 0x63 then nothing) or neither) then nothing) or neither) then Byte 0x64 then nothing) (refused NotSimple) ∷
    gives (Alternatives ((Byte 0x61 then Jump 2 (some 2) then Byte 0x62 then nothing) or neither) then Byte 0x63 then nothing) (compiled (word 6 4 0 ∷ word 7 3 0 ∷ word 0 0x61 0 ∷ word 3 2 0 ∷ word 0 0x62 0 ∷ word 0 0x63 0 ∷ []) (word 0 0x63 0 ∷ word 6 4 0 ∷ word 7 3 0 ∷ word 0 0x62 0 ∷ word 3 2 0 ∷ word 0 0x61 0 ∷ [])) ∷
    -- `{ 61 [2-] 62 }`: an unbounded jump
    gives (Byte 0x61 then Jump 2 none then Byte 0x62 then nothing) (refused NotSimple) ∷
    -- `{ ~AB ?C ~?C ~C? }`: the other masks
    gives (NotByte 0xAB then MaskedByte 0xC left then NotMaskedByte 0xC left then NotMaskedByte 0xC right then nothing) (compiled (word 2 0xAB 0xFF ∷ word 1 0x0C 0x0F ∷ word 2 0x0C 0x0F ∷ word 2 0xC0 0xF0 ∷ []) (word 2 0xC0 0xF0 ∷ word 2 0x0C 0x0F ∷ word 1 0x0C 0x0F ∷ word 2 0xAB 0xFF ∷ [])) ∷ []

pub samples_hold : Right samples
unfolding samples Right compile flat_token flat_tokens flat_branches simple_token simple short_in short_of short few opening words_of jump_of pair_by add item_of backwards ◌⊕◌ forward_program reverse_program forward_words reverse_words
samples_hold = (refl, (refl, (refl, (refl, (refl, (refl, (refl, (refl, (refl, (refl, (refl, (refl, (refl, (refl, tt))))))))))))))
