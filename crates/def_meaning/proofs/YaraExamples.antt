-- The examples of the YARA document, 'Writing YARA rules', hexadecimal strings, and of 01: what a pattern matches and what not.
-- Assumes nothing.
use mathlib.Core.Path.{refl}
use mathlib.Core.Option.{none, some}
use mathlib.Core.List.{[], ◌∷◌, ◌++◌}
use lib.ListN.{replicate}
use Rattle.def_meaning.specs.Tokens.{left, right, all, Tokens, Byte, NotByte, MaskedByte, NotMaskedByte, Jump, Alternatives, nothing, ◌then◌, neither, ◌or◌, Spans}
use Rattle.def_meaning.proofs.TokenTest.{spanned, tested, no_span}

-- { E2 34 ?? C8 A? FB }: wild-cards are nibble-wise
abbrev wildcards : Tokens
wildcards = Byte 0xE2 then Byte 0x34 then MaskedByte 0 all then Byte 0xC8 then MaskedByte 0xA right then Byte 0xFB then nothing

pub wildcards_match : Spans wildcards (0xE2 ∷ 0x34 ∷ 0x00 ∷ 0xC8 ∷ 0xA7 ∷ 0xFB ∷ [])
unfolding spanned
wildcards_match = tested _ _ refl

pub wildcards_nibble : Spans wildcards (0xE2 ∷ 0x34 ∷ 0x00 ∷ 0xC8 ∷ 0xB7 ∷ 0xFB ∷ []) → ⊥
unfolding spanned
wildcards_nibble h = no_span _ _ refl h

pub wildcards_length : Spans wildcards (0xE2 ∷ 0x34 ∷ 0xC8 ∷ 0xA7 ∷ 0xFB ∷ []) → ⊥
unfolding spanned
wildcards_length h = no_span _ _ refl h

-- ?3, the other nibble
abbrev low : Tokens
low = MaskedByte 3 left then nothing

pub low_match : Spans low (0xC3 ∷ [])
unfolding spanned
low_match = tested _ _ refl

pub low_nibble : Spans low (0x3C ∷ []) → ⊥
unfolding spanned
low_nibble h = no_span _ _ refl h

-- { F4 23 [4-6] 62 B4 }: any arbitrary sequence from 4 to 6 bytes can occupy the position of the jump
abbrev jump : Tokens
jump = Byte 0xF4 then Byte 0x23 then Jump 4 (some 6) then Byte 0x62 then Byte 0xB4 then nothing

pub jump_four : Spans jump (0xF4 ∷ 0x23 ∷ 0x01 ∷ 0x02 ∷ 0x03 ∷ 0x04 ∷ 0x62 ∷ 0xB4 ∷ [])
unfolding spanned
jump_four = tested _ _ refl

pub jump_five : Spans jump (0xF4 ∷ 0x23 ∷ 0x00 ∷ 0x00 ∷ 0x00 ∷ 0x00 ∷ 0x00 ∷ 0x62 ∷ 0xB4 ∷ [])
unfolding spanned
jump_five = tested _ _ refl

pub jump_six : Spans jump (0xF4 ∷ 0x23 ∷ 0x15 ∷ 0x82 ∷ 0xA3 ∷ 0x04 ∷ 0x45 ∷ 0x22 ∷ 0x62 ∷ 0xB4 ∷ [])
unfolding spanned
jump_six = tested _ _ refl

pub jump_three : Spans jump (0xF4 ∷ 0x23 ∷ 0x01 ∷ 0x02 ∷ 0x03 ∷ 0x62 ∷ 0xB4 ∷ []) → ⊥
unfolding spanned
jump_three h = no_span _ _ refl h

pub jump_seven : Spans jump (0xF4 ∷ 0x23 ∷ 0x01 ∷ 0x02 ∷ 0x03 ∷ 0x04 ∷ 0x05 ∷ 0x06 ∷ 0x07 ∷ 0x62 ∷ 0xB4 ∷ []) → ⊥
unfolding spanned
jump_seven h = no_span _ _ refl h

-- both bounds belong to the jump: [4-16] takes sixteen bytes, and no more
abbrev wide : Tokens
wide = Byte 0xF4 then Jump 4 (some 16) then Byte 0xB4 then nothing

pub wide_sixteen : Spans wide (0xF4 ∷ (replicate 16 0x00 ++ (0xB4 ∷ [])))
unfolding spanned
wide_sixteen = tested _ _ refl

pub wide_seventeen : Spans wide (0xF4 ∷ (replicate 17 0x00 ++ (0xB4 ∷ []))) → ⊥
unfolding spanned
wide_seventeen h = no_span _ _ refl h

-- FE 39 45 [0-8] 89 00
abbrev nought : Tokens
nought = Byte 0xFE then Byte 0x39 then Byte 0x45 then Jump 0 (some 8) then Byte 0x89 then Byte 0x00 then nothing

pub nought_match : Spans nought (0xFE ∷ 0x39 ∷ 0x45 ∷ 0x89 ∷ 0x00 ∷ [])
unfolding spanned
nought_match = tested _ _ refl

-- FE 39 45 [6] 89 00 is equivalent to FE 39 45 [6-6] 89 00 and to FE 39 45 ?? ?? ?? ?? ?? ?? 89 00
abbrev six : Tokens
six = Byte 0xFE then Byte 0x39 then Byte 0x45 then Jump 6 (some 6) then Byte 0x89 then Byte 0x00 then nothing

abbrev six_wildcards : Tokens
six_wildcards = Byte 0xFE then Byte 0x39 then Byte 0x45 then MaskedByte 0 all then MaskedByte 0 all then MaskedByte 0 all then MaskedByte 0 all then MaskedByte 0 all then MaskedByte 0 all then Byte 0x89 then Byte 0x00 then nothing

pub six_match : Spans six (0xFE ∷ 0x39 ∷ 0x45 ∷ 0x01 ∷ 0x02 ∷ 0x03 ∷ 0x04 ∷ 0x05 ∷ 0x06 ∷ 0x89 ∷ 0x00 ∷ [])
unfolding spanned
six_match = tested _ _ refl

pub six_wildcards_match : Spans six_wildcards (0xFE ∷ 0x39 ∷ 0x45 ∷ 0x01 ∷ 0x02 ∷ 0x03 ∷ 0x04 ∷ 0x05 ∷ 0x06 ∷ 0x89 ∷ 0x00 ∷ [])
unfolding spanned
six_wildcards_match = tested _ _ refl

pub six_five : Spans six (0xFE ∷ 0x39 ∷ 0x45 ∷ 0x01 ∷ 0x02 ∷ 0x03 ∷ 0x04 ∷ 0x05 ∷ 0x89 ∷ 0x00 ∷ []) → ⊥
unfolding spanned
six_five h = no_span _ _ refl h

pub six_wildcards_five : Spans six_wildcards (0xFE ∷ 0x39 ∷ 0x45 ∷ 0x01 ∷ 0x02 ∷ 0x03 ∷ 0x04 ∷ 0x05 ∷ 0x89 ∷ 0x00 ∷ []) → ⊥
unfolding spanned
six_wildcards_five h = no_span _ _ refl h

-- FE 39 45 [10-] 89 00 means [10-infinite], FE 39 45 [-] 89 00 means [0-infinite]
abbrev from_ten : Tokens
from_ten = Byte 0xFE then Byte 0x39 then Byte 0x45 then Jump 10 none then Byte 0x89 then Byte 0x00 then nothing

pub from_ten_forty : Spans from_ten (0xFE ∷ 0x39 ∷ 0x45 ∷ (replicate 40 0xFF ++ (0x89 ∷ 0x00 ∷ [])))
unfolding spanned
from_ten_forty = tested _ _ refl

pub from_ten_nine : Spans from_ten (0xFE ∷ 0x39 ∷ 0x45 ∷ (replicate 9 0xFF ++ (0x89 ∷ 0x00 ∷ []))) → ⊥
unfolding spanned
from_ten_nine h = no_span _ _ refl h

abbrev from_none : Tokens
from_none = Byte 0xFE then Byte 0x39 then Byte 0x45 then Jump 0 none then Byte 0x89 then Byte 0x00 then nothing

pub from_none_none : Spans from_none (0xFE ∷ 0x39 ∷ 0x45 ∷ 0x89 ∷ 0x00 ∷ [])
unfolding spanned
from_none_none = tested _ _ refl

-- { F4 23 ( 62 B4 | 56 ) 45 } will match any file containing F42362B445 or F4235645
abbrev two : Tokens
two = Byte 0xF4 then Byte 0x23 then Alternatives ((Byte 0x62 then Byte 0xB4 then nothing) or (Byte 0x56 then nothing) or neither) then Byte 0x45 then nothing

pub two_first : Spans two (0xF4 ∷ 0x23 ∷ 0x62 ∷ 0xB4 ∷ 0x45 ∷ [])
unfolding spanned
two_first = tested _ _ refl

pub two_second : Spans two (0xF4 ∷ 0x23 ∷ 0x56 ∷ 0x45 ∷ [])
unfolding spanned
two_second = tested _ _ refl

pub two_both : Spans two (0xF4 ∷ 0x23 ∷ 0x62 ∷ 0xB4 ∷ 0x56 ∷ 0x45 ∷ []) → ⊥
unfolding spanned
two_both h = no_span _ _ refl h

pub two_none : Spans two (0xF4 ∷ 0x23 ∷ 0x45 ∷ []) → ⊥
unfolding spanned
two_none h = no_span _ _ refl h

-- { F4 23 ( 62 B4 | 56 | 45 ?? 67 ) 45 }: wild-cards are allowed as part of alternative sequences
abbrev three : Tokens
three = Byte 0xF4 then Byte 0x23 then Alternatives ((Byte 0x62 then Byte 0xB4 then nothing) or (Byte 0x56 then nothing) or (Byte 0x45 then MaskedByte 0 all then Byte 0x67 then nothing) or neither) then Byte 0x45 then nothing

pub three_third : Spans three (0xF4 ∷ 0x23 ∷ 0x45 ∷ 0x99 ∷ 0x67 ∷ 0x45 ∷ [])
unfolding spanned
three_third = tested _ _ refl

pub three_cut : Spans three (0xF4 ∷ 0x23 ∷ 0x45 ∷ 0x67 ∷ 0x45 ∷ []) → ⊥
unfolding spanned
three_cut h = no_span _ _ refl h

-- 01's `~`: { ~AB ~?3 ~C? }
abbrev negated : Tokens
negated = NotByte 0xAB then NotMaskedByte 3 left then NotMaskedByte 0xC right then nothing

pub negated_match : Spans negated (0xAC ∷ 0x34 ∷ 0xD3 ∷ [])
unfolding spanned
negated_match = tested _ _ refl

pub negated_byte : Spans negated (0xAB ∷ 0x34 ∷ 0xD3 ∷ []) → ⊥
unfolding spanned
negated_byte h = no_span _ _ refl h

pub negated_low : Spans negated (0xAC ∷ 0x43 ∷ 0xD3 ∷ []) → ⊥
unfolding spanned
negated_low h = no_span _ _ refl h

pub negated_high : Spans negated (0xAC ∷ 0x34 ∷ 0xC3 ∷ []) → ⊥
unfolding spanned
negated_high h = no_span _ _ refl h

pub negated_nothing : Spans negated (0x34 ∷ 0xD3 ∷ []) → ⊥
unfolding spanned
negated_nothing h = no_span _ _ refl h

-- a bracket within alternatives: { ( 61 | ( 62 | 63 64 ) 65 ) }
abbrev nested : Tokens
nested = Alternatives ((Byte 0x61 then nothing) or (Alternatives ((Byte 0x62 then nothing) or (Byte 0x63 then Byte 0x64 then nothing) or neither) then Byte 0x65 then nothing) or neither) then nothing

pub nested_match : Spans nested (0x63 ∷ 0x64 ∷ 0x65 ∷ [])
unfolding spanned
nested_match = tested _ _ refl

pub nested_cut : Spans nested (0x63 ∷ 0x64 ∷ []) → ⊥
unfolding spanned
nested_cut h = no_span _ _ refl h
