-- 01's samples and false friends on literals, and edges of its rules, computed from the definitions. Assumes nothing.
use mathlib.Core.Path.{◌≡◌, refl}
use mathlib.Core.Option.{some}
use mathlib.Core.List.{List, [], ◌∷◌, ◌++◌}
use Prim.Native.Nat.{ℕ, zero, suc, ◌+◌}
use lib.ListN.{length}
use Rattle.base.specs.declared.Refusal.TheVariants.{TooManyLiterals, NotPlain}
use Rattle.def_meaning.specs.Tokens.{left, all, Lists, Byte, NotByte, MaskedByte, Jump, Alternatives, nothing, ◌then◌, neither, ◌or◌, ◌⊕◌}
use Rattle.atoms.specs.Score.{among as isAmong, common, byte_score, atom_score, highest, literal_score}
use Rattle.def_picking.specs.Literals
use Rattle.def_picking.specs.Runs
use Rattle.def_picking.specs.Candidates
use Rattle.def_picking.specs.Candidates.{Picked, pick, picked, unpicked}

-- each of the n bytes b, b + 16, b + 32, .. between the same bytes
abbrev halves : ℕ → ℕ → List ℕ → List ℕ → List (List ℕ)
halves zero b s e = []
halves (suc n) b s e = (s ++ (b ∷ e)) ∷ halves n (b + 16) s e

-- the rank and the count of literals alone
abbrev brief : Picked → ℕ × ℕ
brief (picked n ls) = (n, length ls)
brief (unpicked r) = (0, 0)

-- n branches of one byte
abbrev branches : ℕ → Lists
branches zero = neither
branches (suc n) = (Byte 0x41 then nothing) or branches n

pub samples_hold :
    -- `{ 01 02 ?3 04 }`: rank 70, 16 literals
    (pick (Byte 1 then Byte 2 then MaskedByte 3 left then Byte 4 then nothing) ≡ picked 70 (halves 16 3 (1 ∷ 2 ∷ []) (4 ∷ [])))
    -- `{ ?1 (AA | BB CC) }`: rank 30, 32 literals, all with AA first
    × (pick (MaskedByte 1 left then Alternatives ((Byte 0xAA then nothing) or (Byte 0xBB then Byte 0xCC then nothing) or neither) then nothing)
    ≡ picked 30 (halves 16 1 [] (0xAA ∷ []) ++ halves 16 1 [] (0xBB ∷ 0xCC ∷ [])))
    -- `{ (AA|BB) }` has 1 combination, so no penalty, yet 2 literals
    × (pick (Alternatives ((Byte 0xAA then nothing) or (Byte 0xBB then nothing) or neither) then nothing) ≡ picked 20 ((0xAA ∷ []) ∷ (0xBB ∷ []) ∷ []))
    -- `{ 61 [0-2] 63 }`: equal ranks and lengths, and the second segment comes first
    × (pick (Byte 0x61 then Jump 0 (some 2) then Byte 0x63 then nothing) ≡ picked 20 ((0x63 ∷ []) ∷ []))
    -- `{ 00 00 ?? 41 }`: equal ranks, and the longer shortest literal wins, though its run comes last
    × (pick (Byte 0 then Byte 0 then MaskedByte 0 all then Byte 0x41 then nothing) ≡ picked 20 ((0 ∷ 0 ∷ []) ∷ []))
    -- `{ 41 42 ?? 00 00 00 }`: the higher rank wins, though its literal is shorter and its run comes last
    × (pick (Byte 0x41 then Byte 0x42 then MaskedByte 0 all then Byte 0 then Byte 0 then Byte 0 then nothing) ≡ picked 40 ((0x41 ∷ 0x42 ∷ []) ∷ []))
    -- `{ AA BB CC [2] DD EE FF ?? 11 22 }`
    × (pick (Byte 0xAA then Byte 0xBB then Byte 0xCC then Jump 2 (some 2) then Byte 0xDD then Byte 0xEE then Byte 0xFF then MaskedByte 0 all then Byte 0x11 then Byte 0x22 then nothing)
    ≡ picked 50 ((0xDD ∷ 0xEE ∷ 0xFF ∷ []) ∷ []))
    -- `{ 01 (02) 03 04 }`: a list alone in brackets is no literal part, and adds no combination
    × (pick (Byte 1 then Alternatives ((Byte 2 then nothing) or neither) then Byte 3 then Byte 4 then nothing) ≡ picked 80 ((1 ∷ 2 ∷ 3 ∷ 4 ∷ []) ∷ []))
    -- `{ (AA|BB CC) DD ?1 (EE FF|11) 22 33 44 }`: the last two parts win
    × (pick (Alternatives ((Byte 0xAA then nothing) or (Byte 0xBB then Byte 0xCC then nothing) or neither) then Byte 0xDD then MaskedByte 1 left
    then Alternatives ((Byte 0xEE then Byte 0xFF then nothing) or (Byte 0x11 then nothing) or neither) then Byte 0x22 then Byte 0x33 then Byte 0x44 then nothing)
    ≡ picked 70 ((0xEE ∷ 0xFF ∷ 0x22 ∷ 0x33 ∷ 0x44 ∷ []) ∷ (0x11 ∷ 0x22 ∷ 0x33 ∷ 0x44 ∷ []) ∷ []))
    -- the first literal part of score 80 wins alone
    × (pick (Byte 1 then Byte 2 then Byte 3 then Byte 4 then MaskedByte 5 left then Byte 6 then Byte 7 then Byte 8 then Byte 9 then nothing)
    ≡ picked 80 ((1 ∷ 2 ∷ 3 ∷ 4 ∷ []) ∷ []))
    -- `{ ?1 ?2 ?3 }`: the first of equal ranks
    × (pick (MaskedByte 1 left then MaskedByte 2 left then MaskedByte 3 left then nothing) ≡ picked 10 (halves 16 1 [] []))
    -- `{ ~AA }` and `{ (?1|?2) }`: 255 and 256 combinations, less 40, not below 0
    × (brief (pick (NotByte 0xAA then nothing)) ≡ (0, 255))
    × (pick (Alternatives ((MaskedByte 1 left then nothing) or (MaskedByte 2 left then nothing) or neither) then nothing)
    ≡ picked 0 (halves 16 1 [] [] ++ halves 16 2 [] []))
    -- `{ ?? }`: nothing is ranked
    × (pick (MaskedByte 0 all then nothing) ≡ picked 0 [])
    -- `{ (AA [2] BB) }` and `{ (AA|(BB)) }`: 19; 16 branches beside 17 of one byte: 272 literals, 17
    × (pick (Alternatives ((Byte 0xAA then Jump 2 (some 2) then Byte 0xBB then nothing) or neither) then nothing) ≡ unpicked NotPlain)
    × (pick (Alternatives ((Byte 0xAA then nothing) or (Alternatives ((Byte 0xBB then nothing) or neither) then nothing) or neither) then nothing)
    ≡ unpicked NotPlain)
    × (pick (Alternatives (branches 16) then Alternatives (branches 17) then nothing) ≡ unpicked TooManyLiterals)
    × (brief (pick (Alternatives (branches 16) then Alternatives (branches 16) then nothing)) ≡ (40, 256))
    -- `{ 00 00 00 00 ?1 02 03 }`: the first part's length does not count
    × (pick (Byte 0 then Byte 0 then Byte 0 then Byte 0 then MaskedByte 1 left then Byte 2 then Byte 3 then nothing)
    ≡ picked 60 (halves 16 1 (0 ∷ 0 ∷ 0 ∷ 0 ∷ []) (2 ∷ 3 ∷ [])))
    -- `{ 41 42 (11 00 00 00 | 00 00 00 12) 43 44 }`: the slice keeps its rank when it takes in 43 44
    × (pick (Byte 0x41 then Byte 0x42 then Alternatives ((Byte 0x11 then Byte 0 then Byte 0 then Byte 0 then nothing) or (Byte 0 then Byte 0 then Byte 0 then Byte 0x12 then nothing) or neither)
    then Byte 0x43 then Byte 0x44 then nothing)
    ≡ picked 60 ((0x41 ∷ 0x42 ∷ 0x11 ∷ 0 ∷ 0 ∷ 0 ∷ 0x43 ∷ 0x44 ∷ []) ∷ (0x41 ∷ 0x42 ∷ 0 ∷ 0 ∷ 0 ∷ 0x12 ∷ 0x43 ∷ 0x44 ∷ []) ∷ []))
unfolding Candidates.pick Candidates.taking Candidates.in_pattern Candidates.among_runs Candidates.between Candidates.beats Candidates.least Candidates.lowest Candidates.in_run Candidates.alone_or Candidates.strong Candidates.bytes_of Candidates.byte_of Candidates.best Candidates.rank_of Candidates.against Candidates.widened Candidates.rank Candidates.combined Candidates.counted Candidates.rank_value Candidates.penalty Runs.slices Runs.longer Runs.literal_only Runs.parts Runs.part_before Runs.joins_part Runs.is_literal Runs.runs Runs.first_last Runs.filled_ones Runs.segments Runs.segmented Runs.at_front Runs.plain_alternatives Runs.plain_inside Runs.is_alternatives Literals.taken Literals.passing Literals.kept Literals.is_byte Literals.is_plain Literals.plain_list Literals.plain_lists Literals.before Literals.◌⊗◌ Literals.singles Literals.spelt Literals.combinations Literals.length_in ◌⊕◌ isAmong common byte_score atom_score highest literal_score
samples_hold = (refl, refl, refl, refl, refl, refl, refl, refl, refl, refl, refl, refl, refl, refl, refl, refl, refl, refl, refl, refl)
