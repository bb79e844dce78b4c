-- 01's example at the level of lines, and a line of each other kind. Assumes nothing: these are claims that compute.
-- To be believed: nothing.
use Rattle.std.specs.Prelude.{◌≡◌, refl}
use mathlib.Core.List.{[], ◌∷◌, ◌++◌, flat_map}
use Rattle.def_meaning.specs.NodeWords.{word}
use Rattle.def_meaning.specs.Words.{shape, shape_by}
use Rattle.base.specs.Text.{ascii}
use Rattle.printing.specs.Laid.{laid}
use Rattle.printing.specs.Numbers.{digit, hex_of, digits_in, decimal_of}
use Rattle.lines.specs.Lines.{number_line, numbers_line, byte_line, mask_line, node_line, program_lines, literal_line, literal_lines, literals_lines, refused_line, literals_refused_line, got, got_lines, compiled, programs_lines, listing}

-- `{ 61 [0-2] 63 }`
example : listing (compiled (word 0 0x61 0 ∷ word 4 0 2 ∷ word 0 0x63 0 ∷ []) (word 0 0x63 0 ∷ word 4 0 2 ∷ word 0 0x61 0 ∷ []) (got 20 ((0x63 ∷ []) ∷ [])))
    ≡ ascii "forward 3\nbyte 61\nrange 0 2\nbyte 63\nreverse 3\nbyte 63\nrange 0 2\nbyte 61\nliterals 1 rank 20\n63\n"
unfolding digit hex_of digits_in decimal_of flat_map number_line numbers_line byte_line mask_line node_line program_lines literal_line literal_lines literals_lines got_lines programs_lines listing shape shape_by
example = refl

other_words : flat_map node_line (word 1 0xA0 0xF0 ∷ word 2 0x0B 0x0F ∷ word 3 65535 0 ∷ word 4 256 65535 ∷ word 5 0 0 ∷ word 6 1000 0 ∷ word 7 10 0 ∷ [])
    ≡ ascii "mask A0 F0\nnot 0B 0F\njump 65535\nrange 256 65535\ndot\nalt 1000\nbranch 10\n"
unfolding digit hex_of digits_in decimal_of flat_map number_line numbers_line byte_line mask_line node_line shape shape_by
other_words = refl

refusals : refused_line 6 4096 ++ literals_refused_line 17 ≡ ascii "refused 6 at 4096\nliterals refused 17\n"
unfolding digit digits_in decimal_of number_line numbers_line refused_line literals_refused_line
refusals = refl

-- what does not fit is cut at the buffer's end
cut : laid (ascii "......") 3 (ascii "dot\n") ≡ ascii "...dot"
unfolding laid
cut = refl
