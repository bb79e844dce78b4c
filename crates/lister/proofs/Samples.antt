-- 01's example, from the text to the listing, and a refusal of each kind. Assumes nothing: these are claims that compute.
use Rattle.std.proofs.Common.{◌≡◌, refl}
use mathlib.Core.List.{flatten, flat_map}
use Rattle.def_meaning.specs.Tokens
use Rattle.def_meaning.specs.Entries
use Rattle.def_meaning.specs.Words
use Rattle.def_reading.specs.Blanks
use Rattle.def_reading.specs.Pieces
use Rattle.def_reading.specs.Lists
use Rattle.def_compiling.specs.ProgramWords
use Rattle.def_compiling.specs.Compiling
use Rattle.def_compiling.specs.Compile
use Rattle.atoms.specs.Score
use Rattle.def_picking.specs.Literals
use Rattle.def_picking.specs.Runs
use Rattle.def_picking.specs.Candidates
use Rattle.base.specs.Text.{ascii}
use Rattle.printing.specs.Numbers
use Rattle.lines.specs.Lines
use Rattle.lister.specs.Listings
use Rattle.lister.specs.Listings.{listing_of}

pub samples_hold :
    (listing_of (ascii "{ 61 [0-2] 63 }") ≡ ascii "forward 3\nbyte 61\nrange 0 2\nbyte 63\nreverse 3\nbyte 63\nrange 0 2\nbyte 61\nliterals 1 rank 20\n63\n")
    × (listing_of (ascii "{ AB [0] CD }") ≡ ascii "refused 4 at 5\n")
    × (listing_of (ascii "{ AB [65536] CD }") ≡ ascii "refused 12 at 0\n")
    × (listing_of (ascii "{ 0A (B? | ~C? DD) }") ≡ ascii "forward 7\nbyte 0A\nalt 5\nbranch 1\nmask B0 F0\nbranch 2\nnot C0 F0\nbyte DD\nreverse 7\nalt 5\nbranch 1\nmask B0 F0\nbranch 2\nbyte DD\nnot C0 F0\nbyte 0A\nliterals 1 rank 20\n0A\n")
    × (listing_of (ascii "{ (AA [2] BB) }") ≡ ascii "forward 5\nalt 4\nbranch 3\nbyte AA\njump 2\nbyte BB\nreverse 5\nalt 4\nbranch 3\nbyte BB\njump 2\nbyte AA\nliterals refused 19\n")
unfolding Blanks.blank Blanks.blanks Blanks.skip Pieces.within Pieces.digit Pieces.two_digits Pieces.byte_at Pieces.one_digit Pieces.masked_at Pieces.hex_at Pieces.hex_token Pieces.negated Pieces.not_at Pieces.decimals Pieces.numeral Pieces.number_at Pieces.checked Pieces.closed_at Pieces.upper_at Pieces.dash_at Pieces.lower_at Pieces.range_at Pieces.jump_token Pieces.jumped Pieces.leaf_at Pieces.◌else◌ Lists.token_or Lists.as_token Lists.bracketed Lists.before Lists.then_more Lists.is_jump Lists.jump_first Lists.jump_last_in Lists.jump_last Lists.at_bound Lists.list_of Lists.beside Lists.then_lists Lists.token_f Lists.more_f Lists.list_f Lists.lists_f Lists.closing Lists.reading Entries.token_count Compile.compile Compile.flat_token Compile.flat_tokens Compile.flat_branches Compile.simple_token Compile.simple Compile.short_in Compile.short_of Compile.short Compile.few ProgramWords.opening ProgramWords.words_of Compiling.jump_of Compiling.pair_by Compiling.add Compiling.item_of Compiling.backwards Compiling.forward_program Compiling.reverse_program Compiling.forward_words Compiling.reverse_words Tokens.◌⊕◌ Candidates.pick Candidates.taking Candidates.in_pattern Candidates.among_runs Candidates.between Candidates.beats Candidates.least Candidates.lowest Candidates.in_run Candidates.alone_or Candidates.strong Candidates.bytes_of Candidates.byte_of Candidates.best Candidates.rank_of Candidates.against Candidates.widened Candidates.rank Candidates.combined Candidates.counted Candidates.rank_value Candidates.penalty Runs.slices Runs.longer Runs.literal_only Runs.parts Runs.part_before Runs.joins_part Runs.is_literal Runs.runs Runs.first_last Runs.filled_ones Runs.segments Runs.segmented Runs.at_front Runs.plain_alternatives Runs.plain_inside Runs.is_alternatives Literals.taken Literals.passing Literals.kept Literals.is_byte Literals.is_plain Literals.plain_list Literals.plain_lists Literals.before Literals.◌⊗◌ Literals.singles Literals.spelt Literals.combinations Literals.length_in Score.among Score.common Score.byte_score Score.atom_score Score.highest Score.literal_score Numbers.digit Numbers.hex_of Numbers.digits_in Numbers.decimal_of flat_map Lines.number_line Lines.numbers_line Lines.byte_line Lines.mask_line Lines.node_line Lines.program_lines Lines.literal_line Lines.literal_lines Lines.literals_lines flatten Lines.got_lines Lines.programs_lines Lines.refused_line Lines.literals_refused_line Lines.listing Words.shape Words.shape_by Listings.with_room Listings.with_programs Listings.contents Listings.listing_of
samples_hold = (refl, refl, refl, refl, refl)
