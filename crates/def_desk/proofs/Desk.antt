-- The P samples hold, as one claim over the list: from the texts, by the definitions alone. Assumes nothing.
use mathlib.Core.Path.{◌≡◌, refl}
use mathlib.Core.Bool.{true}
use Rattle.def_meaning.specs.Tokens
use Rattle.def_meaning.specs.Entries
use Rattle.def_meaning.specs.Programs
use Rattle.def_meaning.specs.Words
use Rattle.def_meaning.specs.Rows
use Rattle.def_reading.specs.Blanks
use Rattle.def_reading.specs.Pieces
use Rattle.def_reading.specs.Lists
use Rattle.def_compiling.specs.ProgramWords
use Rattle.def_compiling.specs.Compiling
use Rattle.def_compiling.specs.Compile
use Rattle.checkdoors.specs.Doors as doors
use Rattle.def_desk.specs.Samples.{samples, every, right, same, refused_at, read_up_to, is_read, forward_of, words_of, found_at}

pub samples_hold : every samples ≡ true
unfolding Blanks.blank Blanks.blanks Blanks.skip Pieces.within Pieces.digit Pieces.two_digits Pieces.byte_at Pieces.one_digit Pieces.masked_at Pieces.hex_at Pieces.hex_token Pieces.negated Pieces.not_at Pieces.decimals Pieces.numeral Pieces.number_at Pieces.checked Pieces.closed_at Pieces.upper_at Pieces.dash_at Pieces.lower_at Pieces.range_at Pieces.jump_token Pieces.jumped Pieces.leaf_at Pieces.◌else◌ Lists.token_or Lists.as_token Lists.bracketed Lists.before Lists.then_more Lists.is_jump Lists.jump_first Lists.jump_last_in Lists.jump_last Lists.at_bound Lists.list_of Lists.beside Lists.then_lists Lists.token_f Lists.more_f Lists.list_f Lists.lists_f Lists.closing Lists.reading Entries.token_count Compile.compile Compile.flat_token Compile.flat_tokens Compile.flat_branches Compile.simple_token Compile.simple Compile.short_in Compile.short_of Compile.short Compile.few ProgramWords.opening ProgramWords.words_of Compiling.jump_of Compiling.pair_by Compiling.add Compiling.item_of Compiling.backwards Compiling.forward_program Compiling.reverse_program Compiling.forward_words Compiling.reverse_words Tokens.◌⊕◌ Words.shape Words.shape_by doors.refusal doors.forward_says Words.sound Words.sound_words Words.sound_branches Words.flat_words Words.is_flat Words.proper Words.proper_by Words.prog Words.items Programs.pass Rows.rest Rows.found Rows.before Rows.◌⊗◌ Rows.rising Rows.lengths Rows.rows Rows.run samples every right same refused_at read_up_to is_read forward_of words_of found_at
samples_hold = refl
