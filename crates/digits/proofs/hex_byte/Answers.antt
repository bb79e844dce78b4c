-- Where no whole byte is, a masked one is tried. Assumes nothing.
use Rattle.std.proofs.Common.{sym, ap, ◌∙◌}
use Rattle.def_reading.proofs.PieceSteps.{hex_byte, hex_masked}
use Rattle.digits.specs.Answers.{spelled}
use Rattle.digits.proofs.hex_byte.Goals as goal

pub returns-in_default : goal.returns-in_default
returns-in_default c = c.masked_byte.ensures ∙ sym (hex_masked c.args.text.now c.args.at (sym c.byte.ensures ∙ ap spelled c.in_default.is))

pub returns : goal.returns
returns c = sym (hex_byte c.args.text.now c.args.at (sym c.byte.ensures ∙ ap spelled c.in-Some.is))
