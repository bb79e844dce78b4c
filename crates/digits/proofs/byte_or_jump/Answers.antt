-- Each way out gives what the definition gives there. Assumes nothing.
use Rattle.std.proofs.Common.{sym, ap, ◌∙◌}
use Rattle.def_reading.specs.Pieces.{hex_token, range_at, jumped, ◌else◌}
use Rattle.def_reading.proofs.PieceSteps.{byte_else}
use Rattle.digits.specs.Answers.{spelled}
use Rattle.digits.proofs.byte_or_jump.Goals as goal

pub returns-in_default : goal.returns-in_default
unfolding hex_token ◌else◌
returns-in_default c =
    c.jump.ensures ∙ sym (byte_else c.args.text.now c.args.at (sym c.hex_byte.ensures ∙ ap spelled c.in_default.is) (jumped c.args.inside c.args.at (range_at c.args.text.now c.args.at)))

pub returns : goal.returns
unfolding ◌else◌
returns c =
    let h = c.in-Some.h in
    sym (byte_else c.args.text.now c.args.at (sym c.hex_byte.ensures ∙ ap spelled c.in-Some.is) (jumped c.args.inside c.args.at (range_at c.args.text.now c.args.at))
    ∙ ap (λ x. x else jumped c.args.inside c.args.at (range_at c.args.text.now c.args.at)) (c.into.ensures h.stop h.end))
