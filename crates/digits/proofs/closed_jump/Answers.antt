-- Each way out gives what the definition gives there. Assumes nothing.
use Rattle.std.proofs.Common.{sym, ◌∙◌}
use Rattle.def_reading.proofs.PieceSteps.{closed_else, closed_at_lem}
use Rattle.digits.specs.Answers.{value_of}
use Rattle.digits.proofs.closed_jump.Goals as goal

pub returns-then-peek-ne93 : goal.returns-then-peek-ne93
returns-then-peek-ne93 c =
    sym (closed_else c.args.text.now c.args.at c.args.bounds.from (value_of c.args.bounds.to) c.args.x (λ z. c.if-peek-ne93.true (c.peek.ensures ∙ z)))

pub returns : goal.returns
returns c =
    c.checked_jump.ensures ∙ sym (closed_at_lem c.args.text.now c.args.at c.args.bounds.from (value_of c.args.bounds.to) c.args.x (sym c.peek.ensures ∙ c.if-peek-ne93.false))
