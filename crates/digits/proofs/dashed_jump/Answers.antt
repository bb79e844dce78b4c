-- Each way out gives what the definition gives there. Assumes nothing.
use Rattle.std.proofs.Common.{Ok, Err, sym, ap, ◌∙◌}
use Rattle.std.proofs.lemmas.Result.{err_from_is_err_and}
use Rattle.def_reading.specs.Pieces.{upper_at}
use Rattle.def_reading.proofs.PieceSteps.{dash_else, dash_at_lem}
use Rattle.digits.specs.Answers.{bounded, ranged}
use Rattle.digits.proofs.dashed_jump.Goals as goal

pub returns-then-peek-ne45 : goal.returns-then-peek-ne45
returns-then-peek-ne45 c = sym (dash_else c.args.text.now c.args.at c.args.from c.args.x (λ z. c.if-peek-ne45.true (c.peek.ensures ∙ z)))

pub returns-in_err-to : goal.returns-in_err-to
unfolding upper_at
returns-in_err-to c =
    let p = err_from_is_err_and c.from_residual.result c.from_residual.ensures.1 in
    ap ranged (p.1 ∙ ap Err p.2)
    ∙ sym (dash_at_lem c.args.text.now c.args.at c.args.from c.args.x c.skip_blanks-y.result (sym c.peek.ensures ∙ c.if-peek-ne45.false) c.skip_blanks-y.ensures (sym c.bound.ensures ∙ ap bounded c.in_err-to.was))

pub returns-in-Some : goal.returns-in-Some
unfolding upper_at
returns-in-Some c =
    c.closed_jump.ensures
    ∙ sym (dash_at_lem c.args.text.now c.args.at c.args.from c.args.x c.skip_blanks-y.result (sym c.peek.ensures ∙ c.if-peek-ne45.false) c.skip_blanks-y.ensures (sym c.bound.ensures ∙ ap bounded (c.in_ok-to.was ∙ ap Ok c.in-Some.is)))

pub returns-in-None : goal.returns-in-None
unfolding upper_at
returns-in-None c =
    c.closed_jump-in-None.ensures
    ∙ sym (dash_at_lem c.args.text.now c.args.at c.args.from c.args.x c.skip_blanks-y.result (sym c.peek.ensures ∙ c.if-peek-ne45.false) c.skip_blanks-y.ensures (sym c.bound.ensures ∙ ap bounded (c.in_ok-to.was ∙ ap Ok c.in-None.is)))
