-- Each way out gives what the definition gives there. Assumes nothing.
use Rattle.std.proofs.Common.{Ok, Err, sym, ap, ◌∙◌}
use Rattle.std.proofs.lemmas.Result.{err_from_is_err_and}
use Rattle.def_reading.specs.Pieces.{lower_at}
use Rattle.def_reading.proofs.PieceSteps.{range_else, range_at_lem, lower_closed, lower_dash}
use Rattle.digits.specs.Answers.{bounded, ranged}
use Rattle.digits.proofs.range.Goals as goal

pub returns-then-peek-ne91 : goal.returns-then-peek-ne91
returns-then-peek-ne91 c = sym (range_else c.args.text.now c.args.at (λ z. c.if-peek-ne91.true (c.peek.ensures ∙ z)))

pub returns-in_err-from : goal.returns-in_err-from
unfolding lower_at
returns-in_err-from c =
    let p = err_from_is_err_and c.from_residual.result c.from_residual.ensures.1 in
    ap ranged (p.1 ∙ ap Err p.2) ∙ sym (range_at_lem c.args.text.now c.args.at c.skip_blanks-x.result (sym c.peek.ensures ∙ c.if-peek-ne91.false) c.skip_blanks-x.ensures (sym c.bound.ensures ∙ ap bounded c.in_err-from.was))

pub returns-in_default : goal.returns-in_default
unfolding lower_at
returns-in_default c =
    c.dashed_jump.ensures
    ∙ sym (range_at_lem c.args.text.now c.args.at c.skip_blanks-x.result (sym c.peek.ensures ∙ c.if-peek-ne91.false) c.skip_blanks-x.ensures (sym c.bound.ensures ∙ ap bounded (c.in_ok-from.was ∙ ap Ok c.in_default.is)))

pub returns-then-peek-ne93 : goal.returns-then-peek-ne93
returns-then-peek-ne93 c =
    let n = c.in-Some.from in
    c.dashed_jump-then-peek-ne93.ensures
    ∙ sym (range_at_lem c.args.text.now c.args.at c.skip_blanks-x.result (sym c.peek.ensures ∙ c.if-peek-ne91.false) c.skip_blanks-x.ensures (sym c.bound.ensures ∙ ap bounded (c.in_ok-from.was ∙ ap Ok c.in-Some.is))
    ∙ lower_dash c.args.text.now c.args.at c.skip_blanks-x.result n.value n.stop n.end (λ z. c.if-peek-ne93.true (c.peek-2.ensures ∙ z)))

pub returns : goal.returns
returns c =
    let n = c.in-Some.from in
    c.checked_jump.ensures
    ∙ sym (range_at_lem c.args.text.now c.args.at c.skip_blanks-x.result (sym c.peek.ensures ∙ c.if-peek-ne91.false) c.skip_blanks-x.ensures (sym c.bound.ensures ∙ ap bounded (c.in_ok-from.was ∙ ap Ok c.in-Some.is))
    ∙ lower_closed c.args.text.now c.args.at c.skip_blanks-x.result n.value n.stop n.end (sym c.peek-2.ensures ∙ c.if-peek-ne93.false))
