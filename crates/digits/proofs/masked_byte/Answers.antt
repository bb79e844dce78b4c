-- Each way out gives what the definition gives there. Assumes nothing.
use Rattle.std.proofs.Common.{get_or, Some, sym, ap, ◌∙◌, arith}
use Rattle.def_reading.specs.Pieces.{digit}
use Rattle.def_reading.proofs.PieceLaws.{here_in, digit_small}
use Rattle.def_reading.proofs.PieceSteps.{masked_all, masked_left, masked_no_left, masked_right, masked_no_right, masked_other}
use Rattle.digits.specs.Answers.{value_of, spelled}
use Rattle.digits.proofs.masked_byte.Goals as goal

pub returns-then-second-eq63 : goal.returns-then-second-eq63
returns-then-second-eq63 c =
    ap (λ r. spelled (Some r)) c.up_to.ensures ∙ sym (masked_all c.args.text.now c.args.at (sym c.peek-first.ensures ∙ c.if-first-eq63.true) (sym c.peek-second.ensures ∙ c.if-second-eq63.true))

pub returns-in_err-low : goal.returns-in_err-low
returns-in_err-low c =
    ap spelled c.from_residual.ensures
    ∙ sym (masked_no_left c.args.text.now c.args.at (sym c.peek-first.ensures ∙ c.if-first-eq63.true) (λ z. c.if-second-eq63.false (c.peek-second.ensures ∙ z)) (ap digit (sym c.peek-second.ensures) ∙ sym c.hex_digit.ensures ∙ ap value_of c.in_err-low.was))

pub returns-then-first-eq63 : goal.returns-then-first-eq63
returns-then-first-eq63 c =
    ap (λ r. spelled (Some r)) c.up_to-then-first-eq63.ensures
    ∙ sym (masked_left c.args.text.now c.args.at (sym c.peek-first.ensures ∙ c.if-first-eq63.true) (λ z. c.if-second-eq63.false (c.peek-second.ensures ∙ z)) (ap digit (sym c.peek-second.ensures) ∙ sym c.hex_digit.ensures ∙ ap value_of c.in_ok-low.was))

pub returns-in_err-high : goal.returns-in_err-high
returns-in_err-high c =
    ap spelled c.from_residual-in_err-high.ensures
    ∙ sym (masked_no_right c.args.text.now c.args.at (λ z. c.if-first-eq63.false (c.peek-first.ensures ∙ z)) (ap digit (sym c.peek-first.ensures) ∙ sym c.hex_digit-2.ensures ∙ ap value_of c.in_err-high.was))

pub overflow_add-at-2 : goal.overflow_add-at-2
overflow_add-at-2 c =
    omega (arith, here_in c.args.text.now c.args.at (digit_small (get_or c.args.text.now c.args.at 0) c.in_ok-high.high (ap digit (sym c.peek-first.ensures) ∙ sym c.hex_digit-2.ensures ∙ ap value_of c.in_ok-high.was)).1)

pub returns-then-peek-ne63 : goal.returns-then-peek-ne63
returns-then-peek-ne63 c =
    sym (masked_other c.args.text.now c.args.at (λ z. c.if-first-eq63.false (c.peek-first.ensures ∙ z)) (λ z. c.if-peek-ne63.true (c.peek.ensures ∙ z)))

pub returns : goal.returns
returns c =
    ap (λ r. spelled (Some r)) c.up_to-2.ensures
    ∙ sym (masked_right c.args.text.now c.args.at (λ z. c.if-first-eq63.false (c.peek-first.ensures ∙ z)) (ap digit (sym c.peek-first.ensures) ∙ sym c.hex_digit-2.ensures ∙ ap value_of c.in_ok-high.was) (sym c.peek.ensures ∙ c.if-peek-ne63.false))
