-- Each way out gives what the definition gives there. Assumes nothing.
use Rattle.std.proofs.Common.{◌+◌, get_or, Some, sym, ap, ◌∙◌, arith}
use Rattle.def_reading.specs.Pieces.{digit}
use Rattle.def_reading.proofs.PieceLaws.{here_in, digit_small}
use Rattle.def_reading.proofs.PieceSteps.{byte_none, byte_half, byte_both}
use Rattle.digits.specs.Answers.{value_of, spelled}
use Rattle.digits.proofs.byte.Goals as goal

pub returns-in_err-high : goal.returns-in_err-high
returns-in_err-high c = ap spelled c.from_residual.ensures ∙ sym (byte_none c.args.text.now c.args.at (ap digit (sym c.peek.ensures) ∙ sym c.hex_digit.ensures ∙ ap value_of c.in_err-high.was))

pub overflow_add-at : goal.overflow_add-at
overflow_add-at c =
    omega (arith, here_in c.args.text.now c.args.at (digit_small (get_or c.args.text.now c.args.at 0) c.in_ok-high.high (ap digit (sym c.peek.ensures) ∙ sym c.hex_digit.ensures ∙ ap value_of c.in_ok-high.was)).1)

pub returns-in_err-low : goal.returns-in_err-low
returns-in_err-low c =
    ap spelled c.from_residual-in_err-low.ensures
    ∙ sym (byte_half c.args.text.now c.args.at (ap digit (sym c.peek.ensures) ∙ sym c.hex_digit.ensures ∙ ap value_of c.in_ok-high.was) (ap digit (sym c.peek-2.ensures) ∙ sym c.hex_digit-2.ensures ∙ ap value_of c.in_err-low.was))

pub overflow_mul-high : goal.overflow_mul-high
overflow_mul-high c =
    omega (arith, digit_small (get_or c.args.text.now c.args.at 0) c.in_ok-high.high (ap digit (sym c.peek.ensures) ∙ sym c.hex_digit.ensures ∙ ap value_of c.in_ok-high.was))

pub overflow_add-high : goal.overflow_add-high
overflow_add-high c =
    omega (
      arith,
      digit_small (get_or c.args.text.now c.args.at 0) c.in_ok-high.high (ap digit (sym c.peek.ensures) ∙ sym c.hex_digit.ensures ∙ ap value_of c.in_ok-high.was),
      digit_small (get_or c.args.text.now (c.args.at + 1) 0) c.in_ok-low.low (ap digit (sym c.peek-2.ensures) ∙ sym c.hex_digit-2.ensures ∙ ap value_of c.in_ok-low.was),
    )

pub overflow_add-at-2 : goal.overflow_add-at-2
overflow_add-at-2 c =
    omega (arith, here_in c.args.text.now (c.args.at + 1) (digit_small (get_or c.args.text.now (c.args.at + 1) 0) c.in_ok-low.low (ap digit (sym c.peek-2.ensures) ∙ sym c.hex_digit-2.ensures ∙ ap value_of c.in_ok-low.was)).1)

pub returns : goal.returns
returns c =
    ap (λ r. spelled (Some r)) c.up_to.ensures
    ∙ sym (byte_both c.args.text.now c.args.at (ap digit (sym c.peek.ensures) ∙ sym c.hex_digit.ensures ∙ ap value_of c.in_ok-high.was) (ap digit (sym c.peek-2.ensures) ∙ sym c.hex_digit-2.ensures ∙ ap value_of c.in_ok-low.was))
