-- Each way out gives what the definition gives there. Assumes nothing.
use Rattle.std.proofs.Common.{inl, inr, sym, ap, ◌∙◌}
use Rattle.def_reading.specs.Pieces.{found, negated}
use Rattle.def_reading.proofs.PieceSteps.{not_else, not_hex}
use Rattle.digits.specs.declared.HexByte.TheVariants.{Masked}
use Rattle.digits.specs.Answers.{hex_of, spelled}
use Rattle.digits.proofs.not_token.Goals as goal

pub returns-then-peek-ne126 : goal.returns-then-peek-ne126
returns-then-peek-ne126 c = sym (not_else c.args.text.now c.args.at (λ z. c.if-peek-ne126.true (c.peek.ensures ∙ z)))

pub returns-in_default : goal.returns-in_default
unfolding negated
returns-in_default c = sym (not_hex c.args.text.now c.args.at (sym c.peek.ensures ∙ c.if-peek-ne126.false) (sym c.hex_byte.ensures ∙ ap spelled c.in_default.is))

pub returns-in-Whole : goal.returns-in-Whole
unfolding negated
returns-in-Whole c =
    let h = c.in-Some.h in
    sym (not_hex c.args.text.now c.args.at (sym c.peek.ensures ∙ c.if-peek-ne126.false) (sym c.hex_byte.ensures ∙ ap spelled c.in-Some.is ∙ ap (λ v. found (hex_of v) h.stop h.end) c.in-Whole.is))

pub returns-in-All : goal.returns-in-All
unfolding negated
returns-in-All c =
    let h = c.in-Some.h in
    sym (not_hex c.args.text.now c.args.at (sym c.peek.ensures ∙ c.if-peek-ne126.false)
    (sym c.hex_byte.ensures ∙ ap spelled c.in-Some.is ∙ ap (λ v. found (hex_of v) h.stop h.end) (c.in-Masked.is ∙ ap (Masked c.in-Masked.v) c.in-All.is)))

pub returns-in-Left : goal.returns-in-Left
unfolding negated
returns-in-Left c =
    let h = c.in-Some.h in
    elim c.in-Left.is [
      | inl e ↦ rw e (sym (not_hex c.args.text.now c.args.at (sym c.peek.ensures ∙ c.if-peek-ne126.false)
          (sym c.hex_byte.ensures ∙ ap spelled c.in-Some.is ∙ ap (λ v. found (hex_of v) h.stop h.end) (c.in-Masked.is ∙ ap (Masked c.in-Masked.v) e))))
      | inr e ↦ rw e (sym (not_hex c.args.text.now c.args.at (sym c.peek.ensures ∙ c.if-peek-ne126.false)
          (sym c.hex_byte.ensures ∙ ap spelled c.in-Some.is ∙ ap (λ v. found (hex_of v) h.stop h.end) (c.in-Masked.is ∙ ap (Masked c.in-Masked.v) e))))
    ]
