-- Each way out gives what the definition gives there. Assumes nothing.
use Rattle.std.proofs.Common.{Ok, Err, sym, ap, ◌∙◌}
use Rattle.std.proofs.lemmas.Result.{err_from_is_err_and}
use Rattle.def_reading.specs.Pieces.{◌else◌}
use Rattle.def_reading.proofs.PieceSteps.{leaf_not}
use Rattle.digits.specs.Answers.{leaf_seen}
use Rattle.digits.proofs.leaf_token.Goals as goal

pub returns-in_err-not : goal.returns-in_err-not
unfolding ◌else◌
returns-in_err-not c =
    let p = err_from_is_err_and c.from_residual.result c.from_residual.ensures.1 in
    ap leaf_seen (p.1 ∙ ap Err p.2) ∙ sym (leaf_not c.args.text.now c.args.at c.args.inside (sym c.not_token.ensures ∙ ap leaf_seen c.in_err-not.was))

pub returns-in_default : goal.returns-in_default
unfolding ◌else◌
returns-in_default c =
    c.byte_or_jump.ensures ∙ sym (leaf_not c.args.text.now c.args.at c.args.inside (sym c.not_token.ensures ∙ ap leaf_seen (c.in_ok-not.was ∙ ap Ok c.in_default.is)))

pub returns : goal.returns
unfolding ◌else◌
returns c = sym (leaf_not c.args.text.now c.args.at c.args.inside (sym c.not_token.ensures ∙ ap leaf_seen (c.in_ok-not.was ∙ ap Ok c.in-Some.is)))
