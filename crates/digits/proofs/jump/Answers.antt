-- Each way out gives what the definition gives there. Assumes nothing.
use Rattle.std.proofs.Common.{◌≡◌, true, false, ◌&&◌, ltb, Ok, Err, refl, sym, ap, ◌∙◌, ◌≤◌, arith, lt-ltb, le-ltb}
use Rattle.std.proofs.lemmas.Result.{err_from_is_err_and}
use Rattle.def_meaning.specs.Limits.{inner_jump_limit}
use Rattle.def_reading.specs.Pieces.{found, between, jumped}
use Rattle.def_reading.proofs.PieceSteps.{jumped_unbounded, jumped_open, jumped_big, jumped_found}
use Rattle.digits.specs.Answers.{value_of, ranged, leaf_seen}
use Rattle.digits.proofs.jump.Goals.{then-inside-2+else-to-gt-INNER_JUMP_LIMIT, else-inside-2}
use Rattle.digits.proofs.jump.Goals as goal

pub returns-in_err-b : goal.returns-in_err-b
unfolding jumped
returns-in_err-b c =
    let p = err_from_is_err_and c.from_residual.result c.from_residual.ensures.1 in
    ap leaf_seen (p.1 ∙ ap Err p.2) ∙ sym (ap (jumped c.args.inside c.args.at) (sym c.range.ensures ∙ ap ranged c.in_err-b.was))

pub returns-in_default : goal.returns-in_default
unfolding jumped
returns-in_default c = sym (ap (jumped c.args.inside c.args.at) (sym c.range.ensures ∙ ap ranged (c.in_ok-b.was ∙ ap Ok c.in_default.is)))

pub returns-in-None : goal.returns-in-None
returns-in-None c =
    let b = c.in-Some.b in
    sym (ap (jumped c.args.inside c.args.at) (sym c.range.ensures ∙ ap ranged (c.in_ok-b.was ∙ ap Ok c.in-Some.is) ∙ ap (λ u. found (between b.value.from (value_of u)) b.stop b.end) c.in-None.is)
    ∙ jumped_unbounded c.args.at b.value.from b.stop b.end c.args.inside c.if-inside.true)

pub returns-in-None-2 : goal.returns-in-None-2
returns-in-None-2 c =
    let b = c.in-Some.b in
    sym (ap (jumped c.args.inside c.args.at) (sym c.range.ensures ∙ ap ranged (c.in_ok-b.was ∙ ap Ok c.in-Some.is) ∙ ap (λ u. found (between b.value.from (value_of u)) b.stop b.end) c.in-None.is)
    ∙ jumped_open c.args.at b.value.from b.stop b.end c.args.inside c.if-inside.false)

pub returns-in-Some-to : goal.returns-in-Some-to
returns-in-Some-to c =
    let b = c.in-Some.b in
    let d : c.args.inside && ltb inner_jump_limit c.in-Some-to.to ≡ true = rw (c.if-inside-2.true, lt-ltb inner_jump_limit c.in-Some-to.to c.if-to-gt-INNER_JUMP_LIMIT.true) refl in
    sym (ap (jumped c.args.inside c.args.at) (sym c.range.ensures ∙ ap ranged (c.in_ok-b.was ∙ ap Ok c.in-Some.is) ∙ ap (λ u. found (between b.value.from (value_of u)) b.stop b.end) c.in-Some-to.is)
    ∙ jumped_big c.args.at b.value.from b.stop b.end c.args.inside c.in-Some-to.to d)

pub returns-in-Some-2 : goal.returns-in-Some-2
returns-in-Some-2 c =
    let b = c.in-Some.b in
    let d : c.args.inside && ltb inner_jump_limit c.in-Some-2.to ≡ false = elim c.if-inside-2.branch [
      | then-inside-2+else-to-gt-INNER_JUMP_LIMIT w ↦ (let e : c.in-Some-to.to ≡ c.in-Some-2.to = cc in let k : c.in-Some-2.to ≤ inner_jump_limit = omega (arith, w.if-to-gt-INNER_JUMP_LIMIT.false) in rw (w.if-inside-2.true, le-ltb inner_jump_limit c.in-Some-2.to k) refl)
      | else-inside-2 w ↦ rw w.if-inside-2.false refl
    ] in
    ap (λ k. found k b.stop b.end) c.one_jump-value.ensures
    ∙ sym (ap (jumped c.args.inside c.args.at) (sym c.range.ensures ∙ ap ranged (c.in_ok-b.was ∙ ap Ok c.in-Some.is) ∙ ap (λ u. found (between b.value.from (value_of u)) b.stop b.end) c.in-Some-2.is)
    ∙ jumped_found c.args.at b.value.from b.stop b.end c.args.inside c.in-Some-2.to d)
