-- Each way out gives what the definition gives there. Assumes nothing.
use Prim.Native.Char.{code}
use Rattle.std.proofs.Common.{Result, Ok, Err, sym, ap, ap₂, subst, ◌∙◌, arith}
use Rattle.std.proofs.lemmas.Result.{err_from_is_err_and}
use Rattle.base.specs.declared.Refused.{Refused}
use Rattle.readdoor.specs.declared.Reading.{Reading}
use Rattle.readdoor.specs.Door.{TextSays}
use Rattle.def_reading.specs.Lists.{rejected, reading}
use Rattle.def_reading.proofs.PieceLaws.{here_at, skip_in}
use Rattle.def_reading.proofs.TextLaws.{text_long, text_unopened}
use Rattle.readdoor.proofs.DoorLaws.{text_refused, text_done, text_open, text_missing, text_stopped}
use Rattle.readdoor.proofs.read_text.Goals as goal

pub returns-then-text-gt-TEXT_LIMIT : goal.returns-then-text-gt-TEXT_LIMIT
returns-then-text-gt-TEXT_LIMIT c =
    text_refused (reading c.args.text.now) c.args.pool.now c.args.pool.now c.into.result (text_long c.args.text.now c.if-text-gt-TEXT_LIMIT.true ∙ ap₂ rejected (sym c.into.ensures.0) (sym c.into.ensures.1))

pub returns-then-peek-ne123 : goal.returns-then-peek-ne123
returns-then-peek-ne123 c =
    text_refused (reading c.args.text.now) c.args.pool.now c.args.pool.now c.into-then-peek-ne123.result (text_unopened c.args.text.now c.if-text-gt-TEXT_LIMIT.false (λ z. c.if-peek-ne123.true (c.peek.ensures ∙ z)) ∙ ap₂ rejected (sym c.into-then-peek-ne123.ensures.0) (sym c.into-then-peek-ne123.ensures.1))

pub read_list-requires : goal.read_list-requires
read_list-requires c =
    let i = here_at c.args.text.now 0 (code "{") (sym c.peek.ensures ∙ c.if-peek-ne123.false) (omega arith) in let e = c.skip_blanks.ensures in let j = skip_in c.args.text.now 1 (omega arith) in record { inside = omega arith; short = c.if-text-gt-TEXT_LIMIT.false; shallow = omega arith; few = omega arith; used = omega arith; pool = c.requires }

pub returns-in_err-got : goal.returns-in_err-got
returns-in_err-got c =
    let p = err_from_is_err_and c.from_residual.result c.from_residual.ensures.1 in
    let y = c.in_err-got.field-0.0 in
    subst (λ (r : Result Reading Refused). TextSays (reading c.args.text.now) r c.args.pool.now c.read_list.new.pool) (sym (p.1 ∙ ap Err p.2))
    (text_stopped c.args.text.now c.skip_blanks.result c.if-text-gt-TEXT_LIMIT.false (sym c.peek.ensures ∙ c.if-peek-ne123.false) c.skip_blanks.ensures c.read_list.result c.args.pool.now c.read_list.new.pool c.read_list.ensures
    y.why y.place c.in_err-got.was)

pub returns-in_default : goal.returns-in_default
returns-in_default c =
    text_missing c.args.text.now c.skip_blanks.result c.if-text-gt-TEXT_LIMIT.false (sym c.peek.ensures ∙ c.if-peek-ne123.false) c.skip_blanks.ensures c.read_list.result c.args.pool.now c.read_list.new.pool c.read_list.ensures
    (c.in_ok-got.was ∙ ap Ok c.in_default.is)

pub returns-then-peek-ne125 : goal.returns-then-peek-ne125
returns-then-peek-ne125 c =
    let g = c.in-Some.got in
    text_open c.args.text.now c.skip_blanks.result c.if-text-gt-TEXT_LIMIT.false (sym c.peek.ensures ∙ c.if-peek-ne123.false) c.skip_blanks.ensures c.read_list.result c.args.pool.now c.read_list.new.pool c.read_list.ensures
    g.to.at g.to.words g.to.count g.tokens (c.in_ok-got.was ∙ ap Ok c.in-Some.is) (λ z. c.if-peek-ne125.true (c.peek-2.ensures ∙ z))

pub returns : goal.returns
returns c =
    let g = c.in-Some.got in
    text_done c.args.text.now c.skip_blanks.result c.if-text-gt-TEXT_LIMIT.false (sym c.peek.ensures ∙ c.if-peek-ne123.false) c.skip_blanks.ensures c.read_list.result c.args.pool.now c.read_list.new.pool c.read_list.ensures
    g.to.at g.to.words g.to.count g.tokens c.skip_blanks-2.result (c.in_ok-got.was ∙ ap Ok c.in-Some.is) (sym c.peek-2.ensures ∙ c.if-peek-ne125.false) c.skip_blanks-2.ensures
