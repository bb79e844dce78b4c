-- `checkdoors::left_forward` meets its contract. Assumes nothing.
use Rattle.std.proofs.Common.{sym, ◌∙◌, length, arith}
use Rattle.checkdoors.proofs.DoorLaws as law
use Rattle.checkdoors.proofs.left_forward.Goals as goal

pub returns-then-is_err : goal.returns-then-is_err
returns-then-is_err c =
    let a = c.args in
    let no = law.some_error c.admit.result (sym c.is_err.ensures.value ∙ c.if-is_err.true) in
    let why = no.1 ∙ c.admit.ensures in
    record { left = law.left_refused a.words.now a.hay.now a.start a.end _ why; lies = law.lies_on _ _ _ _ (let n = law.left_at_refused a.words.now a.hay.now a.start a.end _ why in omega arith) }

pub slice_bounds-window-count : goal.slice_bounds-window-count
slice_bounds-window-count c =
    let a = c.args in
    let ok = law.no_error c.admit.result (sym c.is_err.ensures.value ∙ c.if-is_err.false) ∙ c.admit.ensures in
    (law.fine a.words.now (length a.hay.now) a.start a.end ok).ordered

pub slice_bounds-window-start : goal.slice_bounds-window-start
slice_bounds-window-start c =
    let a = c.args in
    let ok = law.no_error c.admit.result (sym c.is_err.ensures.value ∙ c.if-is_err.false) ∙ c.admit.ensures in
    (law.fine a.words.now (length a.hay.now) a.start a.end ok).ordered

pub slice_bounds-window-end : goal.slice_bounds-window-end
slice_bounds-window-end c =
    let a = c.args in
    let ok = law.no_error c.admit.result (sym c.is_err.ensures.value ∙ c.if-is_err.false) ∙ c.admit.ensures in
    (law.fine a.words.now (length a.hay.now) a.start a.end ok).inside

pub check-requires : goal.check-requires
check-requires c =
    let a = c.args in
    let ok = law.no_error c.admit.result (sym c.is_err.ensures.value ∙ c.if-is_err.false) ∙ c.admit.ensures in
    law.fine_sound (law.fine a.words.now (length a.hay.now) a.start a.end ok)

pub returns-in_default : goal.returns-in_default
returns-in_default c =
    let a = c.args in
    let ok = law.no_error c.admit.result (sym c.is_err.ensures.value ∙ c.if-is_err.false) ∙ c.admit.ensures in
    let got = sym c.in_default.is ∙ c.check.ensures in
    record { left = law.left_none a.words.now a.hay.now a.start a.end ok got; lies = law.lies_on _ _ _ _ (let n = law.left_at_none a.words.now a.hay.now a.start a.end ok got in omega arith) }

pub overflow_sub-used : goal.overflow_sub-used
overflow_sub-used c =
    let a = c.args in
    let ok = law.no_error c.admit.result (sym c.is_err.ensures.value ∙ c.if-is_err.false) ∙ c.admit.ensures in
    law.left_below a.words.now a.hay.now a.start a.end ok _ (sym c.in-Some.is ∙ c.check.ensures)

pub returns : goal.returns
returns c =
    let a = c.args in
    let ok = law.no_error c.admit.result (sym c.is_err.ensures.value ∙ c.if-is_err.false) ∙ c.admit.ensures in
    let got = sym c.in-Some.is ∙ c.check.ensures in
    record { left = law.left_found a.words.now a.hay.now a.start a.end ok _ got; lies = law.lies_on _ _ _ _ (let n = law.left_at_found a.words.now a.hay.now a.start a.end ok _ got in omega arith) }
