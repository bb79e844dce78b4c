-- `checkdoors::forward` meets its contract. Assumes nothing.
use Rattle.std.proofs.Common.{sym, ◌∙◌, length}
use Rattle.checkdoors.proofs.DoorLaws as law
use Rattle.checkdoors.proofs.forward.Goals as goal

pub returns-in_err-admit : goal.returns-in_err-admit
returns-in_err-admit c =
    let a = c.args in
    record { says = law.refused_says c.from_residual.result _ c.from_residual.ensures.1 ∙ law.forward_refused a.words.now a.hay.now a.start a.end _ c.in_err-admit.ensures; bytes = law.all_bytes a.hay.now c.type_inv.hay }

pub slice_bounds-check-count : goal.slice_bounds-check-count
slice_bounds-check-count c = let a = c.args in (law.fine a.words.now (length a.hay.now) a.start a.end c.in_ok-admit.ensures).ordered

pub slice_bounds-check-start : goal.slice_bounds-check-start
slice_bounds-check-start c = let a = c.args in (law.fine a.words.now (length a.hay.now) a.start a.end c.in_ok-admit.ensures).ordered

pub slice_bounds-check-end : goal.slice_bounds-check-end
slice_bounds-check-end c = let a = c.args in (law.fine a.words.now (length a.hay.now) a.start a.end c.in_ok-admit.ensures).inside

pub check-requires : goal.check-requires
check-requires c = let a = c.args in law.fine_sound (law.fine a.words.now (length a.hay.now) a.start a.end c.in_ok-admit.ensures)

pub returns-in_default : goal.returns-in_default
returns-in_default c =
    let a = c.args in
    record { says = law.forward_none a.words.now a.hay.now a.start a.end c.in_ok-admit.ensures (sym c.in_default.is ∙ c.check.ensures); bytes = law.all_bytes a.hay.now c.type_inv.hay }

pub overflow_sub-after : goal.overflow_sub-after
overflow_sub-after c = let a = c.args in law.left_end a.words.now a.hay.now a.start a.end c.in_ok-admit.ensures _ (sym c.in-Some.is ∙ c.check.ensures)

pub returns : goal.returns
returns c =
    let a = c.args in
    record { says = law.forward_found a.words.now a.hay.now a.start a.end c.in_ok-admit.ensures _ (sym c.in-Some.is ∙ c.check.ensures); bytes = law.all_bytes a.hay.now c.type_inv.hay }
