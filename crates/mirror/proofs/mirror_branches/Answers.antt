-- What is written in front and the mirror of what is left are the mirror of all. Assumes nothing.
use Rattle.std.proofs.Common.{sym, ap, ◌∙◌, Some}
use Rattle.mirror.proofs.MirrorTurns as law
use Rattle.mirror.proofs.mirror_branches.Goals as goal

pub unwrap-k-requires : goal.unwrap-k-requires
unwrap-k-requires c =
    rw c.branch_inside.ensures (law.branch_some c.loop-w.invariant c.in-Some.ensures.cases.0)

pub split_at-requires : goal.split_at-requires
split_at-requires c =
    let inside = sym c.branch_inside.ensures ∙ c.unwrap-k.ensures ∙ ap Some (sym c.from.ensures) in
    law.branch_fits c.loop-w.invariant c.in-Some.ensures.cases.0 inside

pub loop-w-preserved : goal.loop-w-preserved
loop-w-preserved c =
    let inside = sym c.branch_inside.ensures ∙ c.unwrap-k.ensures ∙ ap Some (sym c.from.ensures) in
    let cut = c.split_at.ensures in
    law.branch_turn c.loop-w.invariant c.in-Some.ensures.cases.0 inside cut.front cut.back cut.front_len cut.back_len c.reverse_into.ensures

pub returns : goal.returns
returns c =
    law.branches_end _ _ _ c.loop-w.invariant c.in_default.ensures.cases
