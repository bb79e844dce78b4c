-- The mirror of what is left and what is written behind are the mirror of all. Assumes nothing.
use Rattle.std.proofs.Common.{sym, ap, ◌∙◌, Some}
use Rattle.mirror.proofs.MirrorTurns as law
use Rattle.mirror.proofs.mirror_words.Goals as goal

pub unwrap-k-requires : goal.unwrap-k-requires
unwrap-k-requires c =
    rw c.item_inside.ensures (law.item_some c.loop-w.invariant c.in-Some.ensures.cases.0)

pub split_at-requires : goal.split_at-requires
split_at-requires c =
    let inside = sym c.item_inside.ensures ∙ c.unwrap-k.ensures ∙ ap Some (sym c.from.ensures) in
    law.item_fits c.loop-w.invariant c.in-Some.ensures.cases.0 inside

pub mirror_branches-requires : goal.mirror_branches-requires
mirror_branches-requires c =
    let l = c.loop-w.invariant in
    let first = c.in-Some.ensures.cases.0 in
    let inside = sym c.item_inside.ensures ∙ c.unwrap-k.ensures ∙ ap Some (sym c.from.ensures) in
    let cut = c.split_at.ensures in
    (law.item_sound l first inside cut.front, law.item_room l first inside _ _ cut.front_len cut.back_len)

pub loop-w-preserved : goal.loop-w-preserved
loop-w-preserved c =
    let l = c.loop-w.invariant in
    let first = c.in-Some.ensures.cases.0 in
    let inside = sym c.item_inside.ensures ∙ c.unwrap-k.ensures ∙ ap Some (sym c.from.ensures) in
    let cut = c.split_at.ensures in
    let room = law.item_room l first inside _ _ cut.front_len cut.back_len in
    law.item_turn l first inside _ _ cut.front_len cut.back_len cut.front cut.back c.mirror_branches.ensures (c.mirror_branches.auto.out ∙ room)

pub returns : goal.returns
returns c =
    law.items_end _ _ _ c.loop-w.invariant c.in_default.ensures.cases
