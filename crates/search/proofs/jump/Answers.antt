-- `search::jump` meets its contract. Assumes nothing.
use Rattle.std.proofs.Common.{◌∙◌, arith}
use Rattle.def_meaning.proofs.KindLaws.{kind_jump}
use Rattle.steps.specs.Steps.{seen}
use Rattle.steps.proofs.Heads.{length_seen}
use Rattle.steps.proofs.Turns as turns
use Rattle.search.proofs.jump.Goals as goal

pub returns-then-window-n : goal.returns-then-window-n
returns-then-window-n g c =
    let o = g.W.Way.order in
    let M = c.args.window.now in
    λ R. turns.stop_jump c.args.w R o (seen o M) _ (kind_jump c.args.w c.requires (c.from-n.ensures ∙ c.first.ensures)) (omega (arith, c.if-window-n.true, length_seen o M))

pub returns : goal.returns
returns g c =
    let o = g.W.Way.order in
    let M = c.args.window.now in
    λ R. turns.turn_jump c.args.w R o (seen o M) _ c.without.ensures (kind_jump c.args.w c.requires (c.from-n.ensures ∙ c.first.ensures)) (omega (arith, c.if-window-n.false, length_seen o M))
