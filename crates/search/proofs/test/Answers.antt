-- `search::test` meets its contract. Assumes nothing.
use Rattle.std.proofs.Common.{sym, ◌∙◌}
use Rattle.steps.specs.Steps.{seen}
use Rattle.steps.proofs.Heads.{length_seen}
use Rattle.steps.proofs.Tests.{is_test_lem}
use Rattle.steps.proofs.Turns as turns
use Rattle.search.proofs.test.Goals as goal

pub returns-in_default : goal.returns-in_default
returns-in_default g c =
    let o = g.W.Way.order in
    let M = c.args.window.now in
    λ R. turns.stop_short c.args.w R o (seen o M) (is_test_lem c.args.w c.requires.1) (length_seen o M ∙ c.in_default.ensures)

pub returns-then-not-word_passes : goal.returns-then-not-word_passes
returns-then-not-word_passes g c =
    let o = g.W.Way.order in
    λ R. turns.stop_one c.args.w R o (seen o c.args.window.now) c.in-Some.field-0-0.now (is_test_lem c.args.w c.requires.1) c.in-Some.ensures (sym c.if-not-word_passes.true ∙ c.word_passes.ensures)

pub returns : goal.returns
returns g c =
    let o = g.W.Way.order in
    λ R. turns.turn_one c.args.w R o (seen o c.args.window.now) c.in-Some.field-0-0.now (is_test_lem c.args.w c.requires.1) c.in-Some.ensures (sym c.if-not-word_passes.false ∙ c.word_passes.ensures)
