-- `chooser::later_runs` meets its contract. Assumes nothing.
use Rattle.std.proofs.Common.{refl, ap, ◌∙◌, ℕ, ◌+◌, arith}
use Rattle.std.proofs.lemmas.Result.{IfOk-from_err}
use Rattle.picks.proofs.WinnerLaws as winner
use Rattle.chooser.specs.Kept.{Kept}
use Rattle.chooser.proofs.RunsLaws as run
use Rattle.chooser.proofs.later_runs.Goals as goal

pub overflow_add-from : goal.overflow_add-from
overflow_add-from c =
    let f = run.from_fits c.args.ws.now c.args.first c.loop-at.at _ c.loop-at.top c.loop-at.invariant c.requires.0 c.loop-at-test.true (ap (λ (x : ℕ). c.loop-at.at + x) c.width_of.ensures) in omega (arith, f.0, c.width_of.ensures)

pub offset_bounds-ws-from : goal.offset_bounds-ws-from
offset_bounds-ws-from c =
    let f = run.from_fits c.args.ws.now c.args.first c.loop-at.at _ c.loop-at.top c.loop-at.invariant c.requires.0 c.loop-at-test.true (ap (λ (x : ℕ). c.loop-at.at + x) c.width_of.ensures) in omega (arith, f.0)

pub slice_bounds-run_words-count : goal.slice_bounds-run_words-count
slice_bounds-run_words-count c =
    let f = run.from_fits c.args.ws.now c.args.first c.loop-at.at _ c.loop-at.top c.loop-at.invariant c.requires.0 c.loop-at-test.true (ap (λ (x : ℕ). c.loop-at.at + x) c.width_of.ensures) in f.0

pub slice_bounds-run_words-start : goal.slice_bounds-run_words-start
slice_bounds-run_words-start c =
    let f = run.from_fits c.args.ws.now c.args.first c.loop-at.at _ c.loop-at.top c.loop-at.invariant c.requires.0 c.loop-at-test.true (ap (λ (x : ℕ). c.loop-at.at + x) c.width_of.ensures) in f.0

pub overflow_add-to : goal.overflow_add-to
overflow_add-to c =
    let s = run.run_stretch c.args.ws.now c.args.first c.loop-at.at _ c.loop-at.top c.loop-at.invariant c.requires.0 c.loop-at-test.true (ap (λ (x : ℕ). c.loop-at.at + x) c.width_of.ensures) _ _ refl c.run_words.ensures.0 in omega (arith, s.few, s.inside)

pub with_run-requires : goal.with_run-requires
with_run-requires c =
    (run.run_stretch c.args.ws.now c.args.first c.loop-at.at _ c.loop-at.top c.loop-at.invariant c.requires.0 c.loop-at-test.true (ap (λ (x : ℕ). c.loop-at.at + x) c.width_of.ensures) _ _ refl c.run_words.ensures.0, c.loop-at.invariant.kept)

pub returns-in_err-top : goal.returns-in_err-top
returns-in_err-top c = (
  winner.failed_says c.args.ws.now _ c.from_residual.ensures.0
      ∙ run.asked_full c.args.ws.now c.args.first c.loop-at.at _ c.loop-at.top c.loop-at.invariant c.requires.0 c.loop-at-test.true (ap (λ (x : ℕ). c.loop-at.at + x) c.width_of.ensures) _ _ refl c.run_words.ensures.0 c.in_err-top.ensures.0,
  IfOk-from_err _ (Kept c.args.ws.now) c.from_residual.ensures.0,
)

pub loop-at-smaller : goal.loop-at-smaller
loop-at-smaller c =
    let f = run.from_fits c.args.ws.now c.args.first c.loop-at.at _ c.loop-at.top c.loop-at.invariant c.requires.0 c.loop-at-test.true
    (ap (λ (x : ℕ). c.loop-at.at + x) c.width_of.ensures) in
    let s = run.run_stretch c.args.ws.now c.args.first c.loop-at.at _ c.loop-at.top c.loop-at.invariant c.requires.0 c.loop-at-test.true
    (ap (λ (x : ℕ). c.loop-at.at + x) c.width_of.ensures) _ _ refl c.run_words.ensures.0 in omega (arith, f.1, s.ordered, s.inside)

pub loop-at-preserved : goal.loop-at-preserved
loop-at-preserved c =
    run.asked_more c.args.ws.now c.args.first c.loop-at.at _ c.loop-at.top c.loop-at.invariant c.requires.0 c.loop-at-test.true (ap (λ (x : ℕ). c.loop-at.at + x) c.width_of.ensures) _ _ refl c.run_words.ensures.0 c.in_ok-top.top c.in_ok-top.ensures.0 c.in_ok-top.ensures.1

pub returns : goal.returns
returns c =
    run.asked_all c.args.ws.now c.args.first c.loop-at.at c.loop-at.top c.loop-at.invariant c.loop-at-test.false
