-- `literals::best_slice` meets its contract. Assumes nothing.
use Rattle.picks.proofs.WinnerLaws as winner
use Rattle.literals.proofs.RunLaws as law
use Rattle.std.proofs.Common.{refl, ◌∙◌, ◌+◌, arith}
use Rattle.literals.proofs.best_slice.Goals as goal

pub loop-at-init : goal.loop-at-init
loop-at-init c =
    law.weighed_start c.args.run.now c.requires.0 c.requires.1

pub returns-in_err-top : goal.returns-in_err-top
returns-in_err-top c =
    winner.failed_says c.args.run.now _ c.from_residual.ensures.0
    ∙ law.weighed_full c.args.run.now c.requires.0 c.loop-at.prior c.loop-at.at c.loop-at.top c.loop-at.invariant c.in_err-top.ensures c.loop-at-test.true

pub overflow_add-e : goal.overflow_add-e
overflow_add-e c =
    omega (arith, (law.here_inside c.args.run.now c.requires.0 c.loop-at.prior c.loop-at.at c.loop-at.top c.loop-at.invariant c.loop-at-test.true c.part_words.result c.part_words.ensures).0)

pub loop-at-smaller : goal.loop-at-smaller
loop-at-smaller c =
    omega (
      arith,
      (law.here_inside c.args.run.now c.requires.0 c.loop-at.prior c.loop-at.at c.loop-at.top c.loop-at.invariant c.loop-at-test.true c.part_words.result
          c.part_words.ensures).0,
      (law.here_inside c.args.run.now c.requires.0 c.loop-at.prior c.loop-at.at c.loop-at.top c.loop-at.invariant c.loop-at-test.true c.part_words.result
          c.part_words.ensures).1,
    )

pub loop-at-preserved : goal.loop-at-preserved
loop-at-preserved c =
    law.weighed_on c.args.run.now c.requires.0 c.loop-at.prior c.loop-at.at c.loop-at.top c.loop-at.invariant c.loop-at-test.true c.part_words.result (c.loop-at.at + c.part_words.result) c.literal_start-prior.result c.in_ok-top.top c.part_words.ensures refl c.literal_start-prior.ensures c.in_ok-top.ensures

pub returns : goal.returns
returns c =
    law.weighed_done c.args.run.now c.requires.0 c.loop-at.prior c.loop-at.at c.loop-at.top c.loop-at.invariant c.loop-at-test.false
