-- `literals::strong_part` meets its contract. Assumes nothing.
use Rattle.literals.proofs.RunLaws as law
use Rattle.std.proofs.Common.{arith}
use Rattle.literals.proofs.strong_part.Goals as goal

pub overflow_add-to : goal.overflow_add-to
overflow_add-to c =
    omega (arith, (law.front_inside c.args.run.now c.requires.0 c.loop-at.at c.loop-at.invariant c.loop-at-test.true c.part_words.result c.part_words.ensures).0)

pub slice_bounds-score_at-end : goal.slice_bounds-score_at-end
slice_bounds-score_at-end c =
    (law.front_inside c.args.run.now c.requires.0 c.loop-at.at c.loop-at.invariant c.loop-at-test.true c.part_words.result c.part_words.ensures).0

pub score_at-rank-requires : goal.score_at-rank-requires
score_at-rank-requires c = (
  law.front_few c.args.run.now c.requires.0 c.loop-at.at c.loop-at.invariant c.loop-at-test.true c.part_words.result c.part_words.ensures,
  (law.front_count
      c.args.run.now c.requires.0 c.loop-at.at c.loop-at.invariant c.loop-at-test.true c.part_words.result c.part_words.ensures c.if-run-at-eq-BYTE.true).0,
  (law.front_count
      c.args.run.now c.requires.0 c.loop-at.at c.loop-at.invariant c.loop-at-test.true c.part_words.result c.part_words.ensures c.if-run-at-eq-BYTE.true).1,
)

pub returns-then-rank-ge80 : goal.returns-then-rank-ge80
returns-then-rank-ge80 c =
    law.alone_wins c.args.run.now c.requires.0 c.loop-at.at c.loop-at.invariant c.loop-at-test.true c.part_words.result c.part_words.ensures c.if-run-at-eq-BYTE.true c.score_at-rank.result c.score_at-rank.ensures c.if-rank-ge80.true

pub loop-at-smaller-else-rank-ge80 : goal.loop-at-smaller-else-rank-ge80
loop-at-smaller-else-rank-ge80 c =
    omega (arith, (law.front_inside c.args.run.now c.requires.0 c.loop-at.at c.loop-at.invariant c.loop-at-test.true c.part_words.result c.part_words.ensures).0, (law.front_inside c.args.run.now c.requires.0 c.loop-at.at c.loop-at.invariant c.loop-at-test.true c.part_words.result c.part_words.ensures).1)

pub loop-at-preserved-else-rank-ge80 : goal.loop-at-preserved-else-rank-ge80
loop-at-preserved-else-rank-ge80 c =
    law.passed_weak c.args.run.now c.requires.0 c.loop-at.at c.loop-at.invariant c.loop-at-test.true c.part_words.result c.part_words.ensures c.if-run-at-eq-BYTE.true c.score_at-rank.result c.score_at-rank.ensures c.if-rank-ge80.false

pub loop-at-smaller : goal.loop-at-smaller
loop-at-smaller c =
    omega (arith, (law.front_inside c.args.run.now c.requires.0 c.loop-at.at c.loop-at.invariant c.loop-at-test.true c.part_words.result c.part_words.ensures).0, (law.front_inside c.args.run.now c.requires.0 c.loop-at.at c.loop-at.invariant c.loop-at-test.true c.part_words.result c.part_words.ensures).1)

pub loop-at-preserved : goal.loop-at-preserved
loop-at-preserved c =
    law.passed_other c.args.run.now c.requires.0 c.loop-at.at c.loop-at.invariant c.loop-at-test.true c.part_words.result c.part_words.ensures c.if-run-at-eq-BYTE.false

pub returns : goal.returns
returns c =
    law.passed_done c.args.run.now c.requires.0 c.loop-at.at c.loop-at.invariant c.loop-at-test.false
