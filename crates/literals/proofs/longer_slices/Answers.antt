-- `literals::longer_slices` meets its contract. Assumes nothing.
use Rattle.picks.specs.Ranks.{pick_says}
use Rattle.literals.proofs.SliceLaws as slices
use Rattle.picks.proofs.WinnerLaws as winner
use Rattle.literals.proofs.LongerLaws as law
use Rattle.std.proofs.Common.{refl, sym, Ok, Err, ◌∙◌, ◌+◌, drop, length-drop, arith}
use Rattle.literals.proofs.longer_slices.Goals as goal
use Rattle.literals.proofs.longer_slices.Goals.{then-len-ge4-via-then-len-ge4, then-len-ge4-via-else-len-ge4+then-run-to-lt4}

pub overflow_add-to : goal.overflow_add-to
overflow_add-to c =
    omega (arith, (law.going_start c.args.run.now c.args.prior c.args.at c.requires c.part_words.result (pick_says c.args.run.now c.args.best) c.part_words.ensures).inside)

pub loop-top-init : goal.loop-top-init
loop-top-init c =
    law.going_start c.args.run.now c.args.prior c.args.at c.requires c.part_words.result (pick_says c.args.run.now c.args.best) c.part_words.ensures

pub returns-in_err-top : goal.returns-in_err-top
returns-in_err-top c =
    let weighed = law.weighed c.args.run.now c.args.prior c.args.at c.loop-top.to c.loop-top.len (pick_says c.args.run.now c.args.best) c.loop-top.top c.requires c.loop-top.invariant
    (Err c.in_err-top.field-0.0) c.byte_words-next.result c.rank_of-rank.result c.byte_words-next.ensures.0 c.rank_of-rank.ensures c.in_err-top.ensures in
    λ own ps k. winner.failed_says c.args.run.now _ c.from_residual.ensures.0
    ∙ law.overfull c.args.run.now c.args.prior c.args.at c.loop-top.to c.loop-top.len (pick_says c.args.run.now c.args.best) c.loop-top.top c.requires c.loop-top.invariant c.in_err-top.field-0.0 weighed own ps k

pub returns-then-len-ge4 : goal.returns-then-len-ge4
returns-then-len-ge4 c =
    λ own ps k. (elim c.then-len-ge4.branch [
      | then-len-ge4-via-then-len-ge4 w ↦ sym ((law.weighed c.args.run.now c.args.prior c.args.at c.loop-top.to c.loop-top.len (pick_says c.args.run.now c.args.best)
          c.loop-top.top c.requires c.loop-top.invariant (Ok c.in_ok-top.top) c.byte_words-next.result c.rank_of-rank.result c.byte_words-next.ensures.0 c.rank_of-rank.ensures c.in_ok-top.ensures) own ps k ∙ slices.further_long _ _ _ _ _ w.if-len-ge4.true)
      | then-len-ge4-via-else-len-ge4+then-run-to-lt4 w ↦ sym ((law.weighed c.args.run.now c.args.prior c.args.at c.loop-top.to c.loop-top.len (pick_says c.args.run.now c.args.best)
          c.loop-top.top c.requires c.loop-top.invariant (Ok c.in_ok-top.top) c.byte_words-next.result c.rank_of-rank.result c.byte_words-next.ensures.0 c.rank_of-rank.ensures c.in_ok-top.ensures) own ps k
          ∙ slices.further_none _ (drop c.loop-top.to c.args.run.now) _ _ _ (omega (arith, length-drop c.loop-top.to c.args.run.now, w.if-run-to-lt4.true)))
    ])

pub overflow_add-e : goal.overflow_add-e
overflow_add-e c =
    omega (arith, (law.part_inside c.args.run.now c.args.prior c.args.at c.loop-top.to c.loop-top.len (pick_says c.args.run.now c.args.best) c.loop-top.top c.requires c.loop-top.invariant c.part_words-in-loop-top.result c.part_words-in-loop-top.ensures c.if-run-to-lt4.false).0)

pub slice_bounds-length_of-end : goal.slice_bounds-length_of-end
slice_bounds-length_of-end c =
    (law.part_inside c.args.run.now c.args.prior c.args.at c.loop-top.to c.loop-top.len (pick_says c.args.run.now c.args.best) c.loop-top.top c.requires c.loop-top.invariant c.part_words-in-loop-top.result c.part_words-in-loop-top.ensures c.if-run-to-lt4.false).0

pub loop-top-smaller : goal.loop-top-smaller
loop-top-smaller c =
    omega (
      arith,
      (law.part_inside c.args.run.now c.args.prior c.args.at c.loop-top.to c.loop-top.len (pick_says c.args.run.now c.args.best)
          c.loop-top.top c.requires c.loop-top.invariant c.part_words-in-loop-top.result c.part_words-in-loop-top.ensures c.if-run-to-lt4.false).0,
      (law.part_inside c.args.run.now c.args.prior
          c.args.at c.loop-top.to c.loop-top.len (pick_says c.args.run.now c.args.best) c.loop-top.top c.requires c.loop-top.invariant c.part_words-in-loop-top.result
          c.part_words-in-loop-top.ensures c.if-run-to-lt4.false).1,
    )

pub loop-top-preserved : goal.loop-top-preserved
loop-top-preserved c =
    law.going_on c.args.run.now c.args.prior c.args.at c.loop-top.to c.loop-top.len (pick_says c.args.run.now c.args.best) c.loop-top.top
    c.requires c.loop-top.invariant c.in_ok-top.top c.part_words-in-loop-top.result c.length_of-len.result (c.loop-top.to + c.part_words-in-loop-top.result) c.part_words-in-loop-top.ensures c.if-run-to-lt4.false
    c.if-len-ge4.false refl c.length_of-len.ensures.0 c.length_of-len.ensures.1
    (law.weighed c.args.run.now c.args.prior c.args.at c.loop-top.to c.loop-top.len (pick_says c.args.run.now c.args.best) c.loop-top.top
    c.requires c.loop-top.invariant (Ok c.in_ok-top.top) c.byte_words-next.result c.rank_of-rank.result c.byte_words-next.ensures.0 c.rank_of-rank.ensures c.in_ok-top.ensures)
