-- `tallies::count_list` meets its contract. Assumes nothing.
use Rattle.std.proofs.Common.{ℕ, ◌*◌, length, min, sym, ap, ◌∙◌, arith}
use Rattle.def_picking.specs.Literals.{taken}
use Rattle.def_picking.specs.Numbers.{count}
use Rattle.entries.specs.Words.{branch_in}
use Rattle.tallies.specs.Tallies.{count_top}
use Rattle.tallies.proofs.TallyLaws as law
use Rattle.tallies.proofs.count_list.Goals as goal

pub loop-words-preserved-in-Byte : goal.loop-words-preserved-in-Byte
loop-words-preserved-in-Byte c =
    let h = c.in-Some.ensures.cases in (
      c.loop-words.invariant.0,
      c.loop-words.invariant.1
          ∙ law.branch_count_byte c.loop-words.n c.loop-words.left.now _ _ (omega (arith, h)) h.0 h.1 c.from-entry.result _ c.loop-words.invariant.0 c.from-entry.ensures c.in-Byte.is,
    )

pub loop-words-preserved : goal.loop-words-preserved
loop-words-preserved c =
    let h = c.in-Some.ensures.cases in (
      omega (arith, c.times-n.ensures),
      c.loop-words.invariant.1
          ∙ law.branch_count_more c.loop-words.n c.loop-words.left.now _ _ (omega (arith, h)) h.0 h.1 c.count.result
          (c.count.ensures.0 ∙ ap (λ t. length (taken t)) c.from-entry.ensures) c.count.ensures.1
          ∙ ap (λ (x : ℕ). min count_top (x * count (branch_in c.in-Some.rest.now))) (sym c.times-n.ensures),
    )

pub returns : goal.returns
returns c =
    let h = c.in_default.ensures.cases in
    sym (c.loop-words.invariant.1 ∙ law.branch_count_end c.loop-words.n c.loop-words.left.now c.loop-words.invariant.0 (omega (arith, h)))
