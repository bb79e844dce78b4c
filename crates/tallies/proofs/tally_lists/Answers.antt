-- `tallies::tally_lists` meets its contract. Assumes nothing.
use Rattle.std.proofs.Common.{ℕ, ◌+◌, ◌*◌, min, sym, ap, ◌∙◌, arith, rules}
use Rattle.def_picking.specs.Numbers.{count_in}
use Rattle.def_picking.specs.Literals.{combinations_in}
use Rattle.entries.specs.Words.{lists_in}
use Rattle.tallies.specs.Tallies.{count_top}
use Rattle.tallies.proofs.TallyLaws as law
use Rattle.tallies.proofs.tally_lists.Goals as goal

pub loop-list-preserved : goal.loop-list-preserved
loop-list-preserved c =
    let f = c.in-Some.ensures.steps in (
      search rules,
      search rules,
      omega (arith, c.min-literals.ensures),
      omega (arith, c.times-combinations.ensures),
      c.loop-list.invariant.4 ∙ law.lists_count_more _ _ _ f _ c.loop-list.literals c.count_list-n.ensures
          ∙ ap (λ (x : ℕ). min count_top (x + count_in (lists_in c.next.new.self.words.now))) (sym c.min-literals.ensures),
      c.loop-list.invariant.5 ∙ law.lists_combinations_more _ _ _ f _ c.loop-list.combinations c.count_list-n.ensures
          ∙ ap (λ (x : ℕ). min count_top (x * combinations_in (lists_in c.next.new.self.words.now))) (sym c.times-combinations.ensures),
    )

pub returns : goal.returns
returns c =
    let short = c.in-None.ensures.steps.0 in
    record {
      literals_are = sym (c.loop-list.invariant.4 ∙ law.lists_count_end _ short _ c.loop-list.invariant.2);
      combinations_are = sym (c.loop-list.invariant.5 ∙ law.lists_combinations_end _ short _ c.loop-list.invariant.3);
    }
