-- `tallies::shortest_of` meets its contract. Assumes nothing.
use Rattle.std.proofs.Common.{sym, ap, ◌∙◌, arith, rules}
use Rattle.def_picking.specs.Literals.{shorter}
use Rattle.entries.proofs.WalkLaws.{list_words}
use Rattle.entries.specs.Words.{lists_in}
use Rattle.tallies.proofs.TallyLaws as law
use Rattle.tallies.proofs.shortest_of.Goals as goal

pub returns-in_default : goal.returns-in_default
returns-in_default c = (sym (law.lists_shortest_end _ c.in_default.ensures.steps.0), omega arith)

pub loop-list-init : goal.loop-list-init
loop-list-init c =
    let f = c.in-Some.ensures.steps in
    (search rules, search rules, omega (arith, list_words _ _ _ f), rw c.into_iter-list-iterator.ensures.into_iter_gives (law.lists_shortest _ _ _ f))

pub loop-list-preserved : goal.loop-list-preserved
loop-list-preserved c =
    let f = c.in-Some-list.ensures.steps in (
      search rules,
      search rules,
      omega (arith, c.min-n.ensures, c.loop-list.invariant.2),
      c.loop-list.invariant.3 ∙ law.lists_shorter _ _ _ f c.loop-list.n ∙ ap (shorter (lists_in c.next-in-loop-list.new.self.words.now)) (sym c.min-n.ensures),
    )

pub returns : goal.returns
returns c = (sym (c.loop-list.invariant.3 ∙ law.lists_shorter_end _ c.in-None.ensures.steps.0 c.loop-list.n), c.loop-list.invariant.2)
