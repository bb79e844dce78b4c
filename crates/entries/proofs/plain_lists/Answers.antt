-- `entries::plain_lists` meets its contract. Assumes nothing.
use Rattle.std.proofs.Common.{sym, ◌∙◌, rules}
use Rattle.entries.proofs.WalkLaws as law
use Rattle.entries.proofs.plain_lists.Goals as goal

pub returns-then-not-plain_list : goal.returns-then-not-plain_list
returns-then-not-plain_list c =
    sym (c.loop-list.invariant.2 ∙ law.lists_stop _ _ _ c.in-Some.ensures.steps (sym c.plain_list.ensures ∙ c.if-not-plain_list.true))

pub loop-list-preserved : goal.loop-list-preserved
loop-list-preserved c =
    (search rules, search rules, c.loop-list.invariant.2 ∙ law.lists_more _ _ _ c.in-Some.ensures.steps (sym c.plain_list.ensures ∙ c.if-not-plain_list.false))

pub returns : goal.returns
returns c = sym (c.loop-list.invariant.2 ∙ law.lists_done _ c.in-None.ensures.steps.0)
