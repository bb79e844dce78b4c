-- `entries::plain_alternatives` meets its contract. Assumes nothing.
use Rattle.std.proofs.Common.{sym, ◌∙◌, rules}
use Rattle.entries.proofs.WalkLaws as law
use Rattle.entries.proofs.plain_alternatives.Goals as goal

pub returns-then-not-plain_lists : goal.returns-then-not-plain_lists
returns-then-not-plain_lists c =
    sym (c.loop-token.invariant.2 ∙ law.tokens_stop _ _ _ c.in-Some.ensures.steps _ c.in-Alternatives.is (sym c.plain_lists.ensures ∙ c.if-not-plain_lists.true))

pub loop-token-preserved-else-not-plain_lists : goal.loop-token-preserved-else-not-plain_lists
loop-token-preserved-else-not-plain_lists c =
    (search rules, search rules, c.loop-token.invariant.2 ∙ law.tokens_more _ _ _ c.in-Some.ensures.steps _ c.in-Alternatives.is (sym c.plain_lists.ensures ∙ c.if-not-plain_lists.false))

pub loop-token-preserved : goal.loop-token-preserved
loop-token-preserved c =
    (search rules, search rules, c.loop-token.invariant.2 ∙ law.tokens_pass _ _ _ c.in-Some.ensures.steps _ c.in_default.is)

pub returns : goal.returns
returns c = sym (c.loop-token.invariant.2 ∙ law.tokens_done _ c.in-None.ensures.steps.0)
