-- `prefixes::prefix_in` meets its contract. Assumes nothing.
use Rattle.std.proofs.Common.{sym, ◌∙◌, rules}
use Rattle.prefixes.proofs.PrefixLaws as prefix
use Rattle.prefixes.proofs.prefix_in.Goals as goal

pub returns-then-left-block : goal.returns-then-left-block
returns-then-left-block c =
    let f = c.in-Some.ensures.steps in
    let n = prefix.list_exact _ _ _ f _ c.count_list-n.ensures c.loop-list.invariant.2 in
    sym (c.loop-list.invariant.3 ∙ prefix.prefix_found _ _ _ f c.args.p c.loop-list.left _ n c.if-left-block.true)

pub loop-list-preserved : goal.loop-list-preserved
loop-list-preserved c =
    let f = c.in-Some.ensures.steps in
    let n = prefix.list_exact _ _ _ f _ c.count_list-n.ensures c.loop-list.invariant.2 in (
      search rules,
      search rules,
      prefix.lists_few _ _ _ f c.loop-list.invariant.2,
      c.loop-list.invariant.3 ∙ prefix.prefix_passed _ _ _ f c.args.p c.loop-list.left _ n c.if-left-block.false,
    )

pub returns : goal.returns
returns c = sym (c.loop-list.invariant.3 ∙ prefix.prefix_end _ c.in-None.ensures.steps.0 c.args.p c.loop-list.left)
