-- `spelling::write_branch` meets its contract. Assumes nothing.
use Rattle.std.proofs.Common.{ℕ, ◌%◌, ◌≤◌, List, length, sym, ◌∙◌, subst, rules}
use Rattle.def_picking.specs.Numbers.{literal_at}
use Rattle.entries.specs.Words.{branch_in}
use Rattle.prefixes.proofs.PrefixLaws as prefix
use Rattle.spelling.proofs.SpellLaws as spell
use Rattle.spelling.proofs.WriteLaws as write
use Rattle.spelling.specs.Writing.{Written}
use Rattle.spelling.proofs.write_branch.Goals as goal

pub write_list-requires : goal.write_list-requires
write_list-requires c =
    let f = c.in-Some.ensures.steps in
    let n = prefix.list_exact _ _ _ f _ c.count_list-n.ensures c.loop-list.invariant.3 in
    let w = spell.within_list _ _ _ f c.args.p c.loop-list.left _ n c.loop-list.invariant.3 c.if-left-block.true in (
      w.0,
      w.1,
      subst (λ (d : List ℕ). length (literal_at (branch_in c.in-Some.list.now) (c.loop-list.left % c.count_list-n.result)) ≤ length d) (sym c.loop-list.invariant.2)
          (subst (λ (l : List ℕ). length l ≤ length c.args.dst.now) (c.loop-list.invariant.4 ∙ spell.ending_found _ _ _ f c.args.p c.loop-list.left _ n c.if-left-block.true) c.requires.2),
    )

pub returns-then-left-block : goal.returns-then-left-block
returns-then-left-block c =
    let f = c.in-Some.ensures.steps in
    let n = prefix.list_exact _ _ _ f _ c.count_list-n.ensures c.loop-list.invariant.3 in
    subst (λ (l : List ℕ). Written c.write_list.result l c.args.dst.now c.write_list.new.dst)
    (sym (c.loop-list.invariant.4 ∙ spell.ending_found _ _ _ f c.args.p c.loop-list.left _ n c.if-left-block.true))
    (subst (λ (d : List ℕ). Written c.write_list.result (literal_at (branch_in c.in-Some.list.now) (c.loop-list.left % c.count_list-n.result)) d c.write_list.new.dst)
    c.loop-list.invariant.2 c.write_list.ensures)

pub loop-list-preserved : goal.loop-list-preserved
loop-list-preserved c =
    let f = c.in-Some.ensures.steps in
    let n = prefix.list_exact _ _ _ f _ c.count_list-n.ensures c.loop-list.invariant.3 in (
      search rules,
      search rules,
      c.loop-list.invariant.2,
      prefix.lists_few _ _ _ f c.loop-list.invariant.3,
      c.loop-list.invariant.4 ∙ spell.ending_passed _ _ _ f c.args.p c.loop-list.left _ n c.if-left-block.false,
    )

pub returns : goal.returns
returns c = write.none_written _ _ _ (c.loop-list.invariant.4 ∙ spell.ending_none _ c.in-None.ensures.steps.0 c.args.p c.loop-list.left) c.loop-list.invariant.2
