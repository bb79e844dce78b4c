-- `classes::past_gap` meets its contract. Assumes nothing.
use Rattle.std.proofs.Common.{sym, arith}
use Rattle.classes.proofs.MemberLaws as law
use Rattle.classes.proofs.past_gap.Goals as goal

pub returns-then-j-from : goal.returns-then-j-from
returns-then-j-from c =
    sym (law.gapped_below _ _ c.args.gap c.if-j-from.true)

pub returns-else-j-from : goal.returns-else-j-from
returns-else-j-from c =
    sym (law.gapped_above _ _ _ (omega (arith, c.if-j-from.false)))
