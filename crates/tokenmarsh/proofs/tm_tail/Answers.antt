-- The part begins where the match ends; nothing is left after no match and after a refusal. Assumes nothing.
use Rattle.std.proofs.Common.{sym, ◌∙◌}
use Rattle.tokenmarsh.proofs.TailLaws.{forward_within}
use Rattle.tokenmarsh.proofs.tm_tail.Goals as goal

pub overflow_sub-result : goal.overflow_sub-result
overflow_sub-result c =
    let a = c.args in
    forward_within a.program.now a.haystack.now a.start a.end c.in-Ok-Some.n (sym c.forward.ensures.says ∙ rw (c.in-Ok-Some.is, c.in-Ok-Some.field-0-is))
