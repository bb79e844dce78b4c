-- The last i places hold the first i words, backwards. Assumes nothing.
use Rattle.std.proofs.Common.{ap, ◌∙◌, List, ℕ, ◌-◌, length, get_or, set, length-set}
use Rattle.mirror.proofs.Placing as law
use Rattle.mirror.proofs.reverse_into.Goals as goal

pub loop-i-preserved : goal.loop-i-preserved
loop-i-preserved c =
    let src = c.args.src.now in
    let dst = c.args.dst.now in
    let l = c.loop-i in
    (length-set l.dst _ _ ∙ l.invariant.0, ap (λ (x : List ℕ). set x (length src - 1 - l.i) (get_or src l.i 0)) l.invariant.1 ∙ law.reversed_more src dst c.requires l.i c.loop-i-test.true)
