-- The invariant: `best` is the highest score of the windows passed, and what is left to pass is the literal's end.
use Rattle.std.proofs.Common.{arith, rules}
use Rattle.atoms.proofs.Laws.{passed_none, passed_more, passed_all}
use Rattle.atoms.proofs.literal_score.Goals as goal

pub loop-atom-init : goal.loop-atom-init
loop-atom-init c = (search rules, passed_none c.args.lit.now _ _ (search rules) c.score-best.ensures)

pub loop-atom-preserved : goal.loop-atom-preserved
loop-atom-preserved c =
    let s = rw c.loop-atom.invariant.0 at c.in-Some.ensures.steps in
    (search rules, passed_more c.args.lit.now _ _ _ _ _ _ c.loop-atom.invariant.1 (omega (arith, s)) s.1.2 s.1.1 c.score.ensures c.max-best.ensures)

pub returns : goal.returns
returns c = passed_all c.args.lit.now _ _ c.loop-atom.invariant.1 (omega (arith, c.in-None.ensures.steps, c.loop-atom.invariant.0))
