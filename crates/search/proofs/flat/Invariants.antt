-- `search::flat` meets its contract: what fits the whole is what fits what is left. Assumes nothing.
use Rattle.std.proofs.Common.{◌≡◌, true, length}
use Rattle.def_meaning.specs.Rows.{run}
use Rattle.def_meaning.specs.Words.{prog, flat_words}
use Rattle.steps.specs.Steps.{seen}
use Rattle.search.proofs.flat.Given as goal

abbrev pub invariant-loop-w : goal.invariant-loop-w
invariant-loop-w g l = (flat_words l.ns ≡ true) × (run g.W.Way.order (prog l.branch) (seen g.W.Way.order l.mem) ≡ run g.W.Way.order (prog l.ns) (seen g.W.Way.order l.m))

abbrev pub decreases-loop-w : goal.decreases-loop-w
decreases-loop-w g l = length l.ns
