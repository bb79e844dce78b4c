-- The cycle of calls {branches, check, choices, jumps} meets its contracts. Every loop keeps: the answer for the whole is the
-- answer for what is left. Each call is at fewer words, or at as many on the way from check to choices to jumps or branches. Assumes nothing.
use Rattle.std.proofs.Common.{◌≡◌, ◌+◌, ◌*◌, ◌≤◌, length}
use Rattle.def_meaning.specs.Programs.{range, alt, ◌▹◌}
use Rattle.def_meaning.specs.Rows.{run}
use Rattle.def_meaning.specs.Words.{prog, branches_of, Sound, SoundBranches}
use Rattle.steps.specs.Steps.{seen}
use Rattle.steps.proofs.Ranges.{untried}
use Rattle.search.proofs.+branches_check_choices_jumps.Given as goal

abbrev pub decreases-branches : goal.decreases-branches
decreases-branches g l = 3 * length l.rest.now + 1

abbrev pub decreases-check : goal.decreases-check
decreases-check g l = 3 * length l.nodes.now

abbrev pub decreases-choices : goal.decreases-choices
decreases-choices g l = 3 * length l.rest.now + 2

abbrev pub decreases-jumps : goal.decreases-jumps
decreases-jumps g l = 3 * length l.rest.now + 1

abbrev pub invariant-branches-loop-n : goal.invariant-branches-loop-n
invariant-branches-loop-n g l = run g.W.Way.order (range l.from l.to ▹ prog l.rest) (seen g.W.Way.order l.tail) ≡ untried g.W.Way.order l.least l.to l.most l.n (prog l.rest) (seen g.W.Way.order l.tail)

abbrev pub invariant-branches-branches : goal.invariant-branches-branches
invariant-branches-branches g l = SoundBranches l.bs × (run g.W.Way.order (alt (branches_of l.alts) ▹ range l.from l.to ▹ prog l.rest) (seen g.W.Way.order l.mem) ≡ run g.W.Way.order (alt (branches_of l.bs) ▹ range l.from l.to ▹ prog l.rest) (seen g.W.Way.order l.mem))

abbrev pub decreases-branches-branches : goal.decreases-branches-branches
decreases-branches-branches g l = length l.bs

abbrev pub invariant-check-loop-w : goal.invariant-check-loop-w
invariant-check-loop-w g l = (length l.ns ≤ length l.nodes) × Sound l.ns × (run g.W.Way.order (prog l.nodes) (seen g.W.Way.order l.mem) ≡ run g.W.Way.order (prog l.ns) (seen g.W.Way.order l.m))

abbrev pub decreases-check-loop-w : goal.decreases-check-loop-w
decreases-check-loop-w g l = length l.ns

abbrev pub invariant-jumps-loop-n : goal.invariant-jumps-loop-n
invariant-jumps-loop-n g l = run g.W.Way.order (range l.from l.to ▹ prog l.rest) (seen g.W.Way.order l.mem) ≡ untried g.W.Way.order l.least l.to l.most l.n (prog l.rest) (seen g.W.Way.order l.mem)
