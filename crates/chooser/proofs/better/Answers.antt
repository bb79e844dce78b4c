-- `chooser::better` meets its contract. Assumes nothing.
use Rattle.std.proofs.Common.{sym, ◌∙◌}
use Rattle.chooser.proofs.BetweenLaws as law
use Rattle.chooser.proofs.better.Goals as goal

pub returns-in_default : goal.returns-in_default
returns-in_default c = (rw c.in_default.is (law.first_told _), c.requires.1)

pub returns-then-wins : goal.returns-then-wins
returns-then-wins c = (rw c.in-Some.is (law.new_taken c.args.ws.now c.in-Some.old c.args.new (sym c.wins.ensures ∙ c.if-wins.true)), c.requires.1)

pub returns-else-wins : goal.returns-else-wins
returns-else-wins c = (rw c.in-Some.is (law.old_taken c.args.ws.now c.in-Some.old c.args.new (sym c.wins.ensures ∙ c.if-wins.false)), rw c.in-Some.is at c.requires.0)
