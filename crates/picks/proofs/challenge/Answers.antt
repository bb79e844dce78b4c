-- `picks::challenge` meets its contract. Assumes nothing.
use Rattle.std.proofs.Common.{ap, sym}
use Rattle.def_picking.specs.Candidates.{against, chosen}
use Rattle.picks.proofs.WinnerLaws as winner
use Rattle.picks.proofs.challenge.Goals as goal

pub returns-in-None : goal.returns-in-None
unfolding against
returns-in-None c = λ run s w. rw c.in-None.is (ap (chosen c.args.new.rank) (sym w))

pub returns-in-Some : goal.returns-in-Some
returns-in-Some c = λ run s w. rw c.in-Some.is (winner.lower_kept c.in-Some.b run s c.args.new.rank c.if-new-b.true)

pub returns-in-Some-2 : goal.returns-in-Some-2
returns-in-Some-2 c = λ run s w. rw (c.in-Some.is, ← w) (winner.higher_taken c.in-Some.b run s c.args.new.rank c.if-new-b.false)
