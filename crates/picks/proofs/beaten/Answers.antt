-- `picks::beaten` meets its contract. Assumes nothing.
use Rattle.std.proofs.Common.{sym, ◌∙◌, arith, ◌≤◌, leb-true}
use Rattle.def_picking.specs.Candidates.{against}
use Rattle.picks.proofs.WinnerLaws as winner
use Rattle.picks.proofs.beaten.Goals as goal

pub returns-in-Some : goal.returns-in-Some
returns-in-Some c =
    λ l n h run s. (let o : c.args.rank ≤ c.in-Some.b.rank = leb-true c.args.rank c.in-Some.b.rank l in
    rw (c.in-Ok.is, c.in-Some.is) (sym (winner.skip_kept _ s) ∙ winner.lower_kept c.in-Some.b run s n (omega arith)))

pub returns-in_default : goal.returns-in_default
unfolding against
returns-in_default c = λ e n h run s. rw c.in_default.is
