-- `picks::ranked_against` meets its contract: too many literals, before or now, are handed up. Assumes nothing.
use Rattle.std.proofs.Common.{sym, ◌∙◌}
use Rattle.def_picking.specs.Candidates.{against}
use Rattle.def_picking.proofs.RefusalLaws.{against_full}
use Rattle.picks.specs.Ranks.{pick_says}
use Rattle.picks.proofs.WinnerLaws as winner
use Rattle.picks.proofs.ranked_against.Goals as goal

pub returns-in_err-best : goal.returns-in_err-best
unfolding against
returns-in_err-best c = λ run s w. rw c.in_err-best.was (winner.failed_says run _ c.from_residual.ensures.0)

pub returns-in_err-rank : goal.returns-in_err-rank
returns-in_err-rank c = λ run s w. winner.failed_says run _ c.from_residual-in_err-rank.ensures.0 ∙ rw c.in_err-rank.was (sym (against_full _ s))

pub returns-in-None : goal.returns-in-None
returns-in-None c = λ run s w. rw (c.in_ok-best.was, c.in_ok-rank.was, c.in-None.is) (winner.skip_kept (pick_says run c.in_ok-best.best) s)
