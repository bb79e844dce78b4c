-- `chooser::with_run` meets its contract. Assumes nothing.
use Rattle.std.proofs.Common.{◌∙◌, ◌-◌, Some}
use Rattle.picks.specs.Ranks.{pick_says}
use Rattle.std.proofs.lemmas.Result.{IfOk-from_err}
use Rattle.picks.proofs.WinnerLaws as winner
use Rattle.chooser.specs.Kept.{Kept}
use Rattle.chooser.proofs.BetweenLaws as law
use Rattle.chooser.proofs.with_run.Goals as goal

pub returns-then-to-from : goal.returns-then-to-from
returns-then-to-from c =
    law.empty_run c.args.ws.now c.args.from c.args.to c.args.top c.if-to-from.true c.requires.1

pub returns-in_err-p : goal.returns-in_err-p
returns-in_err-p c = (
  winner.failed_says c.args.ws.now _ c.from_residual.ensures.0
      ∙ law.full_run c.args.ws.now c.args.from c.args.to c.requires.0 (pick_says c.args.ws.now c.args.top) c.if-to-from.false c.in_err-p.ensures,
  IfOk-from_err _ (Kept c.args.ws.now) c.from_residual.ensures.0,
)

pub returns-in_default : goal.returns-in_default
returns-in_default c =
    (law.empty_told c.args.ws.now c.args.from c.args.to c.requires.0 (pick_says c.args.ws.now c.args.top) c.if-to-from.false (rw c.in_default.is at c.in_ok-p.ensures), c.requires.1)

pub better-requires : goal.better-requires
better-requires c =
    (c.requires.1, law.shifted_kept c.args.ws.now c.in-Some.p c.args.from (c.args.to - c.args.from) c.shifted-new.result c.shifted-new.ensures (law.stretch_in c.args.ws.now c.args.from c.args.to c.requires.0) (rw c.in-Some.is at c.in_ok-p.ensures) c.requires.0.told)

pub returns : goal.returns
returns c =
    law.filled_run c.args.ws.now c.args.from c.args.to c.requires.0 c.args.top (Some c.in-Some.p) (Some c.shifted-new.result) (Some c.better.result) c.if-to-from.false (rw c.in-Some.is at c.in_ok-p.ensures) c.shifted-new.ensures c.better.ensures
