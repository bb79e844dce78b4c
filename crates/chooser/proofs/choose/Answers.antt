-- `chooser::choose` meets its contract. Assumes nothing.
use Rattle.std.proofs.Common.{sym, ◌∙◌, ◌-◌, [], ◌∷◌, take}
use Rattle.std.proofs.lemmas.Result.{IfOk-from_err}
use Rattle.def_picking.specs.Runs.{filled_ones}
use Rattle.def_picking.specs.Candidates.{too_many_literals}
use Rattle.def_picking.proofs.RefusalLaws.{among_full}
use Rattle.entries.specs.Words.{tokens_in}
use Rattle.picks.proofs.WinnerLaws as winner
use Rattle.chooser.specs.Kept.{Kept}
use Rattle.chooser.proofs.RunsLaws as run
use Rattle.chooser.proofs.choose.Goals as goal

pub later_runs-requires : goal.later_runs-requires
later_runs-requires c =
    (c.requires.0, run.first_fits c.args.ws.now _ c.run_words-first.ensures.0 c.requires.1, run.rest_whole c.args.ws.now _ c.run_words-first.ensures.0 c.requires.1, run.rest_told c.args.ws.now _ c.run_words-first.ensures.0 c.requires.1 c.requires.2)

pub returns-in_err-later : goal.returns-in_err-later
returns-in_err-later c = (
  winner.failed_says c.args.ws.now _ c.from_residual.ensures.0
      ∙ sym (among_full (filled_ones (tokens_in (take (c.run_words-first.result - 0) c.args.ws.now) ∷ [])))
      ∙ run.first_asked_last c.args.ws.now _ c.run_words-first.ensures.0 c.requires.1 too_many_literals c.in_err-later.ensures.0,
  IfOk-from_err _ (Kept c.args.ws.now) c.from_residual.ensures.0,
)

pub with_run-requires : goal.with_run-requires
with_run-requires c =
    (run.first_stretch c.args.ws.now _ c.run_words-first.ensures.0 c.requires.1 c.requires.0 c.requires.2, c.in_ok-later.ensures.1)

pub returns : goal.returns
returns c =
    (c.with_run.ensures.0 ∙ run.first_asked_last c.args.ws.now _ c.run_words-first.ensures.0 c.requires.1 _ c.in_ok-later.ensures.0, c.with_run.ensures.1)
