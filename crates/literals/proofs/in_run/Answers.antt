-- `literals::in_run` meets its contract. Assumes nothing.
use Rattle.std.proofs.Common.{◌∙◌}
use Rattle.literals.proofs.RunLaws as law
use Rattle.literals.proofs.in_run.Goals as goal

pub returns-in-Some : goal.returns-in-Some
returns-in-Some c = law.run_alone c.args.run.now _ c.strong_part.ensures c.in-Some.alone c.in-Some.is

pub returns-in-None : goal.returns-in-None
returns-in-None c = c.best_slice.ensures ∙ law.run_slice c.args.run.now _ c.strong_part.ensures c.in-None.is
