-- `chooser::shifted` meets its contract. Assumes nothing.
use Rattle.chooser.proofs.ShiftLaws as law
use Rattle.chooser.proofs.shifted.Goals as goal

pub returns : goal.returns
returns c = law.pick_shifted c.args.p c.args.from c.args.n _ _ c.min-e.ensures c.min-s.ensures
