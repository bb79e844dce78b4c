-- `emit::Written::grown` meets its contract. Assumes nothing.
use Rattle.emit.proofs.PutLaws as law
use Rattle.emit.specs.Items.{grown_of}
use Rattle.emit.proofs.Written.grown.Goals as goal

pub returns-in_err-self : goal.returns-in_err-self
unfolding grown_of
returns-in_err-self c = rw c.in_err-self.was c.from_residual.ensures

pub returns : goal.returns
returns c = rw c.in_ok-self.was (law.grown_sum c.checked_add.result _ c.args.len c.checked_add.ensures)
