-- `entries::end_of` meets its contract. Assumes nothing.
use Rattle.std.proofs.Common.{arith}
use Rattle.entries.specs.Words.{ends}
use Rattle.entries.proofs.end_of.Goals as goal

pub returns : goal.returns
unfolding ends
returns c = (omega arith, omega arith, omega arith)
