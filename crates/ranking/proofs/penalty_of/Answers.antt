-- `ranking::penalty_of` meets its contract. Assumes nothing.
use Rattle.std.proofs.Common.{arith}
use Rattle.ranking.proofs.RankLaws as law
use Rattle.ranking.proofs.penalty_of.Goals as goal

pub returns-in-100-to-max : goal.returns-in-100-to-max
returns-in-100-to-max c = law.penalty_40 _ (omega arith)

pub returns-in-17-to-max : goal.returns-in-17-to-max
returns-in-17-to-max c = law.penalty_20 _ (omega arith) (omega arith)

pub returns-in-2-to-max : goal.returns-in-2-to-max
returns-in-2-to-max c = law.penalty_10 _ (omega arith) (omega arith) (omega arith)

pub returns-in_default : goal.returns-in_default
returns-in_default c = law.penalty_0 _ (omega arith) (omega arith) (omega arith)
