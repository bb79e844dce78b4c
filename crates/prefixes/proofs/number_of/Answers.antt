-- `prefixes::number_of` meets its contract. Assumes nothing.
use Rattle.prefixes.proofs.PrefixLaws as prefix
use Rattle.prefixes.proofs.number_of.Goals as goal

pub returns-then-n-eq1 : goal.returns-then-n-eq1
returns-then-n-eq1 c = λ t e. prefix.single_any t _ c.args.p c.args.n c.args.k e c.if-n-eq1.true c.requires.1
