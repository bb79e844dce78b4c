-- Each way is a case of the definition. Assumes nothing.
use Rattle.std.proofs.Common.{lt-ltb, le-ltb}
use Rattle.printing.specs.Numbers.{digit}
use Rattle.printing.proofs.digit_of.Goals as goal

pub returns-then-d-lt10 : goal.returns-then-d-lt10
unfolding digit
returns-then-d-lt10 c =
    rw (lt-ltb c.args.d 10 c.if-d-lt10.true)

pub returns-else-d-lt10 : goal.returns-else-d-lt10
unfolding digit
returns-else-d-lt10 c =
    rw (le-ltb c.args.d 10 c.if-d-lt10.false)
