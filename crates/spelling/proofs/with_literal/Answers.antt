-- `spelling::with_literal` meets its contract. Assumes nothing.
use Rattle.std.proofs.Common.{arith}
use Rattle.tallies.proofs.SizeLaws.{literal_fits}
use Rattle.spelling.proofs.with_literal.Goals as goal

pub write_literal-n-requires : goal.write_literal-n-requires
write_literal-n-requires g c =
    (c.requires.number.0, c.requires.number.1, omega (arith, literal_fits c.args.ws.now c.args.k c.requires.number.0, c.requires.few))
