-- `tallies::length_token` meets its contract. Assumes nothing.
use Rattle.std.proofs.Common.{sym, arith}
use Rattle.def_picking.specs.Literals.{length_of}
use Rattle.tallies.proofs.TallyLaws as law
use Rattle.tallies.proofs.length_token.Goals as goal

pub returns-in-Alternatives : goal.returns-in-Alternatives
unfolding length_of
returns-in-Alternatives c = rw c.in-Alternatives.is (c.shortest_of.ensures.0, omega (arith, c.shortest_of.ensures.1))

pub returns-in-One : goal.returns-in-One
returns-in-One c = rw c.in-One.is (sym (law.one_length c.in-One.field-0), omega arith)
