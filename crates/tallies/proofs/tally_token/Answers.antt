-- `tallies::tally_token` meets its contract. Assumes nothing.
use Rattle.def_picking.specs.Literals.{combinations}
use Rattle.def_picking.specs.Numbers.{count}
use Rattle.tallies.proofs.TallyLaws as law
use Rattle.tallies.proofs.tally_token.Goals as goal

pub returns-in-Alternatives : goal.returns-in-Alternatives
unfolding count combinations
returns-in-Alternatives c = rw c.in-Alternatives.is c.tally_lists.ensures

pub returns-in-One : goal.returns-in-One
returns-in-One c = rw c.in-One.is (law.one_tallied _ _ c.count-n.ensures.0 c.count-n.ensures.1)
