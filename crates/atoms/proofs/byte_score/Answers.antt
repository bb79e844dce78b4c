-- `atoms::byte_score` meets its contract. Assumes nothing.
use Rattle.atoms.proofs.Laws.{among_one, among_none}
use Rattle.atoms.specs.Score.{common, byte_score}
use Rattle.atoms.proofs.byte_score.Goals as goal

pub returns-in-0 : goal.returns-in-0
unfolding byte_score common
returns-in-0 c =
    rw (among_one c.args.b common c.in-0.is)

pub returns-in_default : goal.returns-in_default
unfolding byte_score common
returns-in_default c =
    rw (among_none c.args.b common c.in_default.in_default-own.rest.1)
