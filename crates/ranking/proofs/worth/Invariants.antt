-- `ranking::worth` meets its contract. Assumes nothing.
use Rattle.std.proofs.Common.{◌≡◌, drop}
use Rattle.entries.specs.Words.{tokens_in}
use Rattle.def_picking.specs.Candidates.{lowest, least}
use Rattle.def_picking.specs.Literals.{literals}
use Rattle.atoms.specs.Score.{literal_score}
use Rattle.ranking.proofs.worth.Given as goal

abbrev pub invariant-loop-k : goal.invariant-loop-k
invariant-loop-k l = least literal_score (literals (tokens_in l.ws)) ≡ lowest literal_score (drop l.k (literals (tokens_in l.ws))) l.least
