-- `hits::hits` meets its contract. Assumes nothing.
use Rattle.std.proofs.Common.{◌≡◌}
use Rattle.hits.proofs.HitLaws.{hit_in}
use Rattle.hits.proofs.hits.Given as goal

abbrev pub invariant-loop-i : goal.invariant-loop-i
invariant-loop-i g l = l.last ≡ hit_in g.W.Way.order l.words l.hay l.i
