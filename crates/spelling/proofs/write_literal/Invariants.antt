-- `spelling::write_literal` meets its contract. Assumes nothing.
use Rattle.std.proofs.Common.{◌*◌, ◌<◌}
use Rattle.def_picking.specs.Numbers.{count, ending, literal_at}
use Rattle.entries.specs.Words.{tokens_in}
use Rattle.prefixes.specs.Numbers.{Numerable}
use Rattle.spelling.proofs.WriteLaws.{Halfway}
use Rattle.spelling.proofs.write_literal.Given as goal

abbrev pub invariant-loop-token : goal.invariant-loop-token
invariant-loop-token l =
    (goal.iterator-loop-token).can_next l.tokens × (goal.iterator-loop-token).is_finite l.tokens
    × Numerable l.p (count (tokens_in l.tokens.words.now))
    × Halfway (literal_at (tokens_in l.ws) l.k) (ending (tokens_in l.tokens.words.now) l.p l.k) l.i l.initial.dst l.dst
    × (l.k < l.p * count (tokens_in l.tokens.words.now))
