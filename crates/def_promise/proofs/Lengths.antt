-- The length that picking gives to tokens is that of their shortest literal. Assumes nothing.
use Rattle.std.proofs.Common.{◌≡◌, true, length}
use Rattle.def_meaning.specs.Tokens.{Tokens}
use Rattle.def_meaning.specs.Values.{Spelled}
use Rattle.def_picking.specs.Literals.{literals, listable, length_in}
use Rattle.def_picking.proofs.LengthLaws.{literal_lengths}
use Rattle.def_picking.proofs.ShortestLaws.{shortest_reached}
use Rattle.def_promise.specs.Literals.{Least}

-- of tokens without `??` and jumps, as a text spells them
pub shortest_length : (ts : Tokens) → listable ts ≡ true → Spelled ts → Least length (literals ts) (length_in ts)
shortest_length ts k w = record { reached = shortest_reached ts k w; none_below = λ s m. (literal_lengths ts s m).0 }
