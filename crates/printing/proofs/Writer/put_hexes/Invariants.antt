-- What is written so far is what the bytes so far give. Assumes nothing.
use Rattle.std.proofs.Common.{take}
use mathlib.Core.List.{flat_map}
use Rattle.printing.specs.Writing.{Writes}
use Rattle.printing.specs.Numbers.{hex_of}
use Rattle.printing.proofs.Writer.put_hexes.Given as goal

abbrev pub invariant-loop-b : goal.invariant-loop-b
invariant-loop-b l = Writes l.initial.self (flat_map hex_of (take l.b-index l.s)) l.self
