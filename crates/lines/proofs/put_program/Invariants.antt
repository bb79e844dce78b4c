-- What is written so far is the head and the lines of the nodes so far. Assumes nothing.
use Rattle.std.proofs.Common.{◌++◌, length, take}
use mathlib.Core.List.{flat_map}
use Rattle.printing.specs.Writing.{Writes}
use Rattle.lines.specs.Lines.{number_line, node_line}
use Rattle.lines.proofs.put_program.Given as goal

abbrev pub invariant-loop-word : goal.invariant-loop-word
invariant-loop-word l = Writes l.fn.w (number_line l.name (length l.words) ++ flat_map node_line (take l.word-index l.words)) l.w
