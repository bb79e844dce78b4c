-- Once the literals that are left are written, all are. Assumes nothing.
use Rattle.std.proofs.Common.{◌≡◌, ◌+◌, ◌*◌, ◌-◌, ◌≤◌, length, drop}
use Rattle.printing.specs.declared.Writer.{Writer}
use Rattle.printing.specs.Writing.{Writes}
use Rattle.lines.specs.Lines.{literal_lines, cut}
use Rattle.lines.proofs.put_each_literal.Given as goal

abbrev pub invariant-loop-n : goal.invariant-loop-n
invariant-loop-n l =
    record {
      left : length l.rest ≤ length l.bytes;
      place : l.w.at ≡ l.fn.w.at + 2 * (length l.bytes - length l.rest) + l.n-index;
      all : (t : Writer) → Writes l.w (literal_lines (cut (drop l.n-index l.lens) l.rest)) t → Writes l.fn.w (literal_lines (cut l.lens l.bytes)) t;
    }
