-- One program, and then the other. Assumes nothing.
use Rattle.std.proofs.Common.{arith}
use Rattle.base.specs.Text.{ascii}
use Rattle.lines.specs.Lines.{programs_lines}
use Rattle.printing.proofs.WriterLaws.{writes_then}
use Rattle.lines.proofs.ListingLaws.{length_program}
use Rattle.lines.proofs.put_programs.Goals as goal

pub put_program-requires-2 : goal.put_program-requires-2
put_program-requires-2 c =
    let b = length_program (ascii "forward ") c.args.forward.now 19 (omega arith) in
    let m = c.put_program.ensures.put.next in
    omega arith

pub returns : goal.returns
unfolding programs_lines
returns c =
    writes_then c.put_program.ensures c.put_program-2.ensures
