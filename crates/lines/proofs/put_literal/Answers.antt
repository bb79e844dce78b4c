-- One run of bytes after another. Assumes nothing.
use Rattle.std.proofs.Common.{arith}
use Rattle.lines.specs.Lines.{literal_line}
use Rattle.printing.proofs.WriterLaws.{writes_then}
use Rattle.printing.proofs.NumberLaws.{length_hexes}
use Rattle.lines.proofs.put_literal.Goals as goal

pub put_byte-requires : goal.put_byte-requires
put_byte-requires c =
    let l = length_hexes c.args.s.now in
    let m = c.put_hexes.ensures.put.next in
    omega arith

pub returns : goal.returns
unfolding literal_line
returns c =
    writes_then c.put_hexes.ensures c.put_byte.ensures
