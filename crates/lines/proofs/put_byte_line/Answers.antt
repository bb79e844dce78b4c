-- One run of bytes after another. Assumes nothing.
use Rattle.std.proofs.Common.{◌%◌, ap, arith}
use Rattle.def_meaning.specs.Words.{byte_size}
use Rattle.printing.specs.Numbers.{hex_of}
use Rattle.lines.specs.Lines.{byte_line}
use Rattle.printing.proofs.WriterLaws.{writes_same, writes_three}
use Rattle.lines.proofs.put_byte_line.Goals as goal

pub put_byte-requires : goal.put_byte-requires
unfolding hex_of
put_byte-requires c =
    let m = c.put_bytes.ensures.put.next in
    let k = c.put_hex.ensures.put.next in
    omega arith

pub returns : goal.returns
unfolding byte_line
returns c =
    writes_three c.put_bytes.ensures (writes_same (hex_of (c.args.v % byte_size)) c.put_hex.ensures (ap hex_of c.byte_of.ensures)) c.put_byte.ensures
