-- One run of bytes after another. Assumes nothing.
use Rattle.std.proofs.Common.{arith}
use Rattle.lines.specs.Lines.{number_line}
use Rattle.printing.proofs.WriterLaws.{writes_three}
use Rattle.printing.proofs.NumberLaws.{decimal_length}
use Rattle.lines.proofs.put_number_line.Goals as goal

pub put_byte-requires : goal.put_byte-requires
put_byte-requires c =
    let l = decimal_length 19 c.args.n (omega arith) in
    let m = c.put_bytes.ensures.put.next in
    let k = c.put_decimal.ensures.put.next in
    omega arith

pub returns : goal.returns
unfolding number_line
returns c =
    writes_three c.put_bytes.ensures c.put_decimal.ensures c.put_byte.ensures
