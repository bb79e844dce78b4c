-- One run of bytes after another. Assumes nothing.
use Rattle.std.proofs.Common.{arith}
use Rattle.lines.specs.Lines.{numbers_line}
use Rattle.printing.proofs.WriterLaws.{writes_three}
use Rattle.printing.proofs.NumberLaws.{decimal_length}
use Rattle.lines.proofs.put_numbers_line.Goals as goal

pub put_number_line-requires : goal.put_number_line-requires
put_number_line-requires c =
    let l = decimal_length 19 c.args.n (omega arith) in
    let m = c.put_bytes.ensures.put.next in
    let k = c.put_decimal.ensures.put.next in
    omega arith

pub returns : goal.returns
unfolding numbers_line
returns c =
    writes_three c.put_bytes.ensures c.put_decimal.ensures c.put_number_line.ensures
