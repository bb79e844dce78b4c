-- The head's line, and then the others. Assumes nothing.
use Rattle.std.proofs.Common.{◌++◌, ℕ, length, sym, ap, arith}
use Rattle.base.specs.Text.{ascii}
use Rattle.lines.specs.Lines.{numbers_line, literal_lines, literals_lines, cut}
use Rattle.printing.proofs.WriterLaws.{writes_then, writes_same}
use Rattle.lines.proofs.LineLaws.{length_numbers, length_cut}
use Rattle.lines.proofs.put_literals.Goals as goal

pub put_each_literal-requires : goal.put_each_literal-requires
put_each_literal-requires c =
    let a = c.args in
    let b = length_numbers (ascii "literals ") (ascii " rank ") 19 19 (length a.lens.now) a.rank (omega arith) (omega arith) in
    let m = c.put_numbers_line.ensures.put.next in
    omega arith

pub returns : goal.returns
unfolding literals_lines
returns c =
    let a = c.args in
    let ls = cut a.lens.now a.bytes.now in
    writes_same (literals_lines a.rank ls)
    (writes_then c.put_numbers_line.ensures c.put_each_literal.ensures)
    (ap (λ (n : ℕ). numbers_line (ascii "literals ") n (ascii " rank ") a.rank ++ literal_lines ls) (sym (length_cut a.lens.now a.bytes.now)))
