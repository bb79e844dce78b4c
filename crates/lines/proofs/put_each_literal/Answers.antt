-- Once the literals that are left are written, all are. Assumes nothing.
use Rattle.std.proofs.Common.{ℕ, ◌+◌, List, ◌++◌, drop, sym, ap₂, ◌∙◌, arith}
use Rattle.lines.specs.Lines.{literal_line, literal_lines, cut}
use Rattle.printing.proofs.WriterLaws.{writes_none, writes_then, writes_same}
use Rattle.lines.proofs.LineLaws.{length_literal, literals_none, literals_step}
use Rattle.lines.proofs.put_each_literal.Goals as goal

pub loop-n-preserved : goal.loop-n-preserved
loop-n-preserved c =
    let l = c.loop-n in
    let lens = c.args.lens.now in
    let i = l.n-index in
    let w = c.put_literal.ensures in
    let next = w.put.next in
    let h = length_literal c.split_at.result.0.now in
    let cuts = c.split_at.ensures in
    let e = rw c.from.ensures at c.min.ensures in
    let s = literals_step lens l.rest.now i c.min.result c.loop-n-test.true e in
    let both = ap₂ (λ (x y : List ℕ). literal_line x ++ literal_lines (cut (drop (i + 1) lens) y)) cuts.front cuts.back in
    record {
      left = omega arith;
      place = omega arith;
      all = λ t z. l.invariant.all t (writes_same (literal_lines (cut (drop i lens) l.rest.now)) (writes_then w z) (both ∙ s));
    }

pub returns : goal.returns
returns c =
    let l = c.loop-n in
    let e = literals_none c.args.lens.now l.rest.now l.n-index c.loop-n-test.false in
    l.invariant.all l.w (writes_same (literal_lines (cut (drop l.n-index c.args.lens.now) l.rest.now)) (writes_none l.w) (sym e))
