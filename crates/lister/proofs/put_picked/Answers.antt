-- What the picking door answers is what the definition picks. Assumes nothing.
use Rattle.std.proofs.Common.{ap, ◌∙◌, length-take, arith}
use Rattle.base.specs.Refusals.{number_of}
use Rattle.def_reading.specs.Lists.{reading}
use Rattle.lines.specs.Lines.{got_lines, literals_refused_line}
use Rattle.printing.proofs.WriterLaws.{writes_same}
use Rattle.lister.specs.Listings.{got_of, lent_bytes, lent_lengths}
use Rattle.lister.proofs.DoorLaws.{taken_door, untaken_door, taken_lines, untaken_lines, zeros, length_zeros}
use Rattle.lister.proofs.put_picked.Goals as goal

pub slice_bounds-lens-end : goal.slice_bounds-lens-end
slice_bounds-lens-end c =
    let k = c.literals in
    let t =
    taken_door (zeros lent_bytes) (zeros lent_lengths) (length_zeros lent_bytes) (length_zeros lent_lengths) c.args.text.now k.new.bytes k.new.lengths
    c.in-Ok.picked k.result c.in-Ok.is k.ensures.0 k.ensures.1 k.ensures.2 in
    omega (arith, t.few, k.auto.lengths, length_zeros lent_lengths)

pub slice_bounds-put_literals-end : goal.slice_bounds-put_literals-end
slice_bounds-put_literals-end c =
    let k = c.literals in
    let t =
    taken_door (zeros lent_bytes) (zeros lent_lengths) (length_zeros lent_bytes) (length_zeros lent_lengths) c.args.text.now k.new.bytes k.new.lengths
    c.in-Ok.picked k.result c.in-Ok.is k.ensures.0 k.ensures.1 k.ensures.2 in
    omega (arith, t.few, k.auto.lengths, length_zeros lent_lengths, length-take c.in-Ok.picked.count k.new.lengths)

pub returns-in-Ok : goal.returns-in-Ok
returns-in-Ok c =
    let k = c.literals in
    let t =
    taken_door (zeros lent_bytes) (zeros lent_lengths) (length_zeros lent_bytes) (length_zeros lent_lengths) c.args.text.now k.new.bytes k.new.lengths
    c.in-Ok.picked k.result c.in-Ok.is k.ensures.0 k.ensures.1 k.ensures.2 in
    writes_same (got_lines (got_of (reading c.args.text.now))) c.put_literals.ensures (taken_lines t)

pub returns-in-Err : goal.returns-in-Err
returns-in-Err c =
    let a = c.args in
    let k = c.literals in
    let r = c.in-Err.refused in
    let e = untaken_door (zeros lent_bytes) (zeros lent_lengths) (length_zeros lent_bytes) (length_zeros lent_lengths) a.text.now r k.result c.in-Err.is k.ensures.0 in
    writes_same (got_lines (got_of (reading a.text.now))) c.put_literals_refused.ensures (ap literals_refused_line c.number.ensures ∙ untaken_lines (reading a.text.now) (number_of r.why) e)
