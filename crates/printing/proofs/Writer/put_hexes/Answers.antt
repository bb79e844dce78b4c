-- What is written so far is what the bytes so far give. Assumes nothing.
use Rattle.std.proofs.Common.{◌≡◌, [], length, take, sym, arith}
use mathlib.Core.List.{flat_map}
use Rattle.std.proofs.Math.Seq.{length-take-le}
use Rattle.printing.specs.Numbers.{hex_of}
use Rattle.printing.proofs.LaidLaws.{flat_map_none}
use Rattle.printing.proofs.WriterLaws.{writes_none, writes_same, writes_each}
use Rattle.printing.proofs.NumberLaws.{length_hexes}
use Rattle.printing.proofs.Writer.put_hexes.Goals as goal

pub loop-b-init : goal.loop-b-init
loop-b-init c =
    writes_same (flat_map hex_of []) (writes_none c.args.self.now) (sym (flat_map_none hex_of))

pub put_hex-requires : goal.put_hex-requires
put_hex-requires c =
    let l = c.loop-b in
    let s = c.args.s.now in
    let n = l.invariant.put.next in
    let e = length_hexes (take l.b-index s) in
    let m : length (take l.b-index s) ≡ l.b-index = length-take-le l.b-index s (omega arith) in
    omega arith

pub loop-b-preserved : goal.loop-b-preserved
loop-b-preserved c =
    let l = c.loop-b in
    writes_each [] hex_of c.args.s.now l.b-index c.loop-b-test.true l.invariant c.put_hex.ensures
