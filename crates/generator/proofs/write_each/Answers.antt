-- `generator::write_each` meets its contract. Assumes nothing.
use Rattle.std.proofs.Common.{arith}
use Rattle.entries.specs.Words.{tokens_in}
use Rattle.tallies.proofs.SizeLaws.{literal_fits}
use Rattle.generator.proofs.OutputLaws as law
use Rattle.generator.proofs.write_each.Goals as goal

pub write_literal-w-requires : goal.write_literal-w-requires
write_literal-w-requires c =
    let s = c in
    let l = c.loop-k in
    let t = c.loop-k-test.true in
    (omega (arith, s.requires.1, t), omega (arith, s.requires.1, s.requires.2), (law.next_room (tokens_in s.args.ws.now) s.args.n s.requires.1 l.k l.at s.args.bytes.now s.args.lengths.now l.bytes l.lengths l.invariant t s.requires.4).1)

pub overflow_cast-lengths : goal.overflow_cast-lengths
overflow_cast-lengths c =
    let s = c in
    let l = c.loop-k in
    let t = c.loop-k-test.true in
    let w = c.write_literal-w in
    omega (arith, w.ensures.long, literal_fits s.args.ws.now l.k (omega (arith, s.requires.1, t)), s.requires.0)

pub loop-k-preserved : goal.loop-k-preserved
loop-k-preserved c =
    let s = c in
    let l = c.loop-k in
    let t = c.loop-k-test.true in
    let w = c.write_literal-w in
    law.part_more (tokens_in s.args.ws.now) s.args.n s.requires.1 l.k l.at s.args.bytes.now s.args.lengths.now l.bytes l.lengths l.invariant t w.result w.new.dst s.requires.3 w.ensures

pub returns : goal.returns
returns c =
    let s = c in
    let l = c.loop-k in
    let e = c.loop-k-test.false in
    (law.part_all_bytes (tokens_in s.args.ws.now) s.args.n s.requires.1 l.k l.at s.args.bytes.now s.args.lengths.now l.bytes l.lengths l.invariant e, law.part_all_lengths (tokens_in s.args.ws.now) s.args.n s.requires.1 l.k l.at s.args.bytes.now s.args.lengths.now l.bytes l.lengths l.invariant e)
