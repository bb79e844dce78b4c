-- `emit::add_alternation` meets its contract. Assumes nothing.
use Rattle.emit.proofs.AltLaws as law
use Rattle.std.proofs.Common.{length-take, length-drop, arith}
use Rattle.emit.proofs.add_alternation.Goals as goal

pub add_lists-b-requires : goal.add_lists-b-requires
add_lists-b-requires c =
    let f = law.alt_fits c.args.tokens.now c.args.at c.requires.0 c.requires.1 in
    let s = law.size_five c.args.tokens.now c.args.at c.requires.1 in
    let pre = c.requires in
    let p = law.handed_long c.args.tokens.now c.args.at c.requires.0 c.requires.1 in
    (law.handed_lists c.args.tokens.now c.args.at c.requires.0 c.requires.1, omega arith, simp (length-take, length-drop) (omega arith))

pub returns : goal.returns
returns c =
    let f = law.alt_fits c.args.tokens.now c.args.at c.requires.0 c.requires.1 in
    let s = law.size_five c.args.tokens.now c.args.at c.requires.1 in
    let pre = c.requires in law.alternation c.args.tokens.now c.args.at c.requires.0 c.requires.1 c.args.backwards c.args.out.now
    c.add_lists-b.new.out c.add_lists-b.result.count c.into.result c.add_lists-b.result.long (omega arith) c.add_lists-b.ensures.0 c.add_lists-b.ensures.1
    c.add_lists-b.ensures.2 c.into.ensures
