-- `spelling::write_token` meets its contract. Assumes nothing.
use Rattle.std.proofs.Common.{arith}
use Rattle.def_picking.specs.Numbers.{count, ending_of}
use Rattle.spelling.proofs.SpellLaws as spell
use Rattle.spelling.proofs.WriteLaws as write
use Rattle.spelling.proofs.write_token.Goals as goal

pub write_branch-requires : goal.write_branch-requires
unfolding count ending_of
write_branch-requires c = (c.requires.prefixes, rw c.in-Alternatives.is at c.requires.few, rw c.in-Alternatives.is at c.requires.fits)

pub returns-in-Alternatives : goal.returns-in-Alternatives
unfolding ending_of
returns-in-Alternatives c = rw c.in-Alternatives.is c.write_branch.ensures

pub nonzero_rem-q : goal.nonzero_rem-q
nonzero_rem-q c = let h = rw c.in-One.is at c.requires.some in omega (arith, spell.one_some c.in-One.entry c.count.result c.count.ensures.0 h)

pub at-requires : goal.at-requires
at-requires c =
    let h = rw c.in-One.is at c.requires.some in
    spell.number_fits c.in-One.entry c.args.q _ c.count.ensures.0 (spell.one_some c.in-One.entry c.count.result c.count.ensures.0 h)

pub bounds-dst-0 : goal.bounds-dst-0
bounds-dst-0 c = let h = rw c.in-One.is at c.requires.fits in spell.one_room c.in-One.entry c.args.p c.args.q _ h

pub returns-in-One : goal.returns-in-One
returns-in-One c =
    let h = rw c.in-One.is at c.requires.fits in
    rw (c.in-One.is, spell.ending_is c.in-One.entry c.args.p c.args.q _ _ c.count.ensures.0 c.at.ensures)
    (write.one_written c.at.result c.args.dst.now (spell.one_room c.in-One.entry c.args.p c.args.q _ h))
