-- `emit::add_list` meets its contract. Assumes nothing.
use Rattle.std.proofs.Common.{◌∙◌, refl, arith}
use Rattle.emit.proofs.ListLaws as law
use Rattle.emit.proofs.HoldLaws as hold
use Rattle.emit.specs.Lists.{list_item}
use Rattle.emit.proofs.add_list.Goals as goal

pub loop-k-init : goal.loop-k-init
loop-k-init c =
    let (n, last, long) = c.nothing-written.ensures in
    (omega arith, refl, rw (n, last) (law.added_none (list_item c.args.backwards c.args.entries.now) c.args.out.now))

pub add-written-requires : goal.add-written-requires
add-written-requires c = let n = c.as_chunks.ensures.front_len in omega (arith, c.requires)

pub loop-k-preserved : goal.loop-k-preserved
loop-k-preserved c =
    let l = c.loop-k in
    let w = l.written in
    let s = c.as_chunks.ensures in
    let n = s.front_len in
    let p = law.list_addend c.args.backwards c.args.entries.now l.k c.place.result c.as_chunks.result.0.now c.entry_addend.result s.front n c.place.ensures.0 c.place.ensures.1 c.entry_addend.ensures in
    let (x, y, z, t) = c.add-written.ensures in
    let h = law.added_more (list_item c.args.backwards c.args.entries.now) l.k c.args.out.now l.out w.count w.last c.entry_addend.result _ _ _ (law.list_single c.args.backwards c.args.entries.now l.k) p (omega (arith, c.requires)) l.invariant.2 (x, y, z) in
    (omega (arith, hold.put_count_le w.count w.last c.entry_addend.result, x), c.add-written.auto.out ∙ l.invariant.1, h)

pub returns : goal.returns
returns c =
    let l = c.loop-k in
    let n = c.as_chunks.ensures.front_len in
    let h = law.list_done c.args.backwards c.args.entries.now l.k c.args.out.now l.out l.written.count l.written.last (omega arith) l.invariant.2 in
    (h.count, h.front)
