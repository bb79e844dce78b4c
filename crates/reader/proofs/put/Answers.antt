-- Word by word the entry is written. Assumes nothing.
use Rattle.std.proofs.Common.{◌≡◌, get_or, length, sym, ap, ◌∙◌, arith}
use Rattle.std.proofs.NetLemmas.Arrays.{four_items}
use Rattle.reader.specs.Written.{written}
use Rattle.reader.proofs.WrittenLaws.{written_four}
use Rattle.reader.proofs.put.Goals as goal

pub returns : goal.returns
returns c =
    let e = c.args.entry in
    let l : length e ≡ 4 = omega arith in
    written_four c.args.pool.now c.args.n (get_or e 0 0) (get_or e 1 0) (get_or e 2 0) (get_or e 3 0) c.requires ∙ ap (written c.args.pool.now c.args.n) (sym (four_items e l))
