-- `literaldoor::write_winner` meets its contract. Assumes nothing.
use Rattle.std.proofs.Common.{◌-◌, take, drop}
use Rattle.def_picking.specs.Literals.{literals as literalsOf}
use Rattle.entries.specs.Words.{tokens_in}
use Rattle.literaldoor.proofs.DoorLaws as law
use Rattle.literaldoor.proofs.write_winner.Goals as goal

pub returns-in_default : goal.returns-in_default
returns-in_default c = rw c.in_default.is (law.nothing_chosen c.args.reached c.args.bytes.now c.args.lengths.now)

pub returns-in-Err : goal.returns-in-Err
returns-in-Err c =
    rw c.in-Some.is (law.words_chosen c.args.reached c.args.ws.now c.in-Some.taken c.args.bytes.now c.args.lengths.now _ _ _ (law.none_written c.args.reached (literalsOf (tokens_in (take (c.in-Some.taken.to - c.in-Some.taken.from) (drop c.in-Some.taken.from c.args.ws.now)))) c.in-Some.taken.rank c.write_all.result c.args.bytes.now c.args.lengths.now c.write_all.new.bytes c.write_all.new.lengths (rw c.words.ensures at c.write_all.ensures) c.in-Err.why c.in-Err.is))

pub returns-in-Ok : goal.returns-in-Ok
returns-in-Ok c =
    rw c.in-Some.is (law.words_chosen c.args.reached c.args.ws.now c.in-Some.taken c.args.bytes.now c.args.lengths.now _ _ _ (law.all_written c.args.reached (literalsOf (tokens_in (take (c.in-Some.taken.to - c.in-Some.taken.from) (drop c.in-Some.taken.from c.args.ws.now)))) c.in-Some.taken.rank c.write_all.result c.args.bytes.now c.args.lengths.now c.write_all.new.bytes c.write_all.new.lengths (rw c.words.ensures at c.write_all.ensures) c.in-Ok.count c.in-Ok.is))
