-- `compiledoor::compile` meets its contract. Assumes nothing.
use Rattle.compiledoor.proofs.DoorLaws as law
use Rattle.compiledoor.specs.Door.{compile_said}
use Rattle.compiledoor.proofs.compile.Goals as goal

pub returns-then-forward-lt-NODE_POOL : goal.returns-then-forward-lt-NODE_POOL
returns-then-forward-lt-NODE_POOL c =
    let (why, place) = c.into.ensures in
    rw (why, place) (law.small_forward c.args.text.now c.args.forward.now c.args.reverse.now c.if-forward-lt-NODE_POOL.true)

pub returns-then-reverse-lt-NODE_POOL : goal.returns-then-reverse-lt-NODE_POOL
returns-then-reverse-lt-NODE_POOL c =
    let (why, place) = c.into-then-reverse-lt-NODE_POOL.ensures in
    rw (why, place) (law.small_reverse c.args.text.now c.args.forward.now c.args.reverse.now c.if-reverse-lt-NODE_POOL.true)

pub returns : goal.returns
returns c =
    let f = rw c.unwrap-forward.ensures at c.first_chunk_mut.ensures.cases in
    let r = rw c.unwrap-reverse.ensures at c.first_chunk_mut-2.ensures.cases in
    law.both_fit c.args.text.now c.args.forward.now c.args.reverse.now f.enough r.enough (compile_said c.compile_text.result) c.unwrap-forward.result.now c.compile_text.new.forward
    c.unwrap-reverse.result.now c.compile_text.new.reverse f.same r.same c.compile_text.ensures
