-- `emit::Written::add_token` meets its contract. Assumes nothing.
use Rattle.std.proofs.Common.{refl, arith}
use Rattle.emit.proofs.AltLaws as law
use Rattle.emit.specs.Lists.{alt_at, entry_at, token_at}
use Rattle.emit.proofs.Written.add_token.Goals as goal

pub returns-then-kind-eq5 : goal.returns-then-kind-eq5
returns-then-kind-eq5 c =
    let w = c.args.self in
    let b = c.add_alternation-b in
    let s = law.size_least c.args.tokens.now c.args.at in
    law.step_alt c.args.out.now w.count w.last w.long (alt_at c.args.backwards c.args.tokens.now c.args.at) (token_at c.args.backwards c.args.tokens.now c.args.at)
    b.new.out b.result.count b.result.long _ (law.token_five c.args.tokens.now c.args.at c.args.backwards c.if-kind-eq5.true) (omega (arith, c.requires)) b.ensures.0 b.ensures.1 refl b.ensures.2

pub returns : goal.returns
returns c =
    let w = c.args.self in
    let (x, y, z, t) = c.add.ensures in
    let q = law.step_single c.args.out.now w.count w.last w.long
    (token_at c.args.backwards c.args.tokens.now c.args.at) (entry_at c.args.tokens.now c.args.at) c.entry_addend.result _ _ _
    (law.token_other c.args.tokens.now c.args.at c.args.backwards c.if-kind-eq5.false) (law.entry_at_single c.args.tokens.now c.args.at)
    (law.entry_addend_is c.args.tokens.now c.args.at c.entry_addend.result c.entry_addend.ensures) (x, y, z) in
    rw t q
