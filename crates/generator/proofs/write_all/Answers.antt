-- `generator::write_all` meets its contract. Assumes nothing.
use Rattle.std.proofs.Common.{inl, inr, arith}
use Rattle.def_picking.specs.Literals.{literals}
use Rattle.entries.specs.Words.{tokens_in}
use Rattle.generator.proofs.OutputLaws as law
use Rattle.generator.proofs.write_all.Goals as goal
use Rattle.generator.proofs.write_all.Goals.{then-lengths-n-via-then-lengths-n, then-lengths-n-via-else-lengths-n+then-bytes-total_of}

pub returns-then-lengths-n : goal.returns-then-lengths-n
returns-then-lengths-n c =
    let n = c.tally_tokens-n in
    law.too_short (literals (tokens_in c.args.ws.now)) c.args.bytes.now c.args.lengths.now (elim c.then-lengths-n.branch [
      | then-lengths-n-via-then-lengths-n w ↦ inl (omega (arith, w.if-lengths-n.true, law.exact (tokens_in c.args.ws.now) n.result.literals n.ensures.literals_are c.requires.1))
      | then-lengths-n-via-else-lengths-n+then-bytes-total_of w ↦ inr (omega (arith, w.if-bytes-total_of.true, w.total_of.ensures))
    ])

pub returns : goal.returns
returns c =
    let n = c.tally_tokens-n in
    let w = c.write_each.ensures in
    law.all_fit (literals (tokens_in c.args.ws.now)) n.result.literals c.args.bytes.now c.args.lengths.now _ _ (law.exact (tokens_in c.args.ws.now) n.result.literals n.ensures.literals_are c.requires.1) c.if-lengths-n.false (omega (arith, c.if-bytes-total_of.false, c.total_of.ensures)) w.0 w.1
