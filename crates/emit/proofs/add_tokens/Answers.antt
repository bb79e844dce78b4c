-- `emit::add_tokens` meets its contract. Assumes nothing.
use Rattle.std.proofs.Common.{ℕ, ap, ◌∙◌, get_or, arith}
use Rattle.emit.proofs.TokensLaws as law
use Rattle.emit.proofs.LinkLaws as link
use Rattle.emit.proofs.add_tokens.Goals as goal

pub loop-k-init : goal.loop-k-init
loop-k-init c =
    let (n, last, long) = c.nothing-written.ensures in
    rw (n, last, long) (law.done_none c.args.backwards c.args.tokens.now c.args.starts.now c.args.out.now)

pub add_token-written-requires : goal.add_token-written-requires
add_token-written-requires c =
    let l = c.loop-k in
    let w = l.written in
    let s = l.invariant.same in (
      rw c.from-at.ensures (link.token_stands c.args.backwards c.args.tokens.now c.args.starts.now c.requires.0 c.place.result c.place.ensures.1),
      c.requires.1,
      omega (
        arith,
        law.token_fits c.args.backwards c.args.tokens.now c.args.starts.now c.args.out.now l.out w.count w.last w.long l.k l.invariant c.requires.0 c.requires.2 c.loop-k-test.true c.from-at.result
            (c.from-at.ensures ∙ ap (λ (i : ℕ). get_or c.args.starts.now i 0) c.place.ensures.0),
        c.requires.2,
      ),
    )

pub loop-k-preserved : goal.loop-k-preserved
loop-k-preserved c =
    let l = c.loop-k in
    let w = l.written in
    let t = c.add_token-written in
    law.done_more c.args.backwards c.args.tokens.now c.args.starts.now c.args.out.now l.out w.count w.last w.long l.k l.invariant c.requires.0 c.requires.2 c.loop-k-test.true c.from-at.result
    (c.from-at.ensures ∙ ap (λ (i : ℕ). get_or c.args.starts.now i 0) c.place.ensures.0) t.result.count t.result.last t.result.long t.new.out t.auto.out t.ensures

pub returns : goal.returns
returns c =
    let l = c.loop-k in
    let w = l.written in
    let q = law.done_all c.args.backwards c.args.tokens.now c.args.starts.now c.args.out.now l.out w.count w.last w.long l.k l.invariant c.loop-k-test.false in
    (q.0, q.1, q.2.front)
