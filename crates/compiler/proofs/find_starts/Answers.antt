-- `compiler::find_starts` meets its contract. Assumes nothing.
use Rattle.compiler.proofs.WalkLaws as law
use Rattle.emit.proofs.AltLaws as alts
use Rattle.std.proofs.Common.{set, length-set, ℕ, ◌+◌, sym, ◌∙◌, subst, arith}
use Rattle.compiler.proofs.find_starts.Goals as goal

pub loop-at-preserved : goal.loop-at-preserved
loop-at-preserved c =
    let s = alts.size_least c.args.ws.now c.loop-at.at in
    let f = law.marked_fits c.args.ws.now c.args.starts.now c.loop-at.starts c.loop-at.at c.loop-at.n c.requires.0.tokens c.loop-at-test.true
    (c.loop-at.invariant.1 c.requires.0.tokens c.requires.0.entered) in
    let l = c.requires.0.short in
    let g = (c.loop-at.invariant.1 c.requires.0.tokens c.requires.0.entered).few in
    let r = c.requires.1 in (
      length-set c.loop-at.starts c.loop-at.n _
          ∙ c.loop-at.invariant.0,
      λ ts e. subst
          (λ (k : ℕ). law.Marked c.args.ws.now c.args.starts.now (set c.loop-at.starts c.loop-at.n c.loop-at.at) (c.loop-at.at + k) (c.loop-at.n + 1) ts)
          (sym c.token_size-at.ensures)
          (law.marked_step c.args.ws.now c.args.starts.now c.loop-at.starts c.loop-at.at c.loop-at.n ts c.loop-at-test.true (omega arith) (c.loop-at.invariant.1 ts e)),
    )

pub returns : goal.returns
returns c =
    λ ts e. law.marked_end c.args.ws.now c.args.starts.now c.loop-at.starts c.loop-at.at c.loop-at.n ts c.loop-at-test.false (c.loop-at.invariant.1 ts e)
