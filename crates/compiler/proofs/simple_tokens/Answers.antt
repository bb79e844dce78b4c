-- `compiler::simple_tokens` meets its contract. Assumes nothing.
use Rattle.compiler.proofs.WalkLaws as law
use Rattle.std.proofs.Common.{ℕ, ◌+◌, sym, ◌∙◌, subst}
use Rattle.compiler.proofs.simple_tokens.Goals as goal

pub returns-then-not-simple_at : goal.returns-then-not-simple_at
returns-then-not-simple_at c =
    λ ts e. sym ((law.walk_step c.args.ws.now c.loop-at.at ts c.loop-at-test.true (c.loop-at.invariant ts e)).fails (sym c.simple_at.ensures ∙ c.if-not-simple_at.true))

pub loop-at-preserved : goal.loop-at-preserved
loop-at-preserved c =
    λ ts e. subst (λ (n : ℕ). law.Walked c.args.ws.now (c.loop-at.at + n) ts) (sym c.token_size-at.ensures) ((law.walk_step c.args.ws.now c.loop-at.at ts c.loop-at-test.true (c.loop-at.invariant ts e)).passes (sym c.simple_at.ensures ∙ c.if-not-simple_at.false))

pub returns : goal.returns
returns c =
    λ ts e. sym (law.walk_end c.args.ws.now c.loop-at.at ts c.loop-at-test.false (c.loop-at.invariant ts e))
