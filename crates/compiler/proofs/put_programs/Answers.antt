-- `compiler::put_programs` meets its contract. Assumes nothing.
use Rattle.std.proofs.Common.{sym, ◌∙◌}
use Rattle.compiler.proofs.FillLaws as fill
use Rattle.compiler.proofs.ProgramLaws as law
use Rattle.compiler.proofs.put_programs.Goals as goal

pub returns-then-not-simple_tokens : goal.returns-then-not-simple_tokens
returns-then-not-simple_tokens c =
    λ ts e s. law.not_simple_made ts c.args.forward.now c.args.reverse.now (sym (c.simple_tokens.ensures ts e) ∙ c.if-not-simple_tokens.true)

pub returns-in_err-sizes : goal.returns-in_err-sizes
returns-in_err-sizes c =
    λ ts e s. fill.passed_puts _ c.make.result c.from_residual.result c.in_err-sizes.field-0.0 _ _ c.args.forward.now c.args.reverse.now (c.make.ensures.made ts e s) c.in_err-sizes.was
    c.from_residual.ensures.1

pub returns : goal.returns
returns c =
    λ ts e s. fill.made_puts _ c.in_ok-sizes.sizes c.make.new.first c.make.new.second c.args.forward.now c.args.reverse.now _ _
    (rw c.in_ok-sizes.was at (c.make.ensures.made ts e s)) c.fill.ensures c.fill-2.ensures
