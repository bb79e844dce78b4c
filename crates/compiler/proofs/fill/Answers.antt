-- `compiler::fill` meets its contract. Assumes nothing.
use Rattle.compiler.proofs.FillLaws as law
use Rattle.compiler.proofs.fill.Goals as goal

pub returns : goal.returns
returns c = law.filled_by c.args.words.now c.args.pool.now c.copy_from_slice.new.self c.fill.new.self c.requires.0 c.requires.1 c.copy_from_slice.ensures.after c.fill.ensures.after
