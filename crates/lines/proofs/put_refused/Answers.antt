-- The line is one with its name before the number. Assumes nothing.
use Rattle.lines.specs.Lines.{refused_line}
use Rattle.lines.proofs.put_refused.Goals as goal

pub returns : goal.returns
unfolding refused_line
returns c = c.put_numbers_line.ensures
