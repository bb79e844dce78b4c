-- The line is one with its name before the number. Assumes nothing.
use Rattle.lines.specs.Lines.{literals_refused_line}
use Rattle.lines.proofs.put_literals_refused.Goals as goal

pub returns : goal.returns
unfolding literals_refused_line
returns c = c.put_number_line.ensures
