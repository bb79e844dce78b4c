-- The line is that of the node that the word says. Assumes nothing.
use Rattle.std.proofs.Common.{ap}
use Rattle.lines.specs.Lines.{shape_line, node_line}
use Rattle.printing.proofs.WriterLaws.{writes_none, writes_same}
use Rattle.lines.proofs.put_node.Goals as goal

pub returns-in-Some-One : goal.returns-in-Some-One
unfolding node_line
returns-in-Some-One c =
    let arm = c.in-Some-One in
    writes_same (node_line c.args.word) c.put_test.ensures (ap shape_line (rw arm.field-0-is at arm.ensures))

pub returns-in-Some-Jump : goal.returns-in-Some-Jump
unfolding node_line
returns-in-Some-Jump c =
    let arm = c.in-Some-Jump in
    writes_same (node_line c.args.word) (rw c.from.ensures at c.put_number_line.ensures) (ap shape_line (rw arm.field-0-is at arm.ensures))

pub returns-in-Some-JumpRange : goal.returns-in-Some-JumpRange
unfolding node_line
returns-in-Some-JumpRange c =
    let arm = c.in-Some-JumpRange in
    writes_same (node_line c.args.word) (rw (c.from-in-Some-JumpRange.ensures, c.from-in-Some-JumpRange-2.ensures) at c.put_numbers_line.ensures) (ap shape_line (rw arm.field-0-is at arm.ensures))

pub returns-in-Some-Alternation : goal.returns-in-Some-Alternation
unfolding node_line
returns-in-Some-Alternation c =
    let arm = c.in-Some-Alternation in
    writes_same (node_line c.args.word) (rw c.from-in-Some-Alternation.ensures at c.put_number_line-in-Some-Alternation.ensures) (ap shape_line (rw arm.field-0-is at arm.ensures))

pub returns-in-Some-AltBranch : goal.returns-in-Some-AltBranch
unfolding node_line
returns-in-Some-AltBranch c =
    let arm = c.in-Some-AltBranch in
    writes_same (node_line c.args.word) (rw c.from-in-Some-AltBranch.ensures at c.put_number_line-in-Some-AltBranch.ensures) (ap shape_line (rw arm.field-0-is at arm.ensures))

pub returns-in-None : goal.returns-in-None
unfolding node_line
returns-in-None c =
    writes_same (node_line c.args.word) (writes_none c.args.w.now) (ap shape_line c.in-None.ensures)
