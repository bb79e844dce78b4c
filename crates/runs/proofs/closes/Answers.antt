-- `runs::closes` meets its contract. Assumes nothing.
use Rattle.std.proofs.Common.{ap, ◌∙◌, not}
use Rattle.runs.proofs.SegmentLaws as law
use Rattle.runs.proofs.closes.Goals as goal

pub returns-in-One : goal.returns-in-One
returns-in-One c = rw c.in-One.is (ap not c.is_plain.ensures ∙ law.one_closes c.in-One.entry)

pub returns-in-Alternatives : goal.returns-in-Alternatives
returns-in-Alternatives c = rw c.in-Alternatives.is (law.alternatives_open _)
