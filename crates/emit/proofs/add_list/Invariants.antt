-- `emit::add_list` meets its contract. Assumes nothing.
use Rattle.std.proofs.Common.{◌≡◌, ◌≤◌, length}
use Rattle.emit.proofs.HoldLaws as hold
use Rattle.emit.specs.Lists.{added_to, list_item}
use Rattle.emit.proofs.add_list.Given as goal

abbrev pub invariant-loop-k : goal.invariant-loop-k
invariant-loop-k l = (l.written.count ≤ l.k) × (length l.out ≡ length l.initial.out) × hold.Holds (added_to (list_item l.backwards l.entries) l.k) l.initial.out l.out l.written.count l.written.last
