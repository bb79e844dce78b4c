-- The three readers together. A call falls in four times the bytes of text left, with a rank among calls that read nothing. Assumes nothing.
use Rattle.std.proofs.Common.{◌+◌, ◌-◌, ◌*◌, length}
use Rattle.reader.proofs.ListLoop.{Tokened}
use Rattle.reader.proofs.AlternativesLoop.{ListsRead}
use Rattle.reader.proofs.+read_alternatives_read_list_read_token.Given as goal

abbrev pub decreases-read_alternatives : goal.decreases-read_alternatives
decreases-read_alternatives l = 4 * (length l.text.now - l.from.at)

abbrev pub decreases-read_list : goal.decreases-read_list
decreases-read_list l = 4 * (length l.text.now - l.from.at) + 2

abbrev pub decreases-read_token : goal.decreases-read_token
decreases-read_token l = 4 * (length l.text.now - l.from.at) + 1

abbrev pub invariant-read_alternatives-loop-got : goal.invariant-read_alternatives-loop-got
invariant-read_alternatives-loop-got l = ListsRead l.text l.level l.from.count l.from.at l.from.words l.initial.pool l.pool l.x.at l.miss l.x.words l.x.count l.k

abbrev pub decreases-read_alternatives-loop-got : goal.decreases-read_alternatives-loop-got
decreases-read_alternatives-loop-got l = length l.text - l.x.at

abbrev pub invariant-read_list-loop-got : goal.invariant-read_list-loop-got
invariant-read_list-loop-got l = Tokened l.text l.level l.from.count l.from.at l.from.words l.initial.pool l.pool l.to.at l.to.words l.to.count l.k l.first l.last

abbrev pub decreases-read_list-loop-got : goal.decreases-read_list-loop-got
decreases-read_list-loop-got l = length l.text - l.to.at
