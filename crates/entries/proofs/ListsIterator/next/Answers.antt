-- `entries::Lists::next` meets its contract. Assumes nothing.
use Rattle.std.proofs.Common.{refl}
use Rattle.entries.proofs.WalkLaws as law
use Rattle.entries.proofs.ListsIterator.next.Goals as goal

pub returns-clause-steps : goal.returns-clause-steps
returns-clause-steps c = law.front_list c.args.self.now.words.now c.if-ws-lt-ENTRY.false _ _ _ c.end_of-e.ensures.0 refl refl
