-- `entries::Tokens::next` meets its contract. Assumes nothing.
use Rattle.std.proofs.Common.{refl, arith}
use Rattle.entries.proofs.WalkLaws as law
use Rattle.entries.proofs.TokensIterator.next.Goals as goal

pub returns-then-head-ne-ALTERNATIVES-clause-steps : goal.returns-then-head-ne-ALTERNATIVES-clause-steps
returns-then-head-ne-ALTERNATIVES-clause-steps c =
    let h = c.in_ok-head.ensures.cases in
    law.front_entry c.args.self.now.words.now (omega (arith, h)) c.in_ok-head.head.now _ _ h.0 c.if-head-ne-ALTERNATIVES.true c.from.ensures h.1

pub returns-clause-steps : goal.returns-clause-steps
returns-clause-steps c =
    let h = c.in_ok-head.ensures.cases in
    law.front_alternatives c.args.self.now.words.now (omega (arith, h)) c.in_ok-head.head.now _ _ _ h.0 c.if-head-ne-ALTERNATIVES.false c.end_of-e.ensures refl refl
