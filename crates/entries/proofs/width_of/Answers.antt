-- `entries::width_of` meets its contract. Assumes nothing.
use borrow.Author.Tests.{eq-eqb, ne_eqb}
use Rattle.entries.specs.Words.{width}
use Rattle.entries.proofs.width_of.Goals as goal

pub returns-then-ws-eq-ALTERNATIVES : goal.returns-then-ws-eq-ALTERNATIVES
unfolding width
returns-then-ws-eq-ALTERNATIVES c =
    rw (eq-eqb _ 5 c.if-ws-eq-ALTERNATIVES.true) c.end_of.ensures.0

pub returns-else-ws-eq-ALTERNATIVES : goal.returns-else-ws-eq-ALTERNATIVES
unfolding width
returns-else-ws-eq-ALTERNATIVES c =
    rw (ne_eqb _ 5 c.if-ws-eq-ALTERNATIVES.false)
