-- Each arm of the match is a kind of the definition. Assumes nothing.
use mathlib.Core.Path.{sym, ◌∙◌}
use borrow.Author.Tests.{ne_eqb}
use Rattle.def_meaning.specs.Words.{shape, shape_by}
use Rattle.nodes.proofs.node_of.Goals as goal

pub returns-in-0 : goal.returns-in-0
unfolding shape shape_by
returns-in-0 c =
    let k = sym c.kind.ensures ∙ c.in-0.is in
    rw (k, c.first-a.ensures)

pub returns-in-1 : goal.returns-in-1
unfolding shape shape_by
returns-in-1 c =
    let k = sym c.kind.ensures ∙ c.in-1.is in
    rw (k, c.first-a.ensures, c.second-b.ensures)

pub returns-in-2 : goal.returns-in-2
unfolding shape shape_by
returns-in-2 c =
    let k = sym c.kind.ensures ∙ c.in-2.is in
    rw (k, c.first-a.ensures, c.second-b.ensures)

pub returns-in-3 : goal.returns-in-3
unfolding shape shape_by
returns-in-3 c =
    let k = sym c.kind.ensures ∙ c.in-3.is in
    rw (k, c.first-a.ensures)

pub returns-in-4 : goal.returns-in-4
unfolding shape shape_by
returns-in-4 c =
    let k = sym c.kind.ensures ∙ c.in-4.is in
    rw (k, c.first-a.ensures, c.second-b.ensures)

pub returns-in-5 : goal.returns-in-5
unfolding shape shape_by
returns-in-5 c =
    let k = sym c.kind.ensures ∙ c.in-5.is in
    rw k

pub returns-in-6 : goal.returns-in-6
unfolding shape shape_by
returns-in-6 c =
    let k = sym c.kind.ensures ∙ c.in-6.is in
    rw (k, c.count.ensures)

pub returns-in-7 : goal.returns-in-7
unfolding shape shape_by
returns-in-7 c =
    let k = sym c.kind.ensures ∙ c.in-7.is in
    rw (k, c.first-a.ensures)

pub returns-in_default : goal.returns-in_default
unfolding shape shape_by
returns-in_default c =
    let r = c.in_default.in_default-own.rest in
    let k = sym c.kind.ensures in
    simp (k, ne_eqb _ 0 r.0.0.0.0.0.0.0.1, ne_eqb _ 1 r.0.0.0.0.0.0.1, ne_eqb _ 2 r.0.0.0.0.0.1, ne_eqb _ 3 r.0.0.0.0.1, ne_eqb _ 4 r.0.0.0.1, ne_eqb _ 5 r.0.0.1, ne_eqb _ 6 r.0.1, ne_eqb _ 7 r.1)
