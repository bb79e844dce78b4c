-- The answer for all words is the answer for those that are left. Assumes nothing.
use Rattle.std.proofs.Common.{refl, sym, ◌∙◌}
use Rattle.sound.proofs.SoundSteps as law
use Rattle.sound.proofs.pieces.Goals as goal

pub returns-in_default-inside : goal.returns-in_default-inside
returns-in_default-inside g c test allows tells s i p =
    let first = c.in-Some.ensures.cases.0 in
    let inside = sym (i _ _ c.inside.ensures) ∙ c.in_default-inside.is in
    law.turn_unfit s _ _ _ first inside ∙ c.loop-w.invariant test allows tells s i p

pub returns-in_default-get : goal.returns-in_default-get
returns-in_default-get g c test allows tells s i p =
    let first = c.in-Some.ensures.cases.0 in
    let inside = sym (i _ _ c.inside.ensures) ∙ c.in-Some-inside.is in
    law.turn_long s _ _ _ first _ _ inside c.from-n.ensures c.in_default-get.ensures.lookup.0 ∙ c.loop-w.invariant test allows tells s i p

pub returns-then-not-part : goal.returns-then-not-part
returns-then-not-part g c test allows tells s i p =
    let first = c.in-Some.ensures.cases.0 in
    let inside = sym (i _ _ c.inside.ensures) ∙ c.in-Some-inside.is in
    let cut = c.in-Some-get.ensures.lookup.0 in
    let may = p _ _ (record { shown = c.in-Some-get.own; shows = refl; says = record { met = c.part.ensures } }) in
    law.turn_part s _ _ _ first _ _ inside c.from-n.ensures cut.1 cut.2 (sym c.if-not-part.true ∙ may) ∙ c.loop-w.invariant test allows tells s i p

pub loop-w-preserved : goal.loop-w-preserved
loop-w-preserved g c test allows tells s i p =
    let first = c.in-Some.ensures.cases.0 in
    let inside = sym (i _ _ c.inside.ensures) ∙ c.in-Some-inside.is in
    let cut = c.in-Some-get.ensures.lookup.0 in
    let may = p _ _ (record { shown = c.in-Some-get.own; shows = refl; says = record { met = c.part.ensures } }) in
    law.turn_next s _ _ _ first _ _ inside c.from-n.ensures cut.1 cut.2 (sym c.if-not-part.false ∙ may) ∙ c.loop-w.invariant test allows tells s i p

pub returns : goal.returns
returns g c test allows tells s i p =
    law.turn_done s _ c.in_default.ensures.cases ∙ c.loop-w.invariant test allows tells s i p
