-- `search::flat` meets its contract: what fits the whole is what fits what is left. Assumes nothing.
use Rattle.std.proofs.Common.{◌≡◌, true, List, ℕ, subst, sym, ap, ◌∙◌, Some}
use Rattle.def_meaning.specs.Rows.{run}
use Rattle.def_meaning.specs.Words.{prog, flat_words}
use Rattle.steps.specs.Steps.{answer, seen}
use Rattle.steps.proofs.Heads.{length_seen}
use Rattle.steps.proofs.Turns as turns
use Rattle.search.proofs.flat.Goals as goal

pub returns-in_default : goal.returns-in_default
returns-in_default g c =
    let o = g.W.Way.order in
    let M = c.loop-w.m.now in
    ap Some (sym (length_seen o M)) ∙ ap answer (sym (c.loop-w.invariant.1 ∙ turns.end_left o _ (seen o M) c.in_default.ensures.cases))

pub loop-w-preserved-then-kind-eq-JUMP : goal.loop-w-preserved-then-kind-eq-JUMP
loop-w-preserved-then-kind-eq-JUMP g c =
    let o = g.W.Way.order in
    let e = c.in-Some.ensures.cases.0 in
    let flat = subst (λ (l : List ℕ). flat_words l ≡ true) e c.loop-w.invariant.0 in
    (turns.flat_tail c.in-Some.field-0-0.now _ flat, c.loop-w.invariant.1 ∙ ap (λ (l : List ℕ). run o (prog l) (seen o c.loop-w.m.now)) e ∙ c.in_ok-m.ensures c.in-Some.rest.now)

pub test-requires : goal.test-requires
test-requires g c =
    let W = c.in-Some.field-0-0.now in
    let flat = subst (λ (l : List ℕ). flat_words l ≡ true) c.in-Some.ensures.cases.0 c.loop-w.invariant.0 in
    (turns.flat_proper W _ flat, turns.flat_test W _ flat (λ z. c.if-kind-eq-JUMP.false (c.kind.ensures ∙ z)))

pub loop-w-preserved : goal.loop-w-preserved
loop-w-preserved g c =
    let o = g.W.Way.order in
    let e = c.in-Some.ensures.cases.0 in
    let flat = subst (λ (l : List ℕ). flat_words l ≡ true) e c.loop-w.invariant.0 in
    (turns.flat_tail c.in-Some.field-0-0.now _ flat, c.loop-w.invariant.1 ∙ ap (λ (l : List ℕ). run o (prog l) (seen o c.loop-w.m.now)) e ∙ c.in_ok-m-2.ensures c.in-Some.rest.now)
