-- The cycle of calls {branches, check, choices, jumps} meets its contracts. Every loop keeps: the answer for the whole is the
-- answer for what is left. Each call is at fewer words, or at as many on the way from check to choices to jumps or branches. Assumes nothing.
use Rattle.std.proofs.Common.{◌≡◌, List, refl, sym, ap, subst, ◌∙◌, ℕ, ◌-◌, min, arith, Some, length, take, drop, take_all, length-take-le}
use Rattle.def_meaning.specs.Programs.{range, ◌▹◌}
use Rattle.def_meaning.specs.Rows.{run}
use Rattle.def_meaning.specs.Words.{prog, Sound}
use Rattle.def_meaning.proofs.KindLaws.{kind_jump}
use Rattle.steps.specs.Steps.{answer, seen}
use Rattle.steps.proofs.Heads.{length_seen}
use Rattle.steps.proofs.Tests.{is_test_lem}
use Rattle.steps.proofs.Answers.{left_fits}
use Rattle.steps.proofs.Turns as turns
use Rattle.steps.proofs.Ranges as ranges
use Rattle.steps.proofs.Alternatives as alts
use Rattle.steps.proofs.Choices as choice
use Rattle.steps.proofs.Choices.{Handed}
use Rattle.search.proofs.+branches_check_choices_jumps.Goals as goal
use Rattle.search.proofs.+branches_check_choices_jumps.Goals.{branches-in-Some-flat+else-loop-n-test, branches-in_default-flat, choices-in-Some, choices-in_default}

-- what is cut from 0 on
whole : (l : List ℕ) → take (length l - 0) l ≡ l
whole l = take_all (length l - 0) l (omega arith)

pub branches-slice_bounds-flat-end : goal.branches-slice_bounds-flat-end
branches-slice_bounds-flat-end g t c =
    let marked = alts.head_marked c.in-Some.field-0-0.now _ c.in-Some.ensures.cases.0 (c.from-size.ensures ∙ c.first.ensures) c.branches.invariant.0 in
    sym (length-take-le _ _ marked.fits)

pub branches-flat-requires : goal.branches-flat-requires
branches-flat-requires g t c =
    let marked = alts.head_marked c.in-Some.field-0-0.now _ c.in-Some.ensures.cases.0 (c.from-size.ensures ∙ c.first.ensures) c.branches.invariant.0 in
    marked.inside

pub branches-overflow_sub-mem : goal.branches-overflow_sub-mem
branches-overflow_sub-mem g t c =
    let o = g.W.Way.order in
    let M = c.args.mem.now in
    let fits = left_fits o _ (seen o M) _ (sym c.in-Some-flat.is ∙ c.flat.ensures) in
    omega (arith, fits, length_seen o M)

pub branches-loop-n-init : goal.branches-loop-n-init
branches-loop-n-init g t c =
    let o = g.W.Way.order in
    let T = c.without-tail.result.now in
    let room : c.min-most.result ≡ min c.args.to (length (seen o T)) = omega (arith, length_seen o T) in
    ranges.untried_start (prog c.args.rest.now) (seen o T) _ _ _ room c.from-least.ensures o

pub branches-loop-n-preserved : goal.branches-loop-n-preserved
branches-loop-n-preserved g t c =
    let o = g.W.Way.order in
    let T = c.without-tail.result.now in
    let room : c.min-most.result ≡ min c.args.to (length (seen o T)) = omega (arith, length_seen o T) in
    let part = c.without-m.ensures ∙ ap (λ (k : ℕ). drop k (seen o T)) c.length.ensures in
    c.loop-n.invariant ∙ ranges.untried_next (prog c.args.rest.now) (seen o T) _ _ _ room c.loop-n.n c.loop-n.auto.n (omega arith) o _ part (sym c.in_default-check.is ∙ c.check.ensures ∙ ap (λ (l : List ℕ). answer (run o (prog l) (seen o c.without-m.result.now))) (whole c.args.rest.now))

pub branches-slice_bounds-bs-count : goal.branches-slice_bounds-bs-count
branches-slice_bounds-bs-count g t c =
    let marked = alts.head_marked c.in-Some.field-0-0.now _ c.in-Some.ensures.cases.0 (c.from-size.ensures ∙ c.first.ensures) c.branches.invariant.0 in
    marked.fits

pub branches-slice_bounds-bs-start : goal.branches-slice_bounds-bs-start
branches-slice_bounds-bs-start g t c =
    let marked = alts.head_marked c.in-Some.field-0-0.now _ c.in-Some.ensures.cases.0 (c.from-size.ensures ∙ c.first.ensures) c.branches.invariant.0 in
    marked.fits

pub branches-branches-preserved : goal.branches-branches-preserved
branches-branches-preserved g t c =
    let o = g.W.Way.order in
    let W = c.in-Some.field-0-0.now in
    let e = c.in-Some.ensures.cases.0 in
    let s = c.from-size.ensures ∙ c.first.ensures in
    let sb = c.branches.invariant.0 in
    let p = prog c.args.rest.now in
    let q = range c.args.from c.args.to ▹ p in
    let M = c.args.mem.now in (
      alts.head_after W _ e s sb,
      c.branches.invariant.1 ∙ elim c.match-flat.branch [
        | branches-in-Some-flat+else-loop-n-test w ↦
            let T = w.without-tail.result.now in
            let room : w.min-most.result ≡ min c.args.to (length (seen o T)) = omega (arith, length_seen o T) in
            let tail = w.without-tail.ensures ∙ ap (λ (k : ℕ). drop (k - w.in-Some-flat.left) (seen o M)) (sym (length_seen o M)) in
            alts.head_skip W _ e s sb o q (seen o M) _ _ tail (sym w.in-Some-flat.is ∙ c.flat.ensures) (w.loop-n.invariant ∙ ranges.untried_end p (seen o T) _ _ _ room o w.loop-n.n (omega arith))
        | branches-in_default-flat w ↦ alts.head_none W _ e s sb o q (seen o M) (sym w.in_default-flat.is ∙ c.flat.ensures)
      ],
    )

pub branches-returns-in_default : goal.branches-returns-in_default
branches-returns-in_default g t c =
    let o = g.W.Way.order in
    let q = range c.args.from c.args.to ▹ prog c.args.rest.now in
    ap answer (sym (c.branches.invariant.1 ∙ alts.heads_over o _ q (seen o c.args.mem.now) c.in_default.ensures.cases))

pub branches-returns-in-Some-check : goal.branches-returns-in-Some-check
branches-returns-in-Some-check g t c =
    let o = g.W.Way.order in
    let p = prog c.args.rest.now in
    let q = range c.args.from c.args.to ▹ p in
    let M = c.args.mem.now in
    let T = c.without-tail.result.now in
    let room : c.min-most.result ≡ min c.args.to (length (seen o T)) = omega (arith, length_seen o T) in
    let tail = c.without-tail.ensures ∙ ap (λ (k : ℕ). drop (k - c.in-Some-flat.left) (seen o M)) (sym (length_seen o M)) in
    let part = c.without-m.ensures ∙ ap (λ (k : ℕ). drop k (seen o T)) c.length.ensures in
    alts.head_take c.in-Some.field-0-0.now _ c.in-Some.ensures.cases.0 (c.from-size.ensures ∙ c.first.ensures) c.branches.invariant.0 o q (seen o M) _ _ tail (sym c.in-Some-flat.is ∙ c.flat.ensures) _
    (ranges.untried_take p (seen o T) _ _ _ room c.loop-n.n c.loop-n.auto.n (omega arith) o _ part _ (sym c.in-Some-check.is ∙ c.check.ensures ∙ ap (λ (l : List ℕ). answer (run o (prog l) (seen o c.without-m.result.now))) (whole c.args.rest.now)) ∙ ap answer (sym c.loop-n.invariant))
    ∙ ap answer (sym c.branches.invariant.1)

pub check-returns-in_default : goal.check-returns-in_default
check-returns-in_default g t c =
    let o = g.W.Way.order in
    let M = c.loop-w.m.now in
    ap Some (sym (length_seen o M)) ∙ ap answer (sym (c.loop-w.invariant.2 ∙ turns.end_left o _ (seen o M) c.in_default.ensures.cases))

pub check-test-requires : goal.check-test-requires
check-test-requires g t c =
    let sound = subst Sound c.in-Some.ensures.cases.0 c.loop-w.invariant.1 in
    (turns.head_proper c.in-Some.field-0-0.now _ sound, sym c.tests_byte.ensures ∙ c.if-tests_byte.true)

pub check-loop-w-preserved-in_ok-m : goal.check-loop-w-preserved-in_ok-m
check-loop-w-preserved-in_ok-m g t c =
    let e = c.in-Some.ensures.cases.0 in
    let test = is_test_lem c.in-Some.field-0-0.now (sym c.tests_byte.ensures ∙ c.if-tests_byte.true) in (
      omega (arith, c.in-Some.ensures.cases.1, c.loop-w.invariant.0),
      turns.tail_sound c.in-Some.field-0-0.now _ test.1 (subst Sound e c.loop-w.invariant.1),
      c.loop-w.invariant.2 ∙ ap (λ (l : List ℕ). run g.W.Way.order (prog l) (seen g.W.Way.order c.loop-w.m.now)) e ∙ c.in_ok-m.ensures c.in-Some.rest.now,
    )

pub check-loop-w-preserved : goal.check-loop-w-preserved
check-loop-w-preserved g t c =
    let e = c.in-Some.ensures.cases.0 in
    let jump = kind_jump c.in-Some.field-0-0.now (sym c.kind.ensures ∙ c.if-kind-eq-JUMP.true) refl in (
      omega (arith, c.in-Some.ensures.cases.1, c.loop-w.invariant.0),
      turns.tail_sound c.in-Some.field-0-0.now _ jump (subst Sound e c.loop-w.invariant.1),
      c.loop-w.invariant.2 ∙ ap (λ (l : List ℕ). run g.W.Way.order (prog l) (seen g.W.Way.order c.loop-w.m.now)) e ∙ c.in_ok-m-2.ensures c.in-Some.rest.now,
    )

pub check-choices-requires : goal.check-choices-requires
check-choices-requires g t c κs within =
    let sound = subst Sound c.in-Some.ensures.cases.0 c.loop-w.invariant.1 in
    let kind = turns.choice_kind c.in-Some.field-0-0.now _ sound (sym c.if-tests_byte.false ∙ c.tests_byte.ensures) (λ z. c.if-kind-eq-JUMP.false (c.kind.ensures ∙ z)) in
    (omega (arith, c.in-Some.ensures.cases.1, c.loop-w.invariant.0), (within, (sound, kind)))

pub choices-jumps-requires : goal.choices-jumps-requires
choices-jumps-requires g t c κs within = (omega arith, (within, choice.range_after c.args.w c.args.rest.now (sym c.kind.ensures ∙ c.if-kind-eq-JUMP_RANGE.true) c.requires.0))

pub choices-returns-then-kind-eq-JUMP_RANGE : goal.choices-returns-then-kind-eq-JUMP_RANGE
choices-returns-then-kind-eq-JUMP_RANGE g t c =
    let o = g.W.Way.order in
    c.jumps.ensures ∙ ap answer (choice.range_alone c.args.w c.args.rest.now (sym c.kind.ensures ∙ c.if-kind-eq-JUMP_RANGE.true) c.first.ensures c.second.ensures o (seen o c.args.mem.now))

pub choices-slice_bounds-after-count : goal.choices-slice_bounds-after-count
choices-slice_bounds-after-count g t c =
    let k = choice.is_alt c.args.w c.requires.1 (λ z. c.if-kind-eq-JUMP_RANGE.false (c.kind.ensures ∙ z)) in
    let opened = choice.opened c.args.w c.args.rest.now k (c.from-size.ensures ∙ c.count.ensures) c.requires.0 in
    opened.fits

pub choices-slice_bounds-after-start : goal.choices-slice_bounds-after-start
choices-slice_bounds-after-start g t c =
    let k = choice.is_alt c.args.w c.requires.1 (λ z. c.if-kind-eq-JUMP_RANGE.false (c.kind.ensures ∙ z)) in
    let opened = choice.opened c.args.w c.args.rest.now k (c.from-size.ensures ∙ c.count.ensures) c.requires.0 in
    opened.fits

pub choices-slice_bounds-branches-end : goal.choices-slice_bounds-branches-end
choices-slice_bounds-branches-end g t c =
    let k = choice.is_alt c.args.w c.requires.1 (λ z. c.if-kind-eq-JUMP_RANGE.false (c.kind.ensures ∙ z)) in
    let opened = choice.opened c.args.w c.args.rest.now k (c.from-size.ensures ∙ c.count.ensures) c.requires.0 in
    sym (length-take-le _ _ opened.fits)

pub choices-branches-requires : goal.choices-branches-requires
choices-branches-requires g t c κs within =
    let W = c.args.w in
    let R = c.args.rest.now in
    let k = choice.is_alt W c.requires.1 (λ z. c.if-kind-eq-JUMP_RANGE.false (c.kind.ensures ∙ z)) in
    let s = c.from-size.ensures ∙ c.count.ensures in
    let after = c.match-split_first.from in
    let handed : Handed W R c.from-size.result after.0.now after.1 after.2 =
    elim c.match-split_first.branch [
      | choices-in-Some w ↦ rw w.from-is (choice.ranged W R k s w.in-Some.field-0-0.now _ w.in-Some.ensures.cases.0 (omega arith) w.first-in-Some.ensures w.second-in-Some.ensures c.requires.0)
      | choices-in_default w ↦ rw w.from-is (choice.alone W R k s c.requires.0)
    ] in
    (omega (arith, handed.fewer), (within, ((choice.opened W R k s c.requires.0).inside, handed.sound)))

pub choices-returns : goal.choices-returns
choices-returns g t c =
    let o = g.W.Way.order in
    let W = c.args.w in
    let R = c.args.rest.now in
    let k = choice.is_alt W c.requires.1 (λ z. c.if-kind-eq-JUMP_RANGE.false (c.kind.ensures ∙ z)) in
    let s = c.from-size.ensures ∙ c.count.ensures in
    let after = c.match-split_first.from in
    let handed : Handed W R c.from-size.result after.0.now after.1 after.2 =
    elim c.match-split_first.branch [
      | choices-in-Some w ↦ rw w.from-is (choice.ranged W R k s w.in-Some.field-0-0.now _ w.in-Some.ensures.cases.0 (omega arith) w.first-in-Some.ensures w.second-in-Some.ensures c.requires.0)
      | choices-in_default w ↦ rw w.from-is (choice.alone W R k s c.requires.0)
    ] in
    c.branches.ensures ∙ ap answer (handed.same o (seen o c.args.mem.now))

pub jumps-loop-n-init : goal.jumps-loop-n-init
jumps-loop-n-init g t c =
    let o = g.W.Way.order in
    let M = c.args.mem.now in
    let room : c.min-most.result ≡ min c.args.to (length (seen o M)) = omega (arith, length_seen o M) in
    ranges.untried_start (prog c.args.rest.now) (seen o M) _ _ _ room c.from-least.ensures o

pub jumps-loop-n-preserved : goal.jumps-loop-n-preserved
jumps-loop-n-preserved g t c =
    let o = g.W.Way.order in
    let M = c.args.mem.now in
    let room : c.min-most.result ≡ min c.args.to (length (seen o M)) = omega (arith, length_seen o M) in
    let part = c.without-m.ensures ∙ ap (λ (k : ℕ). drop k (seen o M)) c.length.ensures in
    c.loop-n.invariant ∙ ranges.untried_next (prog c.args.rest.now) (seen o M) _ _ _ room c.loop-n.n c.loop-n.auto.n (omega arith) o _ part (sym c.in_default.is ∙ c.check.ensures)

pub jumps-returns-in-Some : goal.jumps-returns-in-Some
jumps-returns-in-Some g t c =
    let o = g.W.Way.order in
    let M = c.args.mem.now in
    let room : c.min-most.result ≡ min c.args.to (length (seen o M)) = omega (arith, length_seen o M) in
    let part = c.without-m.ensures ∙ ap (λ (k : ℕ). drop k (seen o M)) c.length.ensures in
    ranges.untried_take (prog c.args.rest.now) (seen o M) _ _ _ room c.loop-n.n c.loop-n.auto.n (omega arith) o _ part _ (sym c.in-Some.is ∙ c.check.ensures) ∙ ap answer (sym c.loop-n.invariant)

pub jumps-returns-after-loop-n : goal.jumps-returns-after-loop-n
jumps-returns-after-loop-n g t c =
    let o = g.W.Way.order in
    let M = c.args.mem.now in
    let room : c.min-most.result ≡ min c.args.to (length (seen o M)) = omega (arith, length_seen o M) in
    ap answer (sym (c.loop-n.invariant ∙ ranges.untried_end (prog c.args.rest.now) (seen o M) _ _ _ room o c.loop-n.n (omega arith)))
