-- The digits from here spell, after the value so far, what all of them spell. Assumes nothing.
use Prim.Native.Char.{code}
use Rattle.std.proofs.Common.{◌≡◌, ℕ, ◌+◌, ◌-◌, ◌*◌, ◌≤◌, ◌<◌, Bool, true, false, List, length, get_or, drop, Ok, Some, refl, sym, ap, ◌∙◌, arith, get_or-drop}
use Rattle.std.proofs.Math.ListN.{get_or-eq_default}
use Rattle.std.specs.Char.{is_ascii_digit}
use Rattle.def_meaning.specs.Limits.{number_limit}
use Rattle.def_reading.specs.Pieces.{within, decimals, numeral, decimal}
use Rattle.def_reading.proofs.PieceLaws.{number_none, number_next, numeral_from}
use Rattle.def_reading.proofs.PieceSteps.{number_absent, number_found, number_big}
use Rattle.digits.specs.Answers.{numbered}
use Rattle.digits.proofs.number.Goals.{else-loop-c-test, then-loop-c-test+then-not-is_ascii_digit-2}
use Rattle.digits.proofs.number.Goals as goal

is_decimal : (c : ℕ) → is_ascii_digit c ≡ decimal c
unfolding within
is_decimal c = refl

-- what the first test says of the byte that was looked at
tested : (t : List ℕ) (i c : ℕ) (b : Bool) → c ≡ get_or t i 0 → is_ascii_digit c ≡ b → decimal (get_or t i 0) ≡ b
tested t i c b e d = ap decimal (sym e) ∙ sym (is_decimal c) ∙ d

-- an item of what is left, as a byte of the text
module _ (t r : List ℕ) (at i stop : ℕ) (left : r ≡ drop at t) (here : stop ≡ at + i) where
  item : get_or r i 0 ≡ get_or t stop 0
  item = ap (λ x. get_or x i 0) left ∙ get_or-drop at t i 0 ∙ ap (λ j. get_or t j 0) (sym here)

  item_decimal : (b : Bool) → is_ascii_digit (get_or r i 0) ≡ b → decimal (get_or t stop 0) ≡ b
  item_decimal b e = ap decimal (sym item) ∙ sym (is_decimal (get_or r i 0)) ∙ e

  ended : length r ≤ i → decimal (get_or t stop 0) ≡ false
  ended h = item_decimal false (ap is_ascii_digit (get_or-eq_default r 0 h))

pub returns-then-not-is_ascii_digit : goal.returns-then-not-is_ascii_digit
returns-then-not-is_ascii_digit c =
    sym (number_absent c.args.text.now c.args.at (tested c.args.text.now c.args.at c.peek.result false c.peek.ensures (sym c.is_ascii_digit.ensures.value ∙ c.if-not-is_ascii_digit.true)))

pub returns-then-value-gt-NUMBER_LIMIT : goal.returns-then-value-gt-NUMBER_LIMIT
returns-then-value-gt-NUMBER_LIMIT c =
    let l = c.loop-c in
    let t = c.args.text.now in
    let k = item t c.rest-c-items.result.now c.args.at l.c-index l.stop c.rest-c-items.ensures l.invariant.3 in
    let d = item_decimal t c.rest-c-items.result.now c.args.at l.c-index l.stop c.rest-c-items.ensures l.invariant.3 true (sym c.is_ascii_digit-in-loop-c.ensures.value ∙ c.if-not-is_ascii_digit-2.false) in
    let n = number_next t l.value l.stop d in
    let m = numeral_from (10 * l.value + (get_or t l.stop 0 - code "0")) (drop (l.stop + 1) t) in
    let f = c.from.ensures in
    let i = l.invariant in
    let h = c.if-value-gt-NUMBER_LIMIT.true in
    let o = tested t c.args.at c.peek.result true c.peek.ensures (sym c.is_ascii_digit.ensures.value ∙ c.if-not-is_ascii_digit.false) in
    let b : number_limit < numeral 0 (drop c.args.at t) = omega arith in
    sym (number_big t c.args.at o b)

pub loop-c-preserved : goal.loop-c-preserved
loop-c-preserved c =
    let l = c.loop-c in
    let t = c.args.text.now in
    let k = item t c.rest-c-items.result.now c.args.at l.c-index l.stop c.rest-c-items.ensures l.invariant.3 in
    let d = item_decimal t c.rest-c-items.result.now c.args.at l.c-index l.stop c.rest-c-items.ensures l.invariant.3 true (sym c.is_ascii_digit-in-loop-c.ensures.value ∙ c.if-not-is_ascii_digit-2.false) in
    let n = number_next t l.value l.stop d in
    let f = c.from.ensures in
    let i = l.invariant in
    let q : 10 * l.value + (get_or t l.stop 0 - code "0") ≡ 10 * l.value + c.from.result = omega arith in
    (i.0 ∙ n.1 ∙ ap (λ m. numeral m (drop (l.stop + 1) t)) q, omega arith, c.if-value-gt-NUMBER_LIMIT.false, omega arith)

pub returns : goal.returns
returns c =
    let l = c.loop-c in
    let t = c.args.text.now in
    let d : decimal (get_or t l.stop 0) ≡ false = elim c.loop-c-test.branch [
      | else-loop-c-test w ↦ ended t c.rest-c-items.result.now c.args.at l.c-index l.stop c.rest-c-items.ensures l.invariant.3 w.loop-c-test.false
      | then-loop-c-test+then-not-is_ascii_digit-2 w ↦ item_decimal t c.rest-c-items.result.now c.args.at l.c-index l.stop c.rest-c-items.ensures l.invariant.3 false (sym w.is_ascii_digit-in-loop-c.ensures.value ∙ w.if-not-is_ascii_digit-2.true)
    ] in
    let o = tested t c.args.at c.peek.result true c.peek.ensures (sym c.is_ascii_digit.ensures.value ∙ c.if-not-is_ascii_digit.false) in
    let z = number_none t l.value l.stop d in
    let i = l.invariant in
    let q : c.args.at + decimals (drop c.args.at t) ≡ l.stop = omega arith in
    ap (λ r. numbered c.args.at (Ok (Some r))) c.up_to.ensures ∙ sym (number_found t c.args.at o (i.0 ∙ z.1) q i.2)
