-- Each way out gives what the definition gives there. Assumes nothing.
use Rattle.std.proofs.Common.{◌≡◌, ℕ, true, false, ◌&&◌, eqb, ◌⊎◌, inl, inr, Ok, Some, refl, sym, ap, ◌∙◌, ne_eqb}
use Rattle.def_reading.specs.Blanks.{skip}
use Rattle.def_reading.specs.Pieces.{found, between, checked}
use Rattle.def_reading.proofs.PieceSteps.{checked_open, checked_empty, checked_wrong, checked_both}
use Rattle.digits.specs.Answers.{value_of, ranged}
use Rattle.digits.proofs.checked_jump.Goals.{in-Some+else-bounds-eq0+else-to-bounds, in_default}
use Rattle.digits.proofs.checked_jump.Goals as goal

-- not both are 0
neither : (a b : ℕ) → (a ≡ 0) × (b ≡ 0 → ⊥) ⊎ (a ≡ 0 → ⊥) → eqb a 0 && eqb b 0 ≡ false
neither a b (inl w) = rw (w.0, ne_eqb b 0 w.1) refl
neither a b (inr w) = rw (ne_eqb a 0 w) refl

pub returns-then-to-eq0 : goal.returns-then-to-eq0
returns-then-to-eq0 c =
    let g = c.args.bounds in
    let d : eqb g.from 0 && eqb c.in-Some.to 0 ≡ true = rw (c.if-bounds-eq0.true, c.if-to-eq0.true) refl in
    sym (ap (λ u. checked c.args.text.now c.args.at g.from (value_of u) c.args.stop) c.in-Some.is ∙ checked_empty c.args.text.now c.args.at g.from c.in-Some.to c.args.stop d)

pub returns-then-to-bounds : goal.returns-then-to-bounds
returns-then-to-bounds c =
    let g = c.args.bounds in
    sym (ap (λ u. checked c.args.text.now c.args.at g.from (value_of u) c.args.stop) c.in-Some.is
    ∙ checked_wrong c.args.text.now c.args.at g.from c.in-Some.to c.args.stop (neither g.from c.in-Some.to c.else-bounds-eq0.either) c.if-to-bounds.true)

pub returns : goal.returns
returns c =
    let g = c.args.bounds in
    let f = ap (λ r. ranged (Ok (Some r))) c.up_to.ensures in
    elim c.match-bounds.branch [
      | in-Some+else-bounds-eq0+else-to-bounds w ↦ f
          ∙ ap (λ u. found (between g.from (value_of u)) c.args.stop (skip c.args.text.now c.args.stop)) w.in-Some.is
          ∙ sym (ap (λ u. checked c.args.text.now c.args.at g.from (value_of u) c.args.stop) w.in-Some.is
          ∙ checked_both c.args.text.now c.args.at g.from w.in-Some.to c.args.stop (neither g.from w.in-Some.to w.else-bounds-eq0.either) w.if-to-bounds.false)
      | in_default w ↦ f
          ∙ ap (λ u. found (between g.from (value_of u)) c.args.stop (skip c.args.text.now c.args.stop)) w.in_default.is
          ∙ sym (ap (λ u. checked c.args.text.now c.args.at g.from (value_of u) c.args.stop) w.in_default.is ∙ checked_open c.args.text.now c.args.at g.from c.args.stop)
    ]
