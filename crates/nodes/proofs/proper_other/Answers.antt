-- A word of the other kinds. Assumes nothing.
use mathlib.Core.Path.{◌≡◌, sym, ◌∙◌}
use Prim.Native.Nat.{ℕ, ◌≤◌, ◌<◌}
use native.Mathlib.Omega.{arith}
use borrow.Author.Tests.{ne_eqb}
use Rattle.def_meaning.specs.Words.{proper_by}
use Rattle.nodes.proofs.ProperFields.{whole_fields, branch_fields, no_fields}
use Rattle.nodes.proofs.proper_other.Goals as goal

low : (n : ℕ) {k : ℕ} → 3 ≤ k → n < 3 → k ≡ n → ⊥
low n h l e = omega arith

pub returns-in-3 : goal.returns-in-3
unfolding proper_by
returns-in-3 c =
    let k = sym c.kind.ensures ∙ c.in-3.is in
    rw k (c.counted.ensures ∙ whole_fields c.args.w c.requires.1)

pub returns-in-4 : goal.returns-in-4
unfolding proper_by
returns-in-4 c =
    let k = sym c.kind.ensures ∙ c.in-4.is in
    rw (k, c.first.ensures, c.second.ensures)

pub returns-in-5 : goal.returns-in-5
unfolding proper_by
returns-in-5 c =
    let k = sym c.kind.ensures ∙ c.in-5.is in
    rw k (no_fields c.args.w c.requires.1)

pub returns-in-6 : goal.returns-in-6
unfolding proper_by
returns-in-6 c =
    let k = sym c.kind.ensures ∙ c.in-6.is in
    rw k (c.counted-in-6.ensures ∙ whole_fields c.args.w c.requires.1)

pub returns-in-7 : goal.returns-in-7
unfolding proper_by
returns-in-7 c =
    let k = sym c.kind.ensures ∙ c.in-7.is in
    rw k (c.counted-in-7.ensures ∙ branch_fields c.args.w c.requires.1)

pub returns-in_default : goal.returns-in_default
unfolding proper_by
returns-in_default c =
    let r = c.in_default.in_default-own.rest in
    let k = sym c.kind.ensures in
    let g : 3 ≤ c.kind.result = omega (arith, c.requires.0, c.kind.ensures) in
    simp (k, ne_eqb _ 0 (low 0 g (omega arith)), ne_eqb _ 1 (low 1 g (omega arith)), ne_eqb _ 2 (low 2 g (omega arith)), ne_eqb _ 3 r.0.0.0.0.1, ne_eqb _ 4 r.0.0.0.1, ne_eqb _ 5 r.0.0.1, ne_eqb _ 6 r.0.1, ne_eqb _ 7 r.1)
