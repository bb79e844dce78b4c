-- A word that tests a byte. Assumes nothing.
use mathlib.Core.Path.{sym, ap, ◌∙◌}
use mathlib.Core.Bool.{Bool, ◌&&◌}
use Prim.Native.Nat.{ℕ}
use lib.Dec.{eqb, leb}
use lib.Bits.{bit_and}
use borrow.Author.Tests.{le-leb, lt-leb}
use Rattle.nodes.specs.Nodes.{mask_in}
use Rattle.nodes.proofs.ProperFields.{test_fields}
use Rattle.nodes.proofs.proper_test.Goals as goal

pub returns-then-b-most_in : goal.returns-then-b-most_in
returns-then-b-most_in c =
    let a = c.args.a in
    let b = c.args.b in
    let k = c.args.k in
    let q = ap (leb b) (sym c.most_in.ensures) ∙ le-leb _ _ c.if-b-most_in.true in
    ap (λ (x : ℕ). eqb (bit_and a x) a) c.mask_in-mask.ensures ∙ sym (ap (λ (t : Bool). t && eqb (bit_and a (mask_in k b)) a) q) ∙ test_fields k a b c.requires

pub returns-else-b-most_in : goal.returns-else-b-most_in
returns-else-b-most_in c =
    let a = c.args.a in
    let b = c.args.b in
    let k = c.args.k in
    let l = lt-leb _ _ c.if-b-most_in.false in
    let q = ap (leb b) (sym c.most_in.ensures) ∙ l in
    l ∙ sym (ap (λ (t : Bool). t && eqb (bit_and a (mask_in k b)) a) q) ∙ test_fields k a b c.requires
