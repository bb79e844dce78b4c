-- Every match of a pattern holds one of its literals, if there are any. Assumes nothing.
use mathlib.Core.Path.{◌≡◌, ap, ◌∙◌, subst}
use mathlib.Core.Logic.{◌⊎◌, inl, inr, ⊎_elim, ◌↔◌}
use mathlib.Core.List.{List, [], ◌++◌, Memᴰ}
use Prim.Native.Nat.{ℕ}
use Rattle.def_meaning.specs.Values.{Bytes, Filled}
use Rattle.def_meaning.specs.Tokens.{Tokens, Spans, ◌⊕◌}
use Rattle.def_meaning.proofs.TokenLaws.{spans_join}
use Rattle.def_meaning.proofs.ValueLaws.{bytes_left_lem, bytes_right}
use Rattle.def_picking.specs.Candidates.{picked, pick}
use Rattle.def_picking.proofs.FactorLaws.{Factor}
use Rattle.def_picking.proofs.PickedLaws.{picked_are_spans}

-- one of some literals stands in a byte string
pub record HoldsOne (ls : List (List ℕ)) (s : List ℕ) : Type 0 where
  pub literal : List ℕ
  pub listed : Memᴰ literal ls
  pub before : List ℕ
  pub after : List ℕ
  pub stands : s ≡ before ++ (literal ++ after)

-- a match holds what some successive tokens match
span_holds : (us ts : Tokens) (s : List ℕ) → Factor us ts → Spans ts s → Bytes s → (l : List ℕ) × (a : List ℕ) × (b : List ℕ) × (s ≡ a ++ (l ++ b)) × Spans us l × Bytes l
span_holds us ts s (x, y, e) h p =
    let (a, r, f, g, k) = spans_join x (us ⊕ y) s (subst (λ (z : Tokens). Spans z s) e h) in
    let (l, b, i, m, n) = spans_join us y r k in
    let q : Bytes (l ++ b) = subst Bytes i (bytes_right a r (subst Bytes f p)) in
    (l, a, b, f ∙ ap (λ (z : List ℕ). a ++ z) i, m, bytes_left_lem l b q)

-- no literals, or every match holds one of them
pub match_holds_literal : (ts : Tokens) (n : ℕ) (ls : List (List ℕ)) → pick ts ≡ picked n ls → (ls ≡ []) ⊎ ((s : List ℕ) → Bytes s → Spans ts s → HoldsOne ls s)
match_holds_literal ts n ls h = ⊎_elim (λ (e : ls ≡ []). inl e) (λ (z : (us : Tokens) × Factor us ts × Filled us × ((s : List ℕ) → Bytes s → Memᴰ s ls ↔ Spans us s)). inr (of z)) (picked_are_spans ts n ls h)
  where
    of : (us : Tokens) × Factor us ts × Filled us × ((s : List ℕ) → Bytes s → Memᴰ s ls ↔ Spans us s) → (s : List ℕ) → Bytes s → Spans ts s → HoldsOne ls s
    of (us, f, g, k) s p m =
        let (l, a, b, e, i, q) = span_holds us ts s f m p in
        record { literal = l; listed = (k l q).1 i; before = a; after = b; stands = e }
