-- The laws of spans: programs end to end, and the mirror. Assumes nothing.
use mathlib.Core.Path.{◌≡◌, refl, sym, ap, ap₂, ◌∙◌, subst, subst₂}
use mathlib.Core.Logic.{inl, inr}
use mathlib.Core.List.{List, [], ◌++◌, append-nil, append_assoc, reverse, reverse-append, reverse-reverse}
use Prim.Native.Nat.{ℕ}
use native.Mathlib.Omega.{arith}
use lib.ListN.{length-reverse}
use Rattle.def_meaning.specs.Programs.{Item, Prog, Branches, one, jump, range, alt, end, ◌▹◌, stop, or, SpanOf, Span, SpanIn, ◌⧺◌, mirror_of, mirror, mirror_in}

-- laying one program after another joins their spans end to end, and nothing else
pub join_span : (p q : Prog) (s t : List ℕ) → Span p s → Span q t → Span (p ⧺ q) (s ++ t)
unfolding Span ◌⧺◌
join_span end q s t e h = subst (Span q) (ap (λ (l : List ℕ). l ++ t) (sym e)) h
join_span (i ▹ p) q s t (a, b, e, f, g) h = (a, b ++ t, ap (λ (l : List ℕ). l ++ t) e ∙ append_assoc a b t, f, join_span p q b t g h)

pub span_join : (p q : Prog) (s : List ℕ) → Span (p ⧺ q) s → (a : List ℕ) × (b : List ℕ) × (s ≡ a ++ b) × Span p a × Span q b
unfolding Span ◌⧺◌
span_join end q s h = ([], s, refl, refl, h)
span_join (i ▹ p) q s (a, b, e, f, g) =
    let r = span_join p q b g in
    (a ++ r.0, r.1, e ∙ ap (λ (l : List ℕ). a ++ l) r.2 ∙ sym (append_assoc a r.0 r.1), (a, r.0, refl, f, r.3), r.4)

-- programs, end to end
join_end : (p : Prog) → p ⧺ end ≡ p
unfolding ◌⧺◌
join_end end = refl
join_end (i ▹ p) = ap (λ (q : Prog). i ▹ q) (join_end p)

pub join_assoc : (p q r : Prog) → (p ⧺ q) ⧺ r ≡ p ⧺ (q ⧺ r)
unfolding ◌⧺◌
join_assoc end q r = refl
join_assoc (i ▹ p) q r = ap (λ (s : Prog). i ▹ s) (join_assoc p q r)

pub mirror_join : (p q : Prog) → mirror (p ⧺ q) ≡ mirror q ⧺ mirror p
unfolding mirror ◌⧺◌
mirror_join end q = sym (join_end (mirror q))
mirror_join (i ▹ p) q = ap (λ (r : Prog). r ⧺ (mirror_of i ▹ end)) (mirror_join p q) ∙ join_assoc (mirror q) (mirror p) (mirror_of i ▹ end)

-- twice mirrored is itself
mutual
  unfolding mirror ◌⧺◌

  twice_of : (i : Item) → mirror_of (mirror_of i) ≡ i
  twice_of (one t) = refl
  twice_of (jump n) = refl
  twice_of (range a b) = refl
  twice_of (alt bs) = ap alt (twice_in bs)

  pub twice : (p : Prog) → mirror (mirror p) ≡ p
  twice end = refl
  twice (i ▹ p) = mirror_join (mirror p) (mirror_of i ▹ end) ∙ ap₂ ◌▹◌ (twice_of i) (twice p)

  twice_in : (bs : Branches) → mirror_in (mirror_in bs) ≡ bs
  twice_in stop = refl
  twice_in (or p bs) = ap₂ or (twice p) (twice_in bs)

-- the mirror keeps each span, read from its other side
mutual
  unfolding Span mirror

  mirror_span_of : (i : Item) (s : List ℕ) → SpanOf i s → SpanOf (mirror_of i) (reverse s)
  mirror_span_of (one t) s (b, e, h) = (b, ap reverse e, h)
  mirror_span_of (jump n) s h = length-reverse s ∙ h
  mirror_span_of (range a b) s h = let e = length-reverse s in (omega arith, omega arith)
  mirror_span_of (alt bs) s h = mirror_span_in bs s h

  pub mirror_span : (p : Prog) (s : List ℕ) → Span p s → Span (mirror p) (reverse s)
  mirror_span end s e = ap reverse e
  mirror_span (i ▹ p) s (a, b, e, f, g) =
      subst (Span (mirror p ⧺ (mirror_of i ▹ end))) (sym (ap reverse e ∙ reverse-append a b))
      (join_span (mirror p) (mirror_of i ▹ end) (reverse b) (reverse a) (mirror_span p b g) (reverse a, [], sym (append-nil (reverse a)), mirror_span_of i a f, refl))

  mirror_span_in : (bs : Branches) (s : List ℕ) → SpanIn bs s → SpanIn (mirror_in bs) (reverse s)
  mirror_span_in stop s h = h
  mirror_span_in (or p bs) s (inl h) = inl (mirror_span p s h)
  mirror_span_in (or p bs) s (inr h) = inr (mirror_span_in bs s h)

pub span_mirror : (p : Prog) (s : List ℕ) → Span (mirror p) (reverse s) → Span p s
span_mirror p s h = subst₂ Span (twice p) (reverse-reverse s) (mirror_span (mirror p) (reverse s) h)
