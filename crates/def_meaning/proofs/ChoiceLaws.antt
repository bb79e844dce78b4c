-- The search gives the first choice that fits. Assumes nothing.
use mathlib.Core.Path.{refl}
use mathlib.Core.Logic.{inl, inr}
use mathlib.Core.List.{List}
use Prim.Native.Nat.{ℕ}
use native.Mathlib.Omega.{arith}
use lib.ListN.{length}
use Rattle.def_meaning.specs.Programs.{Item, Prog, Branches, one, jump, range, alt, end, ◌▹◌, stop, or, SpanOf, Span, SpanIn}
use Rattle.def_meaning.specs.Choices.{Way, Choice, only, bytes, first, later, done, via, Allows, Chooses, AllowsIn, Takes, Fits, TakesIn}

-- a span is what some choice fits
mutual
  unfolding Span Fits

  span_takes : (i : Item) (s : List ℕ) → SpanOf i s → (k : Way) × Takes i k s
  span_takes (one t) s (b, e, h) = (only, (b, refl, e, h))
  span_takes (jump n) s h = (only, (refl, h))
  span_takes (range a b) s (h, g) = (bytes (length s), (refl, omega arith, omega arith))
  span_takes (alt bs) s h = span_takes_in bs s h

  pub span_fits : (p : Prog) (s : List ℕ) → Span p s → (c : Choice) × Fits p c s
  span_fits end s e = (done, (refl, e))
  span_fits (i ▹ p) s (a, b, e, f, g) =
      let k = span_takes i a f in
      let d = span_fits p b g in
      (via k.0 d.0, (k.0, d.0, a, b, refl, e, k.1, d.1))

  span_takes_in : (bs : Branches) (s : List ℕ) → SpanIn bs s → (k : Way) × TakesIn bs k s
  span_takes_in stop s h = absurd h
  span_takes_in (or p bs) s (inl h) = let c = span_fits p s h in (first c.0, inl (c.0, refl, c.1))
  span_takes_in (or p bs) s (inr h) = let k = span_takes_in bs s h in (later k.0, inr (k.0, refl, k.1))

mutual
  unfolding Span Fits

  takes_span : (i : Item) (k : Way) (s : List ℕ) → Takes i k s → SpanOf i s
  takes_span (one t) k s (b, q, e, h) = (b, e, h)
  takes_span (jump n) k s (q, h) = h
  takes_span (range a b) k s (q, h, g) = (omega arith, omega arith)
  takes_span (alt bs) k s h = takes_span_in bs k s h

  pub fits_span : (p : Prog) (c : Choice) (s : List ℕ) → Fits p c s → Span p s
  fits_span end c s (q, e) = e
  fits_span (i ▹ p) c s (k, d, a, b, q, e, f, g) = (a, b, e, takes_span i k a f, fits_span p d b g)

  takes_span_in : (bs : Branches) (k : Way) (s : List ℕ) → TakesIn bs k s → SpanIn bs s
  takes_span_in stop k s h = h
  takes_span_in (or p bs) k s (inl (c, q, h)) = inl (fits_span p c s h)
  takes_span_in (or p bs) k s (inr (j, q, h)) = inr (takes_span_in bs j s h)

-- a choice that fits is one of the program's
mutual
  unfolding Fits Chooses

  takes_allows : (i : Item) (k : Way) (s : List ℕ) → Takes i k s → Allows i k
  takes_allows (one t) k s (b, q, e, h) = q
  takes_allows (jump n) k s (q, h) = q
  takes_allows (range a b) k s (q, h, g) = (length s, q, h, g)
  takes_allows (alt bs) k s h = takes_allows_in bs k s h

  pub fits_chooses : (p : Prog) (c : Choice) (s : List ℕ) → Fits p c s → Chooses p c
  fits_chooses end c s (q, e) = q
  fits_chooses (i ▹ p) c s (k, d, a, b, q, e, f, g) = (k, d, q, takes_allows i k a f, fits_chooses p d b g)

  takes_allows_in : (bs : Branches) (k : Way) (s : List ℕ) → TakesIn bs k s → AllowsIn bs k
  takes_allows_in stop k s h = h
  takes_allows_in (or p bs) k s (inl (c, q, h)) = inl (c, q, fits_chooses p c s h)
  takes_allows_in (or p bs) k s (inr (j, q, h)) = inr (j, q, takes_allows_in bs j s h)
