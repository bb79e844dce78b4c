-- What the search finds: the first choice that fits, and nothing where none fits. Assumes nothing.
use mathlib.Core.Path.{◌≡◌, refl, sym, ap, ◌∙◌, subst}
use mathlib.Core.Option.{Option, none, some}
use mathlib.Core.Logic.{◌⊎◌, inl, inr, ⊎_elim, ◌↔◌}
use mathlib.Core.List.Memᴰ
use mathlib.Core.List.{List, [], ◌∷◌, ◌++◌, map, reverse, reverse-append, reverse-reverse, Memᴰ}
use Prim.Native.Nat.{ℕ}
use native.Mathlib.Omega.{arith}
use Rattle.def_meaning.specs.Programs.{Prog, Span, mirror}
use Rattle.def_meaning.specs.Choices.{Choice, FitsAt, Order, short, long, Sooner, First, Nowhere, FirstForward, FirstReverse}
use Rattle.def_meaning.specs.Rows.{Row, or_else, rest, found, run, forward, backward, choices, row_by}
use Rattle.def_meaning.proofs.RowLaws.{rest_split}
use Rattle.def_meaning.proofs.ChoiceLaws.{span_fits, fits_span, fits_chooses}
use Rattle.def_meaning.proofs.ChoiceRows.{rows_choices, rest_frame, fits_row, row_fits}
use Rattle.def_meaning.proofs.ChoiceOrder.{chooses_listed, listed_chooses, Ordered, choices_ordered, sooner_irrefl, sooner_asym}
use Rattle.def_meaning.proofs.SpanLaws.{mirror_span, span_mirror}

-- the first of a list of choices whose row fits
record Hit (f : Choice → Row) (cs : List Choice) (w v : List ℕ) : Type 0 where
  hit : Choice
  sooner : List Choice
  later : List Choice
  split : cs ≡ sooner ++ hit ∷ later
  fits : rest (f hit) w ≡ some v
  none_sooner : (d : Choice) → Memᴰ d sooner → rest (f d) w ≡ none

module _ (f : Choice → Row) (w : List ℕ) where
  found_hit : (cs : List Choice) (v : List ℕ) → found (map f cs) w ≡ some v → Hit f cs w v
  unfolding found
  found_hit [] v e = let z : ◌≡◌ {A = ℕ} 0 1 = cc in absurd (omega arith)
  found_hit (c ∷ cs) v e = go (found_hit cs v) (rest (f c) w) refl
    where
      later_hit : rest (f c) w ≡ none → Hit f cs w v → Hit f (c ∷ cs) w v
      later_hit g q = record {
        hit = q.hit;
        sooner = c ∷ q.sooner;
        later = q.later;
        split = ap (λ (l : List Choice). c ∷ l) q.split;
        fits = q.fits;
        none_sooner = λ d m. ⊎_elim (λ h. ap (λ (x : Choice). rest (f x) w) h ∙ g) (λ h. q.none_sooner d h) (Memᴰ.cases_cons m);
      }

      go : (found (map f cs) w ≡ some v → Hit f cs w v) → (x : Option (List ℕ)) → rest (f c) w ≡ x → Hit f (c ∷ cs) w v
      go ih none g = later_hit g (ih (sym (ap (λ (y : Option (List ℕ)). or_else y (found (map f cs) w)) g) ∙ e))
      go ih (some u) g = record {
        hit = c;
        sooner = [];
        later = cs;
        split = refl;
        fits = g ∙ sym (ap (λ (y : Option (List ℕ)). or_else y (found (map f cs) w)) g) ∙ e;
        none_sooner = λ d m. absurd (Memᴰ.not-nil m);
      }

  found_none : (cs : List Choice) → found (map f cs) w ≡ none → (d : Choice) → Memᴰ d cs → rest (f d) w ≡ none
  unfolding found
  found_none [] e d m = absurd (Memᴰ.not-nil m)
  found_none (c ∷ cs) e d m = go (found_none cs) (rest (f c) w) refl
    where
      go : (found (map f cs) w ≡ none → (x : Choice) → Memᴰ x cs → rest (f x) w ≡ none) → (x : Option (List ℕ)) → rest (f c) w ≡ x → rest (f d) w ≡ none
      go ih none g =
          let h : found (map f cs) w ≡ none = sym (ap (λ (y : Option (List ℕ)). or_else y (found (map f cs) w)) g) ∙ e in
          ⊎_elim (λ q. ap (λ (x : Choice). rest (f x) w) q ∙ g) (λ q. ih h d q) (Memᴰ.cases_cons m)
      go ih (some u) g =
          let h : some u ≡ none = sym (ap (λ (y : Option (List ℕ)). or_else y (found (map f cs) w)) g) ∙ e in
          let z : ◌≡◌ {A = ℕ} 0 1 = cc in absurd (omega arith)

-- lists in order
after : {A : Type 0} (R : A → A → Type 0) (k : List A) {x y : A} {l : List A} → Ordered R (k ++ x ∷ l) → Memᴰ y l → R x y
after R [] {y = y} h m = h.0 y m
after R (z ∷ k) h m = after R k h.1 m

one_way : {A : Type 0} (R : A → A → Type 0) (l : List A) {x y : A} → Ordered R l → Memᴰ x l → Memᴰ y l → (x ≡ y) ⊎ (R x y ⊎ R y x)
one_way R [] h m n = absurd (Memᴰ.not-nil m)
one_way {A} R (z ∷ l) {x} {y} h m n = go (one_way R l h.1) (Memᴰ.cases_cons m) (Memᴰ.cases_cons n)
  where
    go : (Memᴰ x l → Memᴰ y l → (x ≡ y) ⊎ (R x y ⊎ R y x)) → (x ≡ z) ⊎ Memᴰ x l → (y ≡ z) ⊎ Memᴰ y l → (x ≡ y) ⊎ (R x y ⊎ R y x)
    go ih (inl e) (inl g) = inl (e ∙ sym g)
    go ih (inl e) (inr q) = inr (inl (subst (λ u. R u y) (sym e) (h.0 y q)))
    go ih (inr p) (inl g) = inr (inr (subst (λ u. R u x) (sym g) (h.0 x p)))
    go ih (inr p) (inr q) = ih p q

no_answer : {A : Type 0} (x : Option (List ℕ)) (v : List ℕ) → x ≡ none → x ≡ some v → A
no_answer x v e f = let z : ◌≡◌ {A = ℕ} 0 1 = cc in absurd (omega arith)

module _ (o : Order) (p : Prog) where
  -- a choice that fits a window has a row that fits it
  row_at : (c : Choice) (w u : List ℕ) → FitsAt p c w u → rest (row_by p c) w ≡ some u
  row_at c w u (s, e, f) = ap (rest (row_by p c)) e ∙ rest_frame (row_by p c) s [] u (fits_row p c s f)

  listed : (c : Choice) (w u : List ℕ) → FitsAt p c w u → Memᴰ c (choices o p)
  listed c w u (s, e, f) = chooses_listed o p c (fits_chooses p c s f)

  module _ (w : List ℕ) where
    by_choices : run o p w ≡ found (map (row_by p) (choices o p)) w
    unfolding run
    by_choices = ap (λ (R : List Row). found R w) (rows_choices o p)

    -- nothing is found exactly if no choice fits
    pub run_none : run o p w ≡ none → (c : Choice) (u : List ℕ) → FitsAt p c w u → ⊥
    run_none e c u f = no_answer (rest (row_by p c) w) u (found_none (row_by p) w (choices o p) (sym by_choices ∙ e) c (listed c w u f)) (row_at c w u f)

    of_hit : (v : List ℕ) → Hit (row_by p) (choices o p) w v → First o p w v
    of_hit v q = record {
      choice = q.hit;
      fits = let d = rest_split (row_by p q.hit) w v q.fits in (d.0, d.1, row_fits p q.hit d.0 (listed_chooses o p q.hit here) d.2);
      none_sooner = λ c u s f. ⊎_elim
          (λ m. no_answer (rest (row_by p c) w) u (q.none_sooner c m) (row_at c w u f))
          (λ m. ⊎_elim (λ e. sooner_irrefl o s e) (λ n. sooner_asym o s (after (Sooner o) q.sooner (subst (Ordered (Sooner o)) q.split (choices_ordered o p)) n)) (Memᴰ.cases_cons m))
          (Memᴰ.append_cases q.sooner (subst (λ (l : List Choice). Memᴰ c l) q.split (listed c w u f)));
    }
      where
        here : Memᴰ q.hit (choices o p)
        here = subst (λ (l : List Choice). Memᴰ q.hit l) (sym q.split) (Memᴰ.append_right q.sooner (Memᴰ.head refl))

    -- what is found is what the first choice that fits leaves
    pub run_first : (v : List ℕ) → run o p w ≡ some v → First o p w v
    run_first v e = of_hit v (found_hit (row_by p) w (choices o p) v (sym by_choices ∙ e))

    -- there is one first choice, and what it leaves is found
    pub first_one : (v u : List ℕ) → First o p w v → First o p w u → v ≡ u
    first_one v u a b = go (one_way (Sooner o) (choices o p) (choices_ordered o p) (listed a.choice w v a.fits) (listed b.choice w u b.fits))
      where
        go : (a.choice ≡ b.choice) ⊎ (Sooner o a.choice b.choice ⊎ Sooner o b.choice a.choice) → v ≡ u
        go (inl e) =
            let x : rest (row_by p a.choice) w ≡ some v = row_at a.choice w v a.fits in
            let y : rest (row_by p b.choice) w ≡ some u = row_at b.choice w u b.fits in
            let z : some v ≡ some u = sym x ∙ ap (λ (c : Choice). rest (row_by p c) w) e ∙ y in
            cc
        go (inr (inl s)) = absurd (b.none_sooner a.choice v s a.fits)
        go (inr (inr s)) = absurd (a.none_sooner b.choice u s b.fits)

    pub first_run : (v : List ℕ) → First o p w v → run o p w ≡ some v
    first_run v a = go (run o p w) refl
      where
        go : (x : Option (List ℕ)) → run o p w ≡ x → run o p w ≡ some v
        go none e = absurd (run_none e a.choice v a.fits)
        go (some u) e = e ∙ ap some (first_one u v (run_first u e) a)

    pub nowhere_run : Nowhere p w → run o p w ≡ none
    nowhere_run h = go (run o p w) refl
      where
        go : (x : Option (List ℕ)) → run o p w ≡ x → run o p w ≡ none
        go none e = e
        go (some u) e = let a = run_first u e in absurd (h a.choice u a.fits)

    -- the same over spans
    pub run_span : (v : List ℕ) → run o p w ≡ some v → (s : List ℕ) × (w ≡ s ++ v) × Span p s
    run_span v e = let a = run_first v e in (a.fits.0, a.fits.1, fits_span p a.choice a.fits.0 a.fits.2)

    pub run_no_span : (s v : List ℕ) → run o p w ≡ none → w ≡ s ++ v → Span p s → ⊥
    run_no_span s v e h g = let c = span_fits p s g in run_none e c.0 v (s, h, c.1)

-- the checks find what they are to find
pub forward_first : (p : Prog) (w v : List ℕ) → (forward p w ≡ some v) ↔ FirstForward p w v
forward_first p w v = (run_first short p w v, first_run short p w v)

pub forward_none : (p : Prog) (w : List ℕ) → (forward p w ≡ none) ↔ Nowhere p w
forward_none p w = (run_none short p w, nowhere_run short p w)

pub backward_first : (p : Prog) (w u : List ℕ) → (backward p w ≡ some (reverse u)) ↔ FirstReverse p w u
backward_first p w u = (run_first long p (reverse w) (reverse u), first_run long p (reverse w) (reverse u))

pub backward_none : (p : Prog) (w : List ℕ) → (backward p w ≡ none) ↔ Nowhere p (reverse w)
backward_none p w = (run_none long p (reverse w), nowhere_run long p (reverse w))

-- the reverse check of the mirror answers for the original: a start exactly if some span of it fills the window's tail
module _ (p : Prog) (w : List ℕ) where
  pub backward_span : (v : List ℕ) → backward (mirror p) w ≡ some v → (s : List ℕ) × (w ≡ reverse v ++ s) × Span p s
  backward_span v e =
      let q = run_span long (mirror p) (reverse w) v e in
      (reverse q.0, sym (reverse-reverse w) ∙ ap reverse q.1 ∙ reverse-append q.0 v, span_mirror p (reverse q.0) (subst (Span (mirror p)) (sym (reverse-reverse q.0)) q.2))

  pub backward_no_span : (u s : List ℕ) → backward (mirror p) w ≡ none → w ≡ u ++ s → Span p s → ⊥
  backward_no_span u s e h g = run_no_span long (mirror p) (reverse w) (reverse s) (reverse u) e (ap reverse h ∙ reverse-append u s) (mirror_span p s g)
