-- 19 and 17 are given exactly in their cases. Assumes nothing.
use mathlib.Core.Path.{◌≡◌, refl, sym, ap, ◌∙◌}
use mathlib.Core.Bool.{Bool, true, false, cond}
use mathlib.Core.Logic.{◌⊎◌, inl, inr, ⊎_elim, ◌↔◌}
use mathlib.Core.Option.{Option, none, some}
use mathlib.Core.List.Memᴰ
use mathlib.Core.List.{List, [], ◌∷◌, Memᴰ}
use Prim.Native.Nat.{ℕ, ◌≤◌, ◌<◌}
use native.Mathlib.Omega.{arith}
use lib.Dec.{ltb}
use lib.ListN.{length}
use borrow.Author.Tests.{ltb-true, ltb-false, lt-ltb, le-ltb}
use Rattle.base.specs.declared.Refusal.TheVariants.{TooManyLiterals, NotPlain}
use Rattle.def_meaning.specs.Limits.{literal_limit, combination_limit}
use Rattle.def_meaning.specs.Tokens.{Tokens, nothing}
use Rattle.def_picking.specs.Literals.{literals, combinations}
use Rattle.def_picking.specs.Runs.{plain_alternatives, runs, parts, Slice, slices}
use Rattle.def_picking.specs.Candidates.{Ranked, ranked, skipped, excessive, counted, combined, rank, Candidate, unranked, chosen, too_many_literals, widened, against, rank_of, best, strong, alone_or, in_run, beats, between, among_runs, in_pattern, unpicked, taking, pick}

-- a slice is not skipped, and its literals exceed 256
pub excessive_is : (ts : Tokens) → (rank ts ≡ excessive) ↔ ((combinations ts ≤ combination_limit) × (literal_limit < length (literals ts)))
unfolding rank combined counted
excessive_is ts = (to (ltb combination_limit (combinations ts)) (ltb literal_limit (length (literals ts))) refl refl, λ h. rw (le-ltb combination_limit (combinations ts) h.0) (rw (lt-ltb literal_limit (length (literals ts)) h.1)))
  where
    to : (a b : Bool) → ltb combination_limit (combinations ts) ≡ a → ltb literal_limit (length (literals ts)) ≡ b → rank ts ≡ excessive → (combinations ts ≤ combination_limit) × (literal_limit < length (literals ts))
    to true b e f h = absurd (let g : skipped ≡ excessive = sym (ap (λ (x : Bool). combined x ts) e) ∙ h in let z : ◌≡◌ {A = ℕ} 0 1 = cc in omega arith)
    to false true e f h = (ltb-false combination_limit (combinations ts) e, ltb-true literal_limit (length (literals ts)) f)
    to false false e f h = absurd (let g : counted false ts ≡ excessive = sym (ap (λ (x : Bool). combined x ts) e ∙ ap (λ (x : Bool). counted x ts) f) ∙ h in let z : ◌≡◌ {A = ℕ} 0 1 = cc in omega arith)

-- among slices
abbrev pub Excess : List Slice → Type 0
Excess ss = (s : Slice) × Memᴰ s ss × (rank_of s ≡ excessive)

pub best_full : (ss : List Slice) → best too_many_literals ss ≡ too_many_literals
unfolding best against
best_full [] = refl
best_full (s ∷ ss) = best_full ss

against_not : (c : Candidate) (s : Slice) (r : Ranked) → against c s r ≡ too_many_literals → (c ≡ too_many_literals) ⊎ (r ≡ excessive)
unfolding against
against_not unranked s (ranked n) h = absurd (let z : ◌≡◌ {A = ℕ} 0 1 = cc in omega arith)
against_not unranked s skipped h = absurd (let z : ◌≡◌ {A = ℕ} 0 1 = cc in omega arith)
against_not unranked s excessive h = inr refl
against_not (chosen m ts) s (ranked n) h = absurd (go (ltb m n) h)
  where
    go : (b : Bool) → cond b (chosen n (widened s)) (chosen m ts) ≡ too_many_literals → ⊥
    go true e = let z : ◌≡◌ {A = ℕ} 0 1 = cc in omega arith
    go false e = let z : ◌≡◌ {A = ℕ} 0 1 = cc in omega arith
against_not (chosen m ts) s skipped h = absurd (let z : ◌≡◌ {A = ℕ} 0 1 = cc in omega arith)
against_not (chosen m ts) s excessive h = inr refl
against_not too_many_literals s r h = inl refl

pub against_full : (c : Candidate) (s : Slice) → against c s excessive ≡ too_many_literals
unfolding against
against_full unranked s = refl
against_full (chosen m ts) s = refl
against_full too_many_literals s = refl

best_not : (ss : List Slice) (c : Candidate) → best c ss ≡ too_many_literals → (c ≡ too_many_literals) ⊎ Excess ss
unfolding best
best_not [] c h = inl h
best_not (s ∷ ss) c h =
    ⊎_elim (λ (e : against c s (rank_of s) ≡ too_many_literals).
    ⊎_elim (λ (f : c ≡ too_many_literals). inl f) (λ (f : rank_of s ≡ excessive). inr (s, Memᴰ.head refl, f)) (against_not c s (rank_of s) e))
    (λ (x : Excess ss). inr (x.0, Memᴰ.tail x.1, x.2)) (best_not ss (against c s (rank_of s)) h)

best_excess : (ss : List Slice) (c : Candidate) → Excess ss → best c ss ≡ too_many_literals
unfolding best
best_excess [] c x = absurd (Memᴰ.not-nil x.1)
best_excess (s ∷ ss) c x =
    ⊎_elim (λ (e : x.0 ≡ s). ap (λ (r : Ranked). best (against c s r) ss) (ap rank_of (sym e) ∙ x.2) ∙ ap (λ (d : Candidate). best d ss) (against_full c s) ∙ best_full ss)
    (λ (m : Memᴰ x.0 ss). best_excess ss (against c s (rank_of s)) (x.0, m, x.2)) (Memᴰ.cases_cons x.1)

-- in a run: no literal part wins alone, and a slice is excessive
abbrev pub Overfull : Tokens → Type 0
Overfull r = (strong (parts r) ≡ none) × Excess (slices (parts r) nothing)

run_not : (r : Tokens) → in_run r ≡ too_many_literals → Overfull r
unfolding in_run alone_or
run_not r h = go (strong (parts r)) refl h
  where
    go : (o : Option Tokens) → strong (parts r) ≡ o → alone_or o (best unranked (slices (parts r) nothing)) ≡ too_many_literals → Overfull r
    go (some p) e g = absurd (let z : ◌≡◌ {A = ℕ} 0 1 = cc in omega arith)
    go none e g = ⊎_elim (λ (f : unranked ≡ too_many_literals). absurd (let z : ◌≡◌ {A = ℕ} 0 1 = cc in omega arith)) (λ (x : Excess (slices (parts r) nothing)). (e, x)) (best_not (slices (parts r) nothing) unranked g)

run_full : (r : Tokens) → Overfull r → in_run r ≡ too_many_literals
unfolding in_run alone_or
run_full r (e, x) = rw e (best_excess (slices (parts r) nothing) unranked x)

-- between runs
between_not : (c d : Candidate) → between c d ≡ too_many_literals → (c ≡ too_many_literals) ⊎ (d ≡ too_many_literals)
unfolding between
between_not unranked d h = inr h
between_not (chosen m ts) unranked h = absurd (let z : ◌≡◌ {A = ℕ} 0 1 = cc in omega arith)
between_not (chosen m ts) (chosen n us) h = absurd (go (beats n us m ts) h)
  where
    go : (b : Bool) → cond b (chosen n us) (chosen m ts) ≡ too_many_literals → ⊥
    go true e = let z : ◌≡◌ {A = ℕ} 0 1 = cc in omega arith
    go false e = let z : ◌≡◌ {A = ℕ} 0 1 = cc in omega arith
between_not (chosen m ts) too_many_literals h = inr refl
between_not too_many_literals d h = inl refl

pub between_full : (c : Candidate) → between c too_many_literals ≡ too_many_literals
unfolding between
between_full unranked = refl
between_full (chosen m ts) = refl
between_full too_many_literals = refl

pub among_full : (rs : List Tokens) → among_runs too_many_literals rs ≡ too_many_literals
unfolding among_runs between
among_full [] = refl
among_full (r ∷ rs) = among_full rs

abbrev pub Some : List Tokens → Type 0
Some rs = (r : Tokens) × Memᴰ r rs × Overfull r

among_not : (rs : List Tokens) (c : Candidate) → among_runs c rs ≡ too_many_literals → (c ≡ too_many_literals) ⊎ Some rs
unfolding among_runs
among_not [] c h = inl h
among_not (r ∷ rs) c h =
    ⊎_elim (λ (e : between c (in_run r) ≡ too_many_literals).
    ⊎_elim (λ (f : c ≡ too_many_literals). inl f) (λ (f : in_run r ≡ too_many_literals). inr (r, Memᴰ.head refl, run_not r f)) (between_not c (in_run r) e))
    (λ (x : Some rs). inr (x.0, Memᴰ.tail x.1, x.2)) (among_not rs (between c (in_run r)) h)

among_some : (rs : List Tokens) (c : Candidate) → Some rs → among_runs c rs ≡ too_many_literals
unfolding among_runs
among_some [] c x = absurd (Memᴰ.not-nil x.1)
among_some (r ∷ rs) c x =
    ⊎_elim (λ (e : x.0 ≡ r). ap (λ (d : Candidate). among_runs (between c d) rs) (ap in_run (sym e) ∙ run_full x.0 x.2) ∙ ap (λ (d : Candidate). among_runs d rs) (between_full c) ∙ among_full rs)
    (λ (m : Memᴰ x.0 rs). among_some rs (between c (in_run r)) (x.0, m, x.2)) (Memᴰ.cases_cons x.1)

-- 17: in some run no literal part wins alone and a slice that is not skipped has more than 256 literals, whether or not it would win
pub too_many_is : (ts : Tokens) → (in_pattern ts ≡ too_many_literals) ↔ Some (runs ts)
unfolding in_pattern
too_many_is ts = (
  λ h. ⊎_elim (λ (e : unranked ≡ too_many_literals). absurd (let z : ◌≡◌ {A = ℕ} 0 1 = cc in omega arith)) (λ (x : Some (runs ts)). x) (among_not (runs ts) unranked h),
  λ x. among_some (runs ts) unranked x,
)

-- 19 comes first, and is given exactly where some alternatives are not plain
pub not_plain_is : (ts : Tokens) → (pick ts ≡ unpicked NotPlain) ↔ (plain_alternatives ts ≡ false)
unfolding pick taking
not_plain_is ts = (to (plain_alternatives ts) refl, λ e. rw e)
  where
    taken_not : (c : Candidate) → taking c ≡ unpicked NotPlain → ⊥
    taken_not unranked h = let z : ◌≡◌ {A = ℕ} 0 1 = cc in omega arith
    taken_not (chosen n us) h = let z : ◌≡◌ {A = ℕ} 0 1 = cc in omega arith
    taken_not too_many_literals h = let z : ◌≡◌ {A = ℕ} 0 1 = cc in omega arith

    to : (b : Bool) → plain_alternatives ts ≡ b → pick ts ≡ unpicked NotPlain → plain_alternatives ts ≡ false
    to true e h = absurd (taken_not (in_pattern ts) (sym (ap (λ (x : Bool). cond x (taking (in_pattern ts)) (unpicked NotPlain)) e) ∙ h))
    to false e h = e

pub too_many_given : (ts : Tokens) → plain_alternatives ts ≡ true → Some (runs ts) → pick ts ≡ unpicked TooManyLiterals
unfolding pick taking
too_many_given ts e x = rw (e, (too_many_is ts).1 x)

pub too_many_only : (ts : Tokens) → pick ts ≡ unpicked TooManyLiterals → (plain_alternatives ts ≡ true) × Some (runs ts)
unfolding pick taking
too_many_only ts h = go (plain_alternatives ts) refl
  where
    some_of : (c : Candidate) → in_pattern ts ≡ c → taking c ≡ unpicked TooManyLiterals → Some (runs ts)
    some_of unranked e g = absurd (let z : ◌≡◌ {A = ℕ} 0 1 = cc in omega arith)
    some_of (chosen n us) e g = absurd (let z : ◌≡◌ {A = ℕ} 0 1 = cc in omega arith)
    some_of too_many_literals e g = (too_many_is ts).0 e

    go : (b : Bool) → plain_alternatives ts ≡ b → (plain_alternatives ts ≡ true) × Some (runs ts)
    go true e = (e, some_of (in_pattern ts) refl (sym (ap (λ (x : Bool). cond x (taking (in_pattern ts)) (unpicked NotPlain)) e) ∙ h))
    go false e = absurd (let g : unpicked NotPlain ≡ unpicked TooManyLiterals = sym (ap (λ (x : Bool). cond x (taking (in_pattern ts)) (unpicked NotPlain)) e) ∙ h in let z : ◌≡◌ {A = ℕ} 0 1 = cc in omega arith)
