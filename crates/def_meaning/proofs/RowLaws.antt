-- Laws of rows. Assumes nothing.
use mathlib.Core.Path.{◌≡◌, refl, sym, ap, ◌∙◌}
use mathlib.Core.Bool.{Bool, true, false}
use mathlib.Core.Option.{Option, none, some}
use mathlib.Core.List.{List, [], ◌∷◌, ◌++◌, append-nil, append_assoc}
use Prim.Native.Nat.{ℕ}
use native.Mathlib.Omega.{arith}
use Rattle.def_meaning.specs.Programs.{pass}
use Rattle.def_meaning.specs.Rows.{Row, when, or_else, and_then, rest, found, before, ◌⊗◌}

-- the three joins of answers
when_then : (x : Bool) (a : Option (List ℕ)) (k : List ℕ → Option (List ℕ)) → and_then (when x a) k ≡ when x (and_then a k)
when_then true a k = refl
when_then false a k = refl

or_assoc : (a b c : Option (List ℕ)) → or_else (or_else a b) c ≡ or_else a (or_else b c)
or_assoc none b c = refl
or_assoc (some v) b c = refl

then_none : (a : Option (List ℕ)) → and_then a (λ v. none) ≡ none
then_none none = refl
then_none (some v) = refl

then_or : (a : Option (List ℕ)) (h k : List ℕ → Option (List ℕ)) → or_else (and_then a h) (and_then a k) ≡ and_then a (λ v. or_else (h v) (k v))
then_or none h k = refl
then_or (some v) h k = refl

-- one row after another
pub rest_append : (r s : Row) (w : List ℕ) → rest (r ++ s) w ≡ and_then (rest r w) (rest s)
unfolding rest
rest_append [] s w = refl
rest_append (t ∷ r) s [] = refl
rest_append (t ∷ r) s (b ∷ w) = rw (rest_append r s w) (sym (when_then (pass t b) (rest r w) (rest s)))

pub found_append : (A B : List Row) (w : List ℕ) → found (A ++ B) w ≡ or_else (found A w) (found B w)
unfolding found
found_append [] B w = refl
found_append (r ∷ A) B w = rw (found_append A B w) (sym (or_assoc (rest r w) (found A w) (found B w)))

-- one row before each of a list
pub found_before : (r : Row) (B : List Row) (w : List ℕ) → found (before r B) w ≡ and_then (rest r w) (found B)
unfolding found before
found_before r [] w = sym (then_none (rest r w))
found_before r (s ∷ B) w = rw (rest_append, found_before r B w) (then_or (rest r w) (rest s) (found B))

pub found_times : (r : Row) (A B : List Row) (w : List ℕ) → found ((r ∷ A) ⊗ B) w ≡ or_else (and_then (rest r w) (found B)) (found (A ⊗ B) w)
unfolding ◌⊗◌
found_times r A B w = rw (found_append, found_before)

-- ⊗ is associative, has a unit, and distributes over a list's first argument
pub times_append : (A B C : List Row) → (A ++ B) ⊗ C ≡ A ⊗ C ++ B ⊗ C
unfolding ◌⊗◌
times_append [] B C = refl
times_append (r ∷ A) B C = rw (times_append A B C) (sym (append_assoc (before r C) (A ⊗ C) (B ⊗ C)))

before_append : (r : Row) (B C : List Row) → before r (B ++ C) ≡ before r B ++ before r C
unfolding before
before_append r [] C = refl
before_append r (s ∷ B) C = rw (before_append r B C)

before_before : (r s : Row) (C : List Row) → before r (before s C) ≡ before (r ++ s) C
unfolding before
before_before r s [] = refl
before_before r s (t ∷ C) = rw (before_before r s C, append_assoc r s t)

before_times : (r : Row) (B C : List Row) → before r B ⊗ C ≡ before r (B ⊗ C)
unfolding ◌⊗◌ before
before_times r [] C = refl
before_times r (s ∷ B) C = rw (before_times r B C, before_append, before_before)

pub times_assoc : (A B C : List Row) → (A ⊗ B) ⊗ C ≡ A ⊗ B ⊗ C
unfolding ◌⊗◌
times_assoc [] B C = refl
times_assoc (r ∷ A) B C = times_append (before r B) (A ⊗ B) C ∙ rw (before_times, times_assoc A B C)

before_nil : (C : List Row) → before [] C ≡ C
unfolding before
before_nil [] = refl
before_nil (s ∷ C) = rw (before_nil C)

pub one_times : (C : List Row) → ([] ∷ []) ⊗ C ≡ C
unfolding ◌⊗◌
one_times C = append-nil _ ∙ before_nil C

-- a row that fits takes its bytes off the front
pub rest_split : (r : Row) (w v : List ℕ) → rest r w ≡ some v → (s : List ℕ) × (w ≡ s ++ v) × (rest r s ≡ some [])
unfolding rest
rest_split [] w v e = ([], cc, refl)
rest_split (t ∷ r) [] v e = let z : ◌≡◌ {A = ℕ} 0 1 = cc in absurd (omega arith)
rest_split (t ∷ r) (b ∷ w) v e = go (pass t b) refl (rest_split r w v)
  where
    go : (x : Bool) → pass t b ≡ x → (rest r w ≡ some v → (s : List ℕ) × (w ≡ s ++ v) × (rest r s ≡ some [])) → (s : List ℕ) × (b ∷ w ≡ s ++ v) × (rest (t ∷ r) s ≡ some [])
    go true f ih =
        let q = ih (sym (ap (λ (y : Bool). when y (rest r w)) f) ∙ e) in
        (b ∷ q.0, ap (λ (l : List ℕ). b ∷ l) q.1, ap (λ (y : Bool). when y (rest r q.0)) f ∙ q.2)
    go false f ih = let g : none ≡ some v = sym (ap (λ (y : Bool). when y (rest r w)) f) ∙ e in let z : ◌≡◌ {A = ℕ} 0 1 = cc in absurd (omega arith)
