-- Each choice has a row, which fits just the bytes that the choice fits; the rows of a program are those of its choices.
-- Assumes nothing.
use mathlib.Core.Path.{◌≡◌, refl, sym, ap, ap₂, ◌∙◌}
use mathlib.Core.Bool.{Bool, true, false}
use mathlib.Core.Option.{Option, none, some}
use mathlib.Core.Logic.{inl, inr}
use mathlib.Core.List.{List, [], ◌∷◌, ◌++◌, map, map-map, map-append}
use Prim.Native.Nat.{ℕ, zero, suc}
use native.Mathlib.Omega.{arith}
use lib.ListN.{length}
use Rattle.def_meaning.specs.Programs.{Test, pass, Item, Prog, Branches, one, jump, range, alt, end, ◌▹◌, stop, or}
use Rattle.def_meaning.specs.Choices.{Way, Choice, bytes, first, later, Allows, Chooses, AllowsIn, Takes, Fits, TakesIn, Order}
use Rattle.def_meaning.specs.Rows.{Row, when, and_then, rest, before, ◌⊗◌, anys, lengths, rows_of, rows, rows_in, via_each, ◌⊠◌, ways, choices, ways_in, head_way, tail_choice, by_way, row_way, row_by, row_in}
use Rattle.def_meaning.proofs.RowLaws.{rest_append, rest_split}

-- the rows of a program are those of its choices, in their order
module _ (i : Item) (p : Prog) where
  via_rows : (k : Way) (cs : List Choice) → map (row_by (i ▹ p)) (via_each k cs) ≡ before (row_way i k) (map (row_by p) cs)
  unfolding row_by via_each before
  via_rows k [] = refl
  via_rows k (c ∷ cs) = ap (λ (l : List Row). (row_way i k ++ row_by p c) ∷ l) (via_rows k cs)

  times_rows : (ks : List Way) (cs : List Choice) → map (row_by (i ▹ p)) (ks ⊠ cs) ≡ map (row_way i) ks ⊗ map (row_by p) cs
  unfolding ◌⊠◌ ◌⊗◌
  times_rows [] cs = refl
  times_rows (k ∷ ks) cs = map-append (row_by (i ▹ p)) (via_each k cs) (ks ⊠ cs) ∙ ap₂ ◌++◌ (via_rows k cs) (times_rows ks cs)

range_rows : (a b : ℕ) (l : List ℕ) → map anys l ≡ map (row_way (range a b)) (map bytes l)
unfolding row_way
range_rows a b [] = refl
range_rows a b (n ∷ l) = ap (λ (r : List Row). anys n ∷ r) (range_rows a b l)

branch_rows : (p : Prog) (bs : Branches) (cs : List Choice) (ks : List Way) → map (row_by p) cs ++ map (row_in bs) ks ≡ map (row_in (or p bs)) (map first cs ++ map later ks)
unfolding row_in
branch_rows p bs cs ks = sym (map-append (row_in (or p bs)) (map first cs) (map later ks) ∙ ap₂ ◌++◌ (map-map (row_in (or p bs)) first cs) (map-map (row_in (or p bs)) later ks))

module _ (o : Order) where
  mutual
    unfolding rows choices row_by

    rows_ways : (i : Item) → rows_of o i ≡ map (row_way i) (ways o i)
    rows_ways (one t) = refl
    rows_ways (jump n) = refl
    rows_ways (range a b) = range_rows a b (lengths o a b)
    rows_ways (alt bs) = rows_ways_in bs

    pub rows_choices : (p : Prog) → rows o p ≡ map (row_by p) (choices o p)
    rows_choices end = refl
    rows_choices (i ▹ p) = ap₂ ◌⊗◌ (rows_ways i) (rows_choices p) ∙ sym (times_rows i p (ways o i) (choices o p))

    rows_ways_in : (bs : Branches) → rows_in o bs ≡ map (row_in bs) (ways_in o bs)
    rows_ways_in stop = refl
    rows_ways_in (or p bs) = ap₂ ◌++◌ (rows_choices p) (rows_ways_in bs) ∙ branch_rows p bs (choices o p) (ways_in o bs)

-- a row that fits s fits what begins with s
pub rest_frame : (r : Row) (s u v : List ℕ) → rest r s ≡ some u → rest r (s ++ v) ≡ some (u ++ v)
unfolding rest
rest_frame [] s u v e = let z : s ≡ u = cc in ap (λ (l : List ℕ). some (l ++ v)) z
rest_frame (t ∷ r) [] u v e = let z : ◌≡◌ {A = ℕ} 0 1 = cc in absurd (omega arith)
rest_frame (t ∷ r) (b ∷ s) u v e = go (pass t b) refl (rest_frame r s u v)
  where
    go : (x : Bool) → pass t b ≡ x → (rest r s ≡ some u → rest r (s ++ v) ≡ some (u ++ v)) → when (pass t b) (rest r (s ++ v)) ≡ some (u ++ v)
    go true f ih = ap (λ (y : Bool). when y (rest r (s ++ v))) f ∙ ih (sym (ap (λ (y : Bool). when y (rest r s)) f) ∙ e)
    go false f ih = let g : none ≡ some u = sym (ap (λ (y : Bool). when y (rest r s)) f) ∙ e in let z : ◌≡◌ {A = ℕ} 0 1 = cc in absurd (omega arith)

-- a row of n bytes, whatever they are
anys_all : (s : List ℕ) → rest (anys (length s)) s ≡ some []
unfolding rest pass
anys_all [] = refl
anys_all (b ∷ s) = anys_all s

all_anys : (n : ℕ) (s : List ℕ) → rest (anys n) s ≡ some [] → length s ≡ n
unfolding rest pass
all_anys zero s e = let z : s ≡ [] = cc in ap length z
all_anys (suc n) [] e = let z : ◌≡◌ {A = ℕ} 0 1 = cc in absurd (omega arith)
all_anys (suc n) (b ∷ s) e = ap suc (all_anys n s e)

one_row : (t : Test) (s : List ℕ) → rest (t ∷ []) s ≡ some [] → (b : ℕ) × (s ≡ b ∷ []) × (pass t b ≡ true)
unfolding rest
one_row t [] e = let z : ◌≡◌ {A = ℕ} 0 1 = cc in absurd (omega arith)
one_row t (b ∷ s) e = go (pass t b) refl e
  where
    go : (x : Bool) → pass t b ≡ x → when x (some s) ≡ some [] → (c : ℕ) × (b ∷ s ≡ c ∷ []) × (pass t c ≡ true)
    go true f g = let z : s ≡ [] = cc in (b, ap (λ (l : List ℕ). b ∷ l) z, f)
    go false f g = let z : ◌≡◌ {A = ℕ} 0 1 = cc in absurd (omega arith)

one_passed : (t : Test) (b : ℕ) → pass t b ≡ true → rest (t ∷ []) (b ∷ []) ≡ some []
unfolding rest
one_passed t b h = ap (λ (x : Bool). when x (some [])) h

nil_left : rest [] [] ≡ some []
unfolding rest
nil_left = refl

nil_some : (s : List ℕ) → rest [] s ≡ some [] → s ≡ []
unfolding rest
nil_some s h = cc

-- one row after another, on one part after another
two_rows : (r q : Row) (a b : List ℕ) → rest r a ≡ some [] → rest q b ≡ some [] → rest (r ++ q) (a ++ b) ≡ some []
two_rows r q a b f g = rest_append r q (a ++ b) ∙ ap (λ (x : Option (List ℕ)). and_then x (rest q)) (rest_frame r a [] b f) ∙ g

rows_two : (r q : Row) (s : List ℕ) → rest (r ++ q) s ≡ some [] → (a : List ℕ) × (b : List ℕ) × (s ≡ a ++ b) × (rest r a ≡ some []) × (rest q b ≡ some [])
rows_two r q s e = go (rest r s) refl (sym (rest_append r q s) ∙ e)
  where
    go : (x : Option (List ℕ)) → rest r s ≡ x → and_then (rest r s) (rest q) ≡ some [] → (a : List ℕ) × (b : List ℕ) × (s ≡ a ++ b) × (rest r a ≡ some []) × (rest q b ≡ some [])
    go none f h = let g : none ≡ some [] = sym (ap (λ (y : Option (List ℕ)). and_then y (rest q)) f) ∙ h in let z : ◌≡◌ {A = ℕ} 0 1 = cc in absurd (omega arith)
    go (some v) f h = let d = rest_split r s v f in (d.0, v, d.1, d.2, sym (ap (λ (y : Option (List ℕ)). and_then y (rest q)) f) ∙ h)

-- the row of a choice fits what the choice fits
mutual
  unfolding Fits row_by

  takes_row : (i : Item) (k : Way) (s : List ℕ) → Takes i k s → rest (row_way i k) s ≡ some []
  takes_row (one t) k s (b, q, e, h) = ap (rest (t ∷ [])) e ∙ one_passed t b h
  takes_row (jump n) k s (q, h) = ap (λ (m : ℕ). rest (anys m) s) (sym h) ∙ anys_all s
  takes_row (range a b) k s (q, h, g) = ap (λ (j : Way). rest (by_way j anys (λ c. []) (λ m. [])) s) q ∙ anys_all s
  takes_row (alt bs) k s h = takes_row_in bs k s h

  pub fits_row : (p : Prog) (c : Choice) (s : List ℕ) → Fits p c s → rest (row_by p c) s ≡ some []
  fits_row end c s (q, e) = ap (rest []) e ∙ nil_left
  fits_row (i ▹ p) c s (k, d, a, b, q, e, f, g) =
      ap₂ (λ (x : Choice) (l : List ℕ). rest (row_way i (head_way x) ++ row_by p (tail_choice x)) l) q e
      ∙ two_rows (row_way i k) (row_by p d) a b (takes_row i k a f) (fits_row p d b g)

  takes_row_in : (bs : Branches) (k : Way) (s : List ℕ) → TakesIn bs k s → rest (row_in bs k) s ≡ some []
  takes_row_in stop k s h = absurd h
  takes_row_in (or p bs) k s (inl (c, q, h)) = ap (λ (j : Way). rest (row_in (or p bs) j) s) q ∙ fits_row p c s h
  takes_row_in (or p bs) k s (inr (j, q, h)) = ap (λ (m : Way). rest (row_in (or p bs) m) s) q ∙ takes_row_in bs j s h

mutual
  unfolding Fits Chooses row_by

  row_takes : (i : Item) (k : Way) (s : List ℕ) → Allows i k → rest (row_way i k) s ≡ some [] → Takes i k s
  row_takes (one t) k s q h = let r = one_row t s h in (r.0, q, r.1, r.2)
  row_takes (jump n) k s q h = (q, all_anys n s h)
  row_takes (range a b) k s (n, q, l, g) h =
      let e : length s ≡ n = all_anys n s (sym (ap (λ (j : Way). rest (by_way j anys (λ c. []) (λ m. [])) s) q) ∙ h) in
      (q ∙ ap bytes (sym e), omega arith, omega arith)
  row_takes (alt bs) k s q h = row_takes_in bs k s q h

  pub row_fits : (p : Prog) (c : Choice) (s : List ℕ) → Chooses p c → rest (row_by p c) s ≡ some [] → Fits p c s
  row_fits end c s q h = (q, nil_some s h)
  row_fits (i ▹ p) c s (k, d, q, f, g) h =
      let r = rows_two (row_way i k) (row_by p d) s (sym (ap (λ (x : Choice). rest (row_way i (head_way x) ++ row_by p (tail_choice x)) s) q) ∙ h) in
      (k, d, r.0, r.1, q, r.2, row_takes i k r.0 f r.3, row_fits p d r.1 g r.4)

  row_takes_in : (bs : Branches) (k : Way) (s : List ℕ) → AllowsIn bs k → rest (row_in bs k) s ≡ some [] → TakesIn bs k s
  row_takes_in stop k s q h = q
  row_takes_in (or p bs) k s (inl (c, q, f)) h = inl (c, q, row_fits p c s f (sym (ap (λ (j : Way). rest (row_in (or p bs) j) s) q) ∙ h))
  row_takes_in (or p bs) k s (inr (j, q, f)) h = inr (j, q, row_takes_in bs j s f (sym (ap (λ (m : Way). rest (row_in (or p bs) m) s) q) ∙ h))
