-- The laws of `run`, a node at a time, in either order. Assumes nothing.
use mathlib.Core.Path.{◌≡◌, refl, sym, ap, ◌∙◌}
use mathlib.Core.Bool.{Bool, true, false}
use mathlib.Core.Option.{Option, none, some}
use mathlib.Core.List.{List, [], ◌∷◌, ◌++◌, map, reverse, reverse-append}
use Prim.Native.Nat.{ℕ, zero, suc, ◌+◌, ◌-◌, ◌≤◌, ◌<◌}
use native.Mathlib.Omega.{arith}
use native.Mathlib.Numerals.{add-one}
use native.Mathlib.Nat.{add-zero, suc-add, add-suc}
use lib.ListN.{length, drop}
use Rattle.def_meaning.specs.Programs.{Test, pass, Prog, Branches, one, jump, range, alt, end, ◌▹◌, stop, or, ◌⧺◌}
use Rattle.def_meaning.specs.Choices.{Order, short, long}
use Rattle.def_meaning.specs.Rows.{Row, when, or_else, and_then, rest, found, ◌⊗◌, anys, rising, lengths, rows, run}
use Rattle.def_meaning.proofs.RowLaws.{found_times, found_append, times_append}
use Rattle.def_meaning.proofs.ProgLaws.{rows_join}

pub or_none : (x : Option (List ℕ)) → or_else x none ≡ x
or_none none = refl
or_none (some v) = refl

-- one row before a list of them
pub found_single : (r : Row) (B : List Row) (w : List ℕ) → found ((r ∷ []) ⊗ B) w ≡ and_then (rest r w) (found B)
unfolding ◌⊗◌ found
found_single r B w = found_times r [] B w ∙ or_none _

module _ (o : Order) where
  pub run_end_lem : (w : List ℕ) → run o end w ≡ some w
  unfolding run rows found rest
  run_end_lem w = refl

  module _ (p : Prog) where
    pub run_one_none : (t : Test) → run o (one t ▹ p) [] ≡ none
    unfolding run rows rest
    run_one_none t = found_single (t ∷ []) (rows o p) []

    pub run_one : (t : Test) (b : ℕ) (w : List ℕ) → run o (one t ▹ p) (b ∷ w) ≡ when (pass t b) (run o p w)
    unfolding run rows rest
    run_one t b w = found_single (t ∷ []) (rows o p) (b ∷ w) ∙ go (pass t b)
      where
        go : (x : Bool) → and_then (when x (some w)) (found (rows o p)) ≡ when x (found (rows o p) w)
        go true = refl
        go false = refl

-- a row of n bytes, whatever they are
rest_anys : (n : ℕ) (w : List ℕ) → n ≤ length w → rest (anys n) w ≡ some (drop n w)
unfolding rest pass
rest_anys zero w h = refl
rest_anys (suc n) [] h = absurd (omega arith)
rest_anys (suc n) (b ∷ w) h = rest_anys n w (omega arith)

rest_anys_none : (n : ℕ) (w : List ℕ) → length w < n → rest (anys n) w ≡ none
unfolding rest pass
rest_anys_none zero w h = absurd (omega arith)
rest_anys_none (suc n) [] h = refl
rest_anys_none (suc n) (b ∷ w) h = rest_anys_none n w (omega arith)

module _ (o : Order) (p : Prog) (w : List ℕ) where
  pub run_jump : (n : ℕ) → n ≤ length w → run o (jump n ▹ p) w ≡ run o p (drop n w)
  unfolding run rows
  run_jump n h = found_single (anys n) (rows o p) w ∙ rw (rest_anys n w h)

  pub run_jump_none : (n : ℕ) → length w < n → run o (jump n ▹ p) w ≡ none
  unfolding run rows
  run_jump_none n h = found_single (anys n) (rows o p) w ∙ rw (rest_anys_none n w h)

  pub run_alt_stop : run o (alt stop ▹ p) w ≡ none
  unfolding run rows ◌⊗◌ found
  run_alt_stop = refl

  pub run_alt : (b : Prog) (bs : Branches) → run o (alt (or b bs) ▹ p) w ≡ or_else (run o (b ⧺ p) w) (run o (alt bs ▹ p) w)
  unfolding run rows
  run_alt b bs = rw (times_append, found_append, rows_join)

no_lengths : (a b : ℕ) → b < a → suc b - a ≡ 0
no_lengths a b h = omega arith

module _ (p : Prog) (w : List ℕ) where
  pub run_range_empty : (o : Order) (a b : ℕ) → b < a → run o (range a b ▹ p) w ≡ none
  unfolding run rows lengths rising ◌⊗◌ found
  run_range_empty short a b h = rw (no_lengths a b h)
  run_range_empty long a b h = rw (no_lengths a b h)

  -- forward, the shortest first
  pub run_range : (a b : ℕ) → a ≤ b → run short (range a b ▹ p) w ≡ or_else (run short (jump a ▹ p) w) (run short (range (a + 1) b ▹ p) w)
  unfolding run rows lengths rising
  run_range a b h =
      let e : suc b - a ≡ suc (b - a) = omega arith in
      let f : suc b - (a + 1) ≡ b - a = omega arith in
      rw (e, f, add-one a) (found_times (anys a) (map anys (rising (suc a) (b - a))) (rows short p) w ∙ rw (found_single (anys a) (rows short p) w))

-- in reverse, the longest first
rising_snoc : (a n : ℕ) → rising a (suc n) ≡ rising a n ++ ((a + n) ∷ [])
unfolding rising
rising_snoc a zero = rw add-zero
rising_snoc a (suc n) = ap (λ (l : List ℕ). a ∷ l) (rising_snoc (suc a) n ∙ ap (λ (k : ℕ). rising (suc a) n ++ (k ∷ [])) (suc-add a n ∙ sym (add-suc a n)))

long_first : (a n : ℕ) → reverse (rising a (suc n)) ≡ (a + n) ∷ reverse (rising a n)
long_first a n = ap reverse (rising_snoc a n) ∙ reverse-append (rising a n) ((a + n) ∷ [])

-- the lengths from a up to n, not including it, the longest first
unfoldable pub below : ℕ → ℕ → Prog → List ℕ → Option (List ℕ)
below a n p w = found (map anys (reverse (rising a (n - a))) ⊗ rows long p) w

module _ (p : Prog) (w : List ℕ) where
  pub range_below : (a b : ℕ) → run long (range a b ▹ p) w ≡ below a (b + 1) p w
  unfolding run rows lengths below
  range_below a b = rw (add-one b)

  pub below_none : (a n : ℕ) → n ≤ a → below a n p w ≡ none
  unfolding below rising ◌⊗◌ found
  below_none a n h = let e : n - a ≡ 0 = omega arith in rw e

  pub below_step : (a n : ℕ) → a < n → below a n p w ≡ or_else (run long (jump (n - 1) ▹ p) w) (below a (n - 1) p w)
  unfolding below run rows
  below_step a n h =
      let e : n - a ≡ suc (n - 1 - a) = omega arith in
      let f : a + (n - 1 - a) ≡ n - 1 = omega arith in
      rw (e, long_first, f) (found_times (anys (n - 1)) (map anys (reverse (rising a (n - 1 - a)))) (rows long p) w ∙ rw (found_single (anys (n - 1)) (rows long p) w))
