-- The part that tm_tail names is the one that the second forward door hands back. Assumes nothing.
use Rattle.std.proofs.Common.{◌≡◌, refl, sym, ap, ◌∙◌, List, ℕ, ◌-◌, ◌≤◌, arith, length}
use Rattle.std.proofs.Math.Option.{Option, none, some}
use Rattle.def_meaning.specs.Rows.{forward}
use Rattle.def_meaning.specs.Words.{prog}
use Rattle.checkdoors.specs.Doors.{CheckSaid, found, no_match, refuses, window, refusal, unless, end_at, forward_says, left_says, left_from, left_at}
use Rattle.checkdoors.proofs.DoorLaws.{fine, forward_refused, left_refused}
use Rattle.checkdoors.proofs.Theorems.{left_tail, left_nothing}
use Rattle.tokenmarsh.specs.Results.{tail_told, tail_bytes}

-- the end that is found is not after the window's
found_within : (x : Option ℕ) (e n : ℕ) (y : Option (List ℕ)) → unless x (end_at e y) ≡ found n → n ≤ e
found_within none e n none h = cc
found_within none e n (some v) h = let z : e - length v ≡ n = cc in omega arith
found_within (some k) e n y h = cc

pub forward_within : (ws hay : List ℕ) (s e n : ℕ) → forward_says ws hay s e ≡ found n → n ≤ e
unfolding forward_says
forward_within ws hay s e n h = found_within (refusal ws (length hay) s e) e n (forward (prog ws) (window hay s e)) h

-- a check that may run is not refused
not_refused : (x : Option ℕ) (e n p : ℕ) (y : Option (List ℕ)) → none ≡ x → unless x (end_at e y) ≡ refuses n p → ⊥
not_refused none e n p none g h = cc
not_refused none e n p (some v) g h = cc
not_refused (some k) e n p y g h = cc

module _ (ws hay : List ℕ) (s e : ℕ) where
  abbrev Left : CheckSaid → Type 0
  Left o = tail_bytes (tail_told e o) hay ≡ left_says ws hay s e

  answered : none ≡ refusal ws (length hay) s e → (o : CheckSaid) → forward_says ws hay s e ≡ o → Left o
  unfolding forward_says
  answered h (found n) g = let f = fine ws (length hay) s e h in sym (left_tail ws hay s e f.tested f.ordered f.inside n g)
  answered h no_match g = let f = fine ws (length hay) s e h in sym (left_nothing ws hay s e f.tested f.ordered f.inside g)
  answered h (refuses n p) g = absurd (not_refused (refusal ws (length hay) s e) e n p (forward (prog ws) (window hay s e)) h g)

  either : (x : Option ℕ) → x ≡ refusal ws (length hay) s e → Left (forward_says ws hay s e)
  either none h = answered h (forward_says ws hay s e) refl
  either (some k) h = ap (λ (o : CheckSaid). tail_bytes (tail_told e o) hay) (sym (forward_refused ws hay s e k h)) ∙ left_refused ws hay s e k h

  pub tail_is_left : tail_bytes (tail_told e (forward_says ws hay s e)) hay ≡ left_says ws hay s e
  tail_is_left = either (refusal ws (length hay) s e) refl

-- and it begins where that part lies
begins : (e : ℕ) (o : CheckSaid) → (tail_told e o).offset ≡ left_from o
begins e (found n) = refl
begins e no_match = refl
begins e (refuses n place) = refl

pub tail_begins : (ws hay : List ℕ) (s e : ℕ) → (tail_told e (forward_says ws hay s e)).offset ≡ left_at ws hay s e
unfolding left_at
tail_begins ws hay s e = begins e (forward_says ws hay s e)
