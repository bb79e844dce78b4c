-- What holds of every strong literal part and of every widened slice that has a rank holds of what is chosen. Assumes nothing.
use mathlib.Core.Path.{◌≡◌, refl, sym, subst}
use mathlib.Core.Bool.{Bool, true, false, cond, ◌&&◌}
use mathlib.Core.Logic.{⊎_elim}
use mathlib.Core.Option.{some}
use mathlib.Core.List.Memᴰ
use mathlib.Core.List.{List, [], ◌∷◌, ◌++◌, Memᴰ}
use Prim.Native.Nat.{ℕ}
use lib.Dec.{leb, ltb}
use Rattle.def_meaning.specs.Tokens.{Tokens, nothing}
use Rattle.atoms.specs.Score.{literal_score}
use Rattle.def_picking.specs.Runs.{runs, parts, is_literal, Slice, slices}
use Rattle.def_picking.specs.Candidates.{Ranked, ranked, skipped, excessive, Candidate, unranked, chosen, too_many_literals, widened, against, rank_of, best, bytes_of, strong, alone_or, in_run, beats, between, among_runs, in_pattern}

-- each of some things is as asked
unfoldable pub Every : {A : Type 0} → (A → Type 0) → List A → Type 0
Every asked [] = Unit {0}
Every asked (x ∷ xs) = asked x × Every asked xs

pub every_at : {A : Type 0} (asked : A → Type 0) {x : A} (xs : List A) → Every asked xs → Memᴰ x xs → asked x
unfolding Every
every_at asked [] h m = absurd (Memᴰ.not-nil m)
every_at asked (y ∷ ys) h m = ⊎_elim (λ e. subst asked (sym e) h.0) (λ k. every_at asked ys h.1 k) (Memᴰ.cases_cons m)

pub every_append : {A : Type 0} (asked : A → Type 0) (xs ys : List A) → Every asked xs → Every asked ys → Every asked (xs ++ ys)
unfolding Every
every_append asked [] ys h k = k
every_append asked (x ∷ xs) ys h k = (h.0, every_append asked xs ys h.1 k)

pub every_map : {A : Type 0} (asked told : A → Type 0) → ((x : A) → asked x → told x) → (xs : List A) → Every asked xs → Every told xs
unfolding Every
every_map asked told f [] h = tt
every_map asked told f (x ∷ xs) h = (f x h.0, every_map asked told f xs h.1)

module _ (Good : Tokens → Type 0) where
  -- what is chosen, if anything is
  unfoldable pub Holds : Candidate → Type 0
  Holds unranked = Unit {0}
  Holds (chosen n us) = Good us
  Holds too_many_literals = Unit {0}

  -- a part, if it is a literal
  abbrev pub Literally : Tokens → Type 0
  Literally p = is_literal p ≡ true → Good p

  -- a widened slice, if it has a rank
  abbrev pub Widely : Slice → Type 0
  Widely s = (n : ℕ) → rank_of s ≡ ranked n → Good (widened s)

  holds_by : (b : Bool) (c d : Candidate) → Holds c → Holds d → Holds (cond b c d)
  holds_by true c d h k = h
  holds_by false c d h k = k

  against_holds : (c : Candidate) (s : Slice) (r : Ranked) → rank_of s ≡ r → Widely s → Holds c → Holds (against c s r)
  unfolding against Holds
  against_holds unranked s (ranked n) e w h = w n e
  against_holds unranked s skipped e w h = tt
  against_holds unranked s excessive e w h = tt
  against_holds (chosen m ts) s (ranked n) e w h = holds_by (ltb m n) (chosen n (widened s)) (chosen m ts) (w n e) h
  against_holds (chosen m ts) s skipped e w h = h
  against_holds (chosen m ts) s excessive e w h = tt
  against_holds too_many_literals s r e w h = tt

  best_holds : (ss : List Slice) (c : Candidate) → Every Widely ss → Holds c → Holds (best c ss)
  unfolding best Every
  best_holds [] c w h = h
  best_holds (s ∷ ss) c w h = best_holds ss (against c s (rank_of s)) w.1 (against_holds c s (rank_of s) refl w.0 h)

  alone_holds : (ps : List Tokens) (c : Candidate) → Every Literally ps → Holds c → Holds (alone_or (strong ps) c)
  unfolding strong alone_or Holds Every
  alone_holds [] c l h = h
  alone_holds (p ∷ ps) c l h = go (is_literal p) (leb 80 (literal_score (bytes_of p))) l.0 (alone_holds ps c l.1 h)
    where
      go : (a b : Bool) → (a ≡ true → Good p) → Holds (alone_or (strong ps) c) → Holds (alone_or (cond (a && b) (some p) (strong ps)) c)
      go true true g k = g refl
      go true false g k = k
      go false b g k = k

  pub run_holds : (run : Tokens) → Every Literally (parts run) → Every Widely (slices (parts run) nothing) → Holds (in_run run)
  unfolding in_run Holds
  run_holds run l w = alone_holds (parts run) _ l (best_holds (slices (parts run) nothing) unranked w tt)

  between_holds : (c d : Candidate) → Holds c → Holds d → Holds (between c d)
  unfolding between Holds
  between_holds unranked d h k = k
  between_holds (chosen m ts) unranked h k = h
  between_holds (chosen m ts) (chosen n us) h k = holds_by (beats n us m ts) (chosen n us) (chosen m ts) k h
  between_holds (chosen m ts) too_many_literals h k = tt
  between_holds too_many_literals d h k = tt

  among_holds : (rs : List Tokens) (c : Candidate) → Every (λ r. Holds (in_run r)) rs → Holds c → Holds (among_runs c rs)
  unfolding among_runs Every
  among_holds [] c w h = h
  among_holds (r ∷ rs) c w h = among_holds rs (between c (in_run r)) w.1 (between_holds c (in_run r) h w.0)

  pub pattern_holds : (ts : Tokens) → Every (λ r. Holds (in_run r)) (runs ts) → Holds (in_pattern ts)
  unfolding in_pattern Holds
  pattern_holds ts w = among_holds (runs ts) unranked w tt

-- and so does what follows from it
pub holds_map : (asked told : Tokens → Type 0) → ((us : Tokens) → asked us → told us) → (c : Candidate) → Holds asked c → Holds told c
unfolding Holds
holds_map asked told f unranked h = tt
holds_map asked told f (chosen n us) h = f us h
holds_map asked told f too_many_literals h = tt
