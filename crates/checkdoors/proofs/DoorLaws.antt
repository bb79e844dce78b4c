-- The doors' answers, case by case. Assumes nothing.
use Rattle.std.proofs.Common.{◌≡◌, refl, sym, ap, ◌∙◌, Bool, true, false, cond, ◌&&◌, List, [], ◌∷◌, reverse, ℕ, suc, ◌+◌, ◌-◌, ◌≤◌, ◌<◌, arith, leb, length, drop, get_or, length-drop, length-take-le, w8, Fits, le-leb, leb-true, Some, None, Result, Ok, Err, IsErrAnd, is_err, true≢false, Option as Found}
use Rattle.std.proofs.Math.Option.{Option, none, some}
use Rattle.std.proofs.Math.ListN.{length-reverse}
use borrow.Author.Tests.{lt-leb}
use Rattle.def_meaning.specs.Limits.{node_limit}
use Rattle.def_meaning.specs.Values.{Bytes}
use Rattle.def_meaning.specs.Choices.{short, long}
use Rattle.def_meaning.specs.Rows.{forward, backward}
use Rattle.def_meaning.specs.Words.{prog, sound, Sound}
use Rattle.def_meaning.proofs.WordSpans.{sound_words_lem}
use Rattle.def_meaning.proofs.PartLaws.{from, to_end}
use Rattle.steps.specs.Steps.{answer}
use Rattle.steps.proofs.Answers.{answer_some, answer_none, left_fits, left_part}
use Rattle.base.specs.declared.Refusal.{Refusal}
use Rattle.base.specs.Refusals.{number_of}
use Rattle.checkdoors.specs.Doors.{check_said, why_not, found, no_match, refuses, window, refusal, end_at, start_at, forward_says, reverse_says, left_or, left_says, left_from, left_at, onward}

-- what a slice of bytes holds is below 256, each by its type
pub all_bytes : (hay : List ℕ) → ((i : ℕ) → Fits w8 (get_or hay i 0)) → Bytes hay
unfolding Bytes
all_bytes [] h = tt
all_bytes (b ∷ hay) h = ((h 0).fits, all_bytes hay (λ i. h (suc i)))

-- a place of the same block, so many bytes on
pub lies_on : (block o k n : ℕ) → k ≡ o + n → ◌≡◌ {A = ℕ × ℕ} (block, k) (onward (block, o) n)
lies_on block o k n e = ap (λ (x : ℕ). (block, x)) e

-- what `?` makes of a refusal
pub refused_says : (r : Result (Found ℕ) Refusal) (why : Refusal) → IsErrAnd r (λ x. x ≡ why) → check_said r ≡ refuses (number_of why) 0
refused_says (Ok x) why h = absurd h
refused_says (Err x) why h = ap (λ (y : Refusal). refuses (number_of y) 0) h

-- what is known of the tests from whether they refuse
pub no_error : (r : Result Unit Refusal) → is_err r ≡ false → none ≡ why_not r
no_error (Ok u) h = refl
no_error (Err x) h = absurd (true≢false h)

pub some_error : (r : Result Unit Refusal) → is_err r ≡ true → (k : ℕ) × (some k ≡ why_not r)
some_error (Ok u) h = absurd (true≢false (sym h))
some_error (Err x) h = (number_of x, refl)

-- the tests, in their order
module _ (ws : List ℕ) (n s e : ℕ) where
  pub crossed : e < s → some 16 ≡ refusal ws n s e
  unfolding refusal
  crossed h = rw (lt-leb s e h)

  pub beyond : s ≤ e → n < e → some 16 ≡ refusal ws n s e
  unfolding refusal
  beyond h l = rw (le-leb s e h, lt-leb e n l)

  module _ (h : s ≤ e) (l : e ≤ n) where
    pub many : node_limit < length ws → some 13 ≡ refusal ws n s e
    unfolding refusal
    many m = rw (le-leb s e h, le-leb e n l, lt-leb (length ws) node_limit m)

    pub unsound : length ws ≤ node_limit → false ≡ sound ws → some 15 ≡ refusal ws n s e
    unfolding refusal
    unsound m f = rw (le-leb s e h, le-leb e n l, le-leb (length ws) node_limit m, ← f)

    pub passed : length ws ≤ node_limit → true ≡ sound ws → none ≡ refusal ws n s e
    unfolding refusal
    passed m f = rw (le-leb s e h, le-leb e n l, le-leb (length ws) node_limit m, ← f)

-- what is known where nothing was refused
pub record Fine (ws : List ℕ) (n s e : ℕ) : Type 0 where
  pub ordered : s ≤ e
  pub inside : e ≤ n
  pub tested : sound ws ≡ true

pub fine : (ws : List ℕ) (n s e : ℕ) → none ≡ refusal ws n s e → Fine ws n s e
unfolding refusal
fine ws n s e h = go (leb s e) (leb e n) (leb (length ws) node_limit) (sound ws) (leb-true s e) (leb-true e n) refl h
  where
    go : (a b c d : Bool) → (a ≡ true → s ≤ e) → (b ≡ true → e ≤ n) → sound ws ≡ d → ◌≡◌ {A = Option ℕ} none (cond (a && b) (cond c (cond d none (some 15)) (some 13)) (some 16)) → Fine ws n s e
    go true true true true f g t x = record { ordered = f refl; inside = g refl; tested = t }
    go true true true false f g t x = let z : ◌≡◌ {A = ℕ} 0 1 = cc in absurd (omega arith)
    go true true false d f g t x = let z : ◌≡◌ {A = ℕ} 0 1 = cc in absurd (omega arith)
    go true false c d f g t x = let z : ◌≡◌ {A = ℕ} 0 1 = cc in absurd (omega arith)
    go false b c d f g t x = let z : ◌≡◌ {A = ℕ} 0 1 = cc in absurd (omega arith)

pub fine_sound : {ws : List ℕ} {n s e : ℕ} → Fine ws n s e → Sound ws
fine_sound {ws} f = sound_words_lem ws f.tested

pub window_length : (ws hay : List ℕ) (s e : ℕ) → Fine ws (length hay) s e → length (window hay s e) ≡ e - s
window_length ws hay s e f = length-take-le (e - s) (drop s hay) (omega (arith, length-drop s hay, f.ordered, f.inside))

module _ (ws hay : List ℕ) (s e : ℕ) where
  -- refused
  pub forward_refused : (k : ℕ) → some k ≡ refusal ws (length hay) s e → refuses k 0 ≡ forward_says ws hay s e
  unfolding forward_says
  forward_refused k h = rw (sym h)

  pub reverse_refused : (k : ℕ) → some k ≡ refusal ws (length hay) s e → refuses k 0 ≡ reverse_says ws hay s e
  unfolding reverse_says
  reverse_refused k h = rw (sym h)

  pub left_refused : (k : ℕ) → some k ≡ refusal ws (length hay) s e → [] ≡ left_says ws hay s e
  unfolding left_says
  left_refused k h = rw (sym h)

  pub left_at_refused : (k : ℕ) → some k ≡ refusal ws (length hay) s e → 0 ≡ left_at ws hay s e
  unfolding left_at
  left_at_refused k h = ap left_from (forward_refused k h)

  -- not refused
  module _ (h : none ≡ refusal ws (length hay) s e) where
    pub forward_checked : end_at e (forward (prog ws) (window hay s e)) ≡ forward_says ws hay s e
    unfolding forward_says
    forward_checked = rw (sym h)

    pub reverse_checked : start_at s (backward (prog ws) (window hay s e)) ≡ reverse_says ws hay s e
    unfolding reverse_says
    reverse_checked = rw (sym h)

    pub left_checked : left_or (forward (prog ws) (window hay s e)) ≡ left_says ws hay s e
    unfolding left_says
    left_checked = rw (sym h)

    module _ (g : None ≡ answer (forward (prog ws) (window hay s e))) where
      pub forward_none : no_match ≡ forward_says ws hay s e
      forward_none = sym (ap (end_at e) (answer_none (forward (prog ws) (window hay s e)) g)) ∙ forward_checked

      pub left_at_none : 0 ≡ left_at ws hay s e
      unfolding left_at
      left_at_none = ap left_from forward_none

      pub left_none : [] ≡ left_says ws hay s e
      left_none = sym (ap left_or (answer_none (forward (prog ws) (window hay s e)) g)) ∙ left_checked

    module _ (k : ℕ) (g : Some k ≡ answer (forward (prog ws) (window hay s e))) where
      pub left_below : k ≤ length (window hay s e)
      left_below = left_fits short (prog ws) (window hay s e) k g

      pub left_end : k ≤ e
      left_end = omega (arith, left_below, window_length ws hay s e (fine ws (length hay) s e h))

      pub forward_found : found (e - k) ≡ forward_says ws hay s e
      forward_found =
          let q = answer_some (forward (prog ws) (window hay s e)) k g in
          sym (ap (end_at e) q.1 ∙ ap (λ (n : ℕ). found (e - n)) q.2) ∙ forward_checked

      -- counted from the window's start
      pub left_at_found : s + (length (window hay s e) - k) ≡ left_at ws hay s e
      unfolding left_at
      left_at_found =
          let f = fine ws (length hay) s e h in
          let b = left_below in
          let w = window_length ws hay s e f in
          let m : s + (length (window hay s e) - k) ≡ e - k = omega (arith, f.ordered) in
          m ∙ ap left_from forward_found

      pub left_found : from (length (window hay s e) - k) (window hay s e) ≡ left_says ws hay s e
      left_found = to_end (length (window hay s e) - k) (window hay s e) ∙ sym (ap left_or (left_part short (prog ws) (window hay s e) k g)) ∙ left_checked

    pub reverse_none : None ≡ answer (backward (prog ws) (window hay s e)) → no_match ≡ reverse_says ws hay s e
    reverse_none g = sym (ap (start_at s) (answer_none (backward (prog ws) (window hay s e)) g)) ∙ reverse_checked

    module _ (k : ℕ) (g : Some k ≡ answer (backward (prog ws) (window hay s e))) where
      pub start_below : s + k ≤ e
      start_below =
          let f = fine ws (length hay) s e h in
          omega (arith, left_fits long (prog ws) (reverse (window hay s e)) k g, length-reverse (window hay s e), window_length ws hay s e f, f.ordered)

      pub reverse_found : found (s + k) ≡ reverse_says ws hay s e
      reverse_found =
          let q = answer_some (backward (prog ws) (window hay s e)) k g in
          sym (ap (start_at s) q.1 ∙ ap (λ (n : ℕ). found (s + n)) q.2) ∙ reverse_checked
