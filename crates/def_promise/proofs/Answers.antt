-- Sound words whose program has exactly some spans: what the doors answer with them. Assumes nothing.
use Rattle.std.proofs.Common.{◌≡◌, refl, sym, ap, ◌∙◌, subst, true, ◌↔◌, List, ◌++◌, reverse, ℕ, ◌+◌, ◌-◌, ◌≤◌, arith, length}
use Rattle.std.proofs.Math.Option.{Option, none, some}
use mathlib.Core.List.{reverse-append, reverse-reverse}
use Rattle.def_meaning.specs.Values.{Bytes}
use Rattle.def_meaning.specs.Programs.{Prog, Span}
use Rattle.def_meaning.specs.Choices.{FirstForward, FirstReverse}
use Rattle.def_meaning.specs.Rows.{forward, backward}
use Rattle.def_meaning.specs.Words.{prog, sound}
use Rattle.def_meaning.proofs.ChoiceLaws.{span_fits, fits_span}
use Rattle.def_meaning.proofs.WordSpans.{sound_length}
use Rattle.checkdoors.specs.Doors.{CheckSaid, found, no_match, refuses, window, refusal, end_at, start_at, forward_says, reverse_says}
use Rattle.checkdoors.proofs.DoorLaws.{passed, forward_checked, reverse_checked}
use Rattle.checkdoors.proofs.Theorems.{forward_finds, finds_forward, forward_misses, reverse_finds, finds_reverse, reverse_misses}
use Rattle.def_meaning.specs.NodeWords.{SoundWords}
use Rattle.def_promise.specs.Pattern.{SpanAt, FirstEnd, FirstStart, AnswersForward, AnswersReverse, ForwardDoor, ReverseDoor}
use Rattle.def_meaning.proofs.NodeWords.{sound_listed, program_listed}
use Rattle.def_promise.proofs.Cuts.{part_length, part_bytes, parts, cut}

end_fine : (e k p : ℕ) (x : Option (List ℕ)) → end_at e x ≡ refuses k p → ⊥
end_fine e k p none h = cc
end_fine e k p (some v) h = cc

start_fine : (s k p : ℕ) (x : Option (List ℕ)) → start_at s x ≡ refuses k p → ⊥
start_fine s k p none h = cc
start_fine s k p (some v) h = cc

-- an answer that is no refusal is found wherever it is not missed
found_or : (P : Type 0) (x : CheckSaid) → ((k p : ℕ) → x ≡ refuses k p → ⊥) → (x ≡ no_match → P → ⊥) → P → (n : ℕ) × (x ≡ found n)
found_or P (found n) a b p = (n, refl)
found_or P no_match a b p = absurd (b refl p)
found_or P (refuses k q) a b p = absurd (a k q refl)

missed_or : (x : CheckSaid) → ((k p : ℕ) → x ≡ refuses k p → ⊥) → ((n : ℕ) → x ≡ found n → ⊥) → x ≡ no_match
missed_or (found n) a b = absurd (b n refl)
missed_or no_match a b = refl
missed_or (refuses k q) a b = absurd (a k q refl)

-- sound words and a window: what is found is the first choice, and there is no refusal
module _ (ws hay : List ℕ) (s e : ℕ) (h : sound ws ≡ true) (d : s ≤ e) (l : e ≤ length hay) where
  ok : none ≡ refusal ws (length hay) s e
  ok = passed ws (length hay) s e d l (sound_length ws h) (sym h)

  pub fine : (k p : ℕ) → forward_says ws hay s e ≡ refuses k p → ⊥
  fine k p g = end_fine e k p (forward (prog ws) (window hay s e)) (forward_checked ws hay s e ok ∙ g)

  pub to_first : (n : ℕ) → forward_says ws hay s e ≡ found n → FirstEnd (prog ws) hay s e n
  to_first n g =
      let (v, f, k) = forward_finds ws hay s e h d l n g in
      let c = cut hay f.fits.0 v s e d l f.fits.1 in
      let m : c.at ≡ n = c.from_end ∙ sym k in
      subst (FirstEnd (prog ws) hay s e) m (c.after, c.before, subst (FirstForward (prog ws) (window hay s e)) c.back f)

  pub of_first : (n : ℕ) → FirstEnd (prog ws) hay s e n → forward_says ws hay s e ≡ found n
  of_first n (a, b, f) =
      let k = part_length hay n e b l in
      let m : e - length (window hay n e) ≡ n = omega (arith, k) in
      finds_forward ws hay s e h d l (window hay n e) f ∙ ap found m

  pub back_fine : (k p : ℕ) → reverse_says ws hay s e ≡ refuses k p → ⊥
  back_fine k p g = start_fine s k p (backward (prog ws) (window hay s e)) (reverse_checked ws hay s e ok ∙ g)

  -- what the first choice takes, read forward again, is behind what it leaves
  turned : (u x : List ℕ) → reverse (window hay s e) ≡ x ++ reverse u → window hay s e ≡ u ++ reverse x
  turned u x g = sym (reverse-reverse (window hay s e)) ∙ ap reverse g ∙ reverse-append x (reverse u) ∙ ap (λ (z : List ℕ). z ++ reverse x) (reverse-reverse u)

  pub to_start : (n : ℕ) → reverse_says ws hay s e ≡ found n → FirstStart (prog ws) hay s e n
  to_start n g =
      let (u, f, k) = reverse_finds ws hay s e h d l n g in
      let c = cut hay u (reverse f.fits.0) s e d l (turned u f.fits.0 f.fits.1) in
      let m : c.at ≡ n = c.from_start ∙ sym k in
      subst (FirstStart (prog ws) hay s e) m (c.after, c.before, subst (FirstReverse (prog ws) (window hay s e)) c.front f)

  pub of_start : (n : ℕ) → FirstStart (prog ws) hay s e n → reverse_says ws hay s e ≡ found n
  of_start n (a, b, f) =
      let i : n ≤ length hay = omega arith in
      let k = part_length hay s n a i in
      let m : s + length (window hay s n) ≡ n = omega (arith, k) in
      finds_reverse ws hay s e h d l (window hay s n) f ∙ ap found m

module _ (spans : List ℕ → Type 0) (ws hay : List ℕ) (s e : ℕ) (h : sound ws ≡ true) (y : Bytes hay) (d : s ≤ e) (l : e ≤ length hay) where
  words : SoundWords ws
  words = (sound_listed ws).0 h

  -- the words' program, by computing and by what they say
  same : prog ws ≡ words.program
  same = program_listed words.nodes

  module _ (exact : (x : List ℕ) → Bytes x → spans x ↔ Span (prog ws) x) where
    span_of : (n : ℕ) → FirstEnd (prog ws) hay s e n → SpanAt spans hay s n
    span_of n (a, b, f) =
        let c = cut hay f.fits.0 (window hay n e) s e d l f.fits.1 in
        let k = part_length hay n e b l in
        let m : c.at ≡ n = omega (arith, c.from_end) in
        let x : f.fits.0 ≡ window hay s n = c.front ∙ ap (window hay s) m in
        (a, omega arith, (exact (window hay s n) (part_bytes hay s n y)).1 (subst (Span (prog ws)) x (fits_span (prog ws) f.choice f.fits.0 f.fits.2)))

    misses_span : forward_says ws hay s e ≡ no_match → (b : ℕ) → b ≤ e → SpanAt spans hay s b → ⊥
    misses_span g b i (j, k, q) =
        let (c, f) = span_fits (prog ws) (window hay s b) ((exact (window hay s b) (part_bytes hay s b y)).0 q) in
        (forward_misses ws hay s e h d l).0 g c (window hay b e) (window hay s b, parts hay s b e j i, f)

    answers_forward : AnswersForward spans ws hay s e (forward_says ws hay s e)
    answers_forward = record {
      words_sound = words;
      finds = (
        λ (n, g). let f = to_first ws hay s e h d l n g in (n, f.1, span_of n f),
        λ (b, i, q). found_or (SpanAt spans hay s b) (forward_says ws hay s e) (fine ws hay s e h d l) (λ g. misses_span g b i) q,
      );
      finds_span = λ n g. let f = to_first ws hay s e h d l n g in (f.1, span_of n f);
      finds_first = λ n. (
        λ g. subst (λ (p : Prog). FirstEnd p hay s e n) same (to_first ws hay s e h d l n g),
        λ g. of_first ws hay s e h d l n (subst (λ (p : Prog). FirstEnd p hay s e n) (sym same) g),
      );
      misses = (misses_span, λ g. missed_or (forward_says ws hay s e) (fine ws hay s e h d l) (λ n f. let x = to_first ws hay s e h d l n f in g n x.1 (span_of n x)));
      never_refuses = (fine ws hay s e h d l);
    }

  -- the same from the window's end; the reverse program has the spans read from their other side
  module _ (exact : (x : List ℕ) → Bytes x → spans x ↔ Span (prog ws) (reverse x)) where
    span_to : (n : ℕ) → FirstStart (prog ws) hay s e n → SpanAt spans hay n e
    span_to n (a, b, f) =
        let c = cut hay (window hay s n) (reverse f.fits.0) s e d l (turned ws hay s e h d l (window hay s n) f.fits.0 f.fits.1) in
        let i : n ≤ length hay = omega arith in
        let k = part_length hay s n a i in
        let m : c.at ≡ n = omega (arith, c.from_start) in
        let x : reverse f.fits.0 ≡ window hay n e = c.back ∙ ap (λ (z : ℕ). window hay z e) m in
        let z : f.fits.0 ≡ reverse (window hay n e) = sym (reverse-reverse f.fits.0) ∙ ap reverse x in
        (b, l, (exact (window hay n e) (part_bytes hay n e y)).1 (subst (Span (prog ws)) z (fits_span (prog ws) f.choice f.fits.0 f.fits.2)))

    misses_start : reverse_says ws hay s e ≡ no_match → (a : ℕ) → s ≤ a → SpanAt spans hay a e → ⊥
    misses_start g a i (j, k, q) =
        let (c, f) = span_fits (prog ws) (reverse (window hay a e)) ((exact (window hay a e) (part_bytes hay a e y)).0 q) in
        (reverse_misses ws hay s e h d l).0 g c (reverse (window hay s a)) (reverse (window hay a e), ap reverse (parts hay s a e i j) ∙ reverse-append (window hay s a) (window hay a e), f)

    answers_reverse : AnswersReverse spans ws hay s e (reverse_says ws hay s e)
    answers_reverse = record {
      words_sound = words;
      finds = (
        λ (n, g). let f = to_start ws hay s e h d l n g in (n, f.0, span_to n f),
        λ (a, i, q). found_or (SpanAt spans hay a e) (reverse_says ws hay s e) (back_fine ws hay s e h d l) (λ g. misses_start g a i) q,
      );
      finds_span = λ n g. let f = to_start ws hay s e h d l n g in (f.0, span_to n f);
      finds_first = λ n. (
        λ g. subst (λ (p : Prog). FirstStart p hay s e n) same (to_start ws hay s e h d l n g),
        λ g. of_start ws hay s e h d l n (subst (λ (p : Prog). FirstStart p hay s e n) (sym same) g),
      );
      misses = (misses_start, λ g. missed_or (reverse_says ws hay s e) (back_fine ws hay s e h d l) (λ n f. let x = to_start ws hay s e h d l n f in g n x.0 (span_to n x)));
      never_refuses = (back_fine ws hay s e h d l);
    }

-- so whatever the doors answer, by their promises
module _ (spans : List ℕ → Type 0) (ws : List ℕ) (h : sound ws ≡ true) where
  pub forward_door : ((x : List ℕ) → Bytes x → spans x ↔ Span (prog ws) x) → ForwardDoor spans ws
  forward_door exact hay s e r d l a = subst (AnswersForward spans ws hay s e) (sym a.says) (answers_forward spans ws hay s e h a.bytes d l exact)

  pub reverse_door : ((x : List ℕ) → Bytes x → spans x ↔ Span (prog ws) (reverse x)) → ReverseDoor spans ws
  reverse_door exact hay s e r d l a = subst (AnswersReverse spans ws hay s e) (sym a.says) (answers_reverse spans ws hay s e h a.bytes d l exact)
