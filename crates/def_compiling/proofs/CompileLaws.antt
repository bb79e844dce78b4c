-- What compiling promises: sound words, and programs with exactly the spans of the tokens. Assumes nothing.
use mathlib.Core.Path.{◌≡◌, refl, sym, ap, ◌∙◌, subst}
use mathlib.Core.Bool.{true}
use mathlib.Core.Logic.Iff
use mathlib.Core.Logic.{◌↔◌}
use mathlib.Core.List.{List, reverse}
use Prim.Native.Nat.{ℕ, ◌≤◌}
use native.Mathlib.Omega.{arith}
use borrow.Author.Tests.{leb-true}
use Rattle.def_meaning.specs.Limits.{node_limit}
use Rattle.def_meaning.specs.Tokens.{Tokens, Spans}
use Rattle.def_meaning.specs.Values.{Bytes, Spelled}
use Rattle.def_meaning.specs.Programs.{Prog, Span}
use Rattle.def_meaning.specs.Words.{prog, sound}
use Rattle.def_meaning.proofs.SoundLaws.{and_left, and_right}
use Rattle.def_compiling.specs.ProgramWords.{words_of, nodes}
use Rattle.def_compiling.specs.Compiling.{backwards, forward_program, reverse_program, forward_words, reverse_words}
use Rattle.def_compiling.specs.Compile.{simple, short, few, compiled, compile}
use Rattle.def_compiling.proofs.SaidLaws.{Fit, words_sound, words_say}
use Rattle.def_compiling.proofs.FitLaws.{forward_fits, simple_bounded}
use Rattle.def_compiling.proofs.TokenSpans.{forward_spans}
use Rattle.def_compiling.proofs.BackwardsLaws.{backwards_spans, spelled_backwards, simple_backwards, bytes_reverse}
use Rattle.def_compiling.proofs.GivenLaws.{programs_tests}

few_nodes : (p : Prog) → few p ≡ true → nodes p ≤ node_limit
unfolding few
few_nodes p h = leb-true (nodes p) node_limit h

-- the words of a program that meets the limits
module _ (p : Prog) (h : Fit p) (g : short p ≡ true) (l : few p ≡ true) where
  limits_sound : sound (words_of p) ≡ true
  unfolding sound few
  limits_sound = let n : nodes p ≤ node_limit = few_nodes p l in rw (l, words_sound p h g (omega arith))

  limits_say : prog (words_of p) ≡ p
  limits_say = let n : nodes p ≤ node_limit = few_nodes p l in words_say p h g (omega arith)

reverse_is : (ts : Tokens) → reverse_program ts ≡ forward_program (backwards ts)
unfolding forward_program reverse_program
reverse_is ts = refl

module _ (ts : Tokens) (w : Spelled ts) (f r : List ℕ) (e : compile ts ≡ compiled f r) where
  simply : simple ts ≡ true
  simply = (programs_tests ts f r e).0

  -- the words of both programs are sound, and say these programs
  pub forward_says_lem : (sound f ≡ true) × (prog f ≡ forward_program ts)
  unfolding forward_words
  forward_says_lem =
      let q = programs_tests ts f r e in
      let p = forward_program ts in
      let h : Fit p = forward_fits ts w q.0 in
      let g : short p ≡ true = and_left (short p) (short (reverse_program ts)) q.1 in
      let l : few p ≡ true = and_left (few p) (few (reverse_program ts)) q.2 in
      (ap sound (sym q.3) ∙ limits_sound p h g l, ap prog (sym q.3) ∙ limits_say p h g l)

  pub reverse_says_lem : (sound r ≡ true) × (prog r ≡ reverse_program ts)
  unfolding reverse_words
  reverse_says_lem =
      let q = programs_tests ts f r e in
      let p = reverse_program ts in
      let h : Fit p = subst Fit (sym (reverse_is ts)) (forward_fits (backwards ts) (spelled_backwards ts w) (simple_backwards ts q.0)) in
      let g : short p ≡ true = and_right (short (forward_program ts)) (short p) q.1 in
      let l : few p ≡ true = and_right (few (forward_program ts)) (few p) q.2 in
      (ap sound (sym q.4) ∙ limits_sound p h g l, ap prog (sym q.4) ∙ limits_say p h g l)

  -- both programs are sound whenever compiling succeeds
  pub forward_sound : sound f ≡ true
  forward_sound = forward_says_lem.0

  pub reverse_sound : sound r ≡ true
  reverse_sound = reverse_says_lem.0

  -- the spans of the forward program are exactly the spans of the tokens
  pub forward_exact : (s : List ℕ) → Bytes s → Spans ts s ↔ Span (prog f) s
  forward_exact s y = subst (λ (p : Prog). Spans ts s ↔ Span p s) (sym forward_says_lem.1) (forward_spans ts s y w (simple_bounded ts simply))

  -- those of the reverse program exactly these, read from their other side
  pub reverse_exact : (s : List ℕ) → Bytes s → Spans ts s ↔ Span (prog r) (reverse s)
  reverse_exact s y =
      subst (λ (p : Prog). Spans ts s ↔ Span p (reverse s)) (sym (reverse_says_lem.1 ∙ reverse_is ts))
      (Iff.trans (backwards_spans ts s) (forward_spans (backwards ts) (reverse s) (bytes_reverse s y) (spelled_backwards ts w) (simple_bounded (backwards ts) (simple_backwards ts simply))))
