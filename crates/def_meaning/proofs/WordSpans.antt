-- Demand 3 over words: sound programs end to end are sound, and the mirror is, with its spans. Assumes nothing.
use mathlib.Core.Path.{◌≡◌, sym, subst}
use mathlib.Core.Bool.{true}
use mathlib.Core.List.{List, ◌++◌, reverse}
use Prim.Native.Nat.{ℕ, ◌+◌, ◌≤◌}
use native.Mathlib.Omega.{arith}
use lib.Dec.{leb}
use borrow.Author.Tests.{leb-true, le-leb}
use lib.ListN.{length, length-append}
use Rattle.def_meaning.specs.Limits.{node_limit}
use Rattle.def_meaning.specs.Programs.{Prog, Span}
use Rattle.def_meaning.specs.Words.{prog, sound, sound_words, Sound, mirror_words}
use Rattle.def_meaning.proofs.SoundLaws.{and_left, and_right, and_both}
use Rattle.def_meaning.proofs.JoinLaws.{sound_append}
use Rattle.def_meaning.proofs.MirrorWords.{mirror_size, mirror_sound, mirror_says_lem}
use Rattle.def_meaning.proofs.SpanLaws.{mirror_span, span_mirror}

-- what the soundness test says, in its two parts
pub sound_length : (ws : List ℕ) → sound ws ≡ true → length ws ≤ node_limit
unfolding sound
sound_length ws h = leb-true (length ws) node_limit (and_left (leb (length ws) node_limit) (sound_words (length ws) ws) h)

pub sound_words_lem : (ws : List ℕ) → sound ws ≡ true → Sound ws
unfolding sound
sound_words_lem ws h = and_right (leb (length ws) node_limit) (sound_words (length ws) ws) h

pub words_sound : (ws : List ℕ) → length ws ≤ node_limit → Sound ws → sound ws ≡ true
unfolding sound
words_sound ws l h = and_both (le-leb (length ws) node_limit l) h

module _ (ws vs : List ℕ) (h : sound ws ≡ true) (g : sound vs ≡ true) (room : length ws + length vs ≤ node_limit) where
  -- laid one after another, within the node limit, sound programs are sound
  pub join_sound : sound (ws ++ vs) ≡ true
  join_sound = words_sound (ws ++ vs) (omega (arith, length-append ws vs)) (sound_append ws vs (sound_words_lem ws h) (sound_words_lem vs g))

module _ (ws : List ℕ) (h : sound ws ≡ true) where
  -- the mirror is sound and as long, and keeps each span, read from its other side
  pub mirrored_sound : sound (mirror_words ws) ≡ true
  mirrored_sound = let s = sound_words_lem ws h in words_sound (mirror_words ws) (omega (arith, mirror_size ws s, sound_length ws h)) (mirror_sound ws s)

  pub mirrored_length : length (mirror_words ws) ≡ length ws
  mirrored_length = mirror_size ws (sound_words_lem ws h)

  pub mirrored_span : (s : List ℕ) → Span (prog ws) s → Span (prog (mirror_words ws)) (reverse s)
  mirrored_span s q = subst (λ (p : Prog). Span p (reverse s)) (sym (mirror_says_lem ws (sound_words_lem ws h))) (mirror_span (prog ws) s q)

  pub span_mirrored : (s : List ℕ) → Span (prog (mirror_words ws)) (reverse s) → Span (prog ws) s
  span_mirrored s q = span_mirror (prog ws) s (subst (λ (p : Prog). Span p (reverse s)) (mirror_says_lem ws (sound_words_lem ws h)) q)
