-- Demand 3 from door to door: sound programs laid end to end, and the mirror, from the words to what the checks answer with them. Assumes nothing.
use Rattle.std.proofs.Common.{◌≡◌, refl, sym, ap, ◌∙◌, subst, true, ◌↔◌, List, ◌++◌, reverse, ℕ, ◌+◌, ◌≤◌, length, take, take_at, le-ltb}
use mathlib.Core.List.{reverse-reverse}
use Rattle.base.specs.Pools.{filled}
use Rattle.def_meaning.specs.Limits.{node_limit, node_pool}
use Rattle.def_meaning.specs.Programs.{Prog, Span}
use Rattle.def_meaning.specs.Words.{prog, sound, mirror_words}
use Rattle.def_meaning.proofs.JoinLaws.{prog_append, append_span, span_append}
use Rattle.def_meaning.proofs.WordSpans.{sound_length, sound_words_lem, join_sound, mirrored_sound, mirrored_span, span_mirrored}
use Rattle.mirror.specs.MirrorDoor.{mirrored, mirror_says, mirror_leaves}
use Rattle.def_meaning.specs.NodeWords.{Nodes, SoundWords}
use Rattle.def_promise.specs.Programs.{Joined, Joins, IsMirror}
use Rattle.def_meaning.proofs.NodeWords.{sound_listed, program_listed, sound_says}
use Rattle.def_promise.proofs.OneWording.{mirror_wording}
use Rattle.def_promise.proofs.Answers.{forward_door, reverse_door}

-- the program of words laid end to end has exactly the spans of the one followed by those of the other
module _ (ws vs : List ℕ) (h : sound ws ≡ true) (g : sound vs ≡ true) (room : length ws + length vs ≤ node_limit) where
  joined_spans : (x : List ℕ) → Joined (prog ws) (prog vs) x ↔ Span (prog (ws ++ vs)) x
  joined_spans x = (
    λ (a, b, e, p, q). subst (Span (prog (ws ++ vs))) (sym e) (append_span ws vs (sound_words_lem ws h) a b p q),
    span_append ws vs (sound_words_lem ws h) x,
  )

  joins : Joins (prog ws) (prog vs) (ws ++ vs)
  joins =
      let k = join_sound ws vs h g room in
      record {
        words_sound = (sound_listed (ws ++ vs)).0 k;
        say = subst (Nodes (ws ++ vs)) (prog_append ws vs (sound_words_lem ws h)) (sound_says (ws ++ vs) k);
        answers_forward = forward_door (Joined (prog ws) (prog vs)) (ws ++ vs) k (λ x _. joined_spans x);
        answers_reverse = reverse_door (λ x. Joined (prog ws) (prog vs) (reverse x)) (ws ++ vs) k (λ x _. joined_spans (reverse x));
      }

-- sound programs laid end to end, at most 512 words: from their words to what both doors answer
pub programs_join : {ws vs : List ℕ} (a : SoundWords ws) (b : SoundWords vs) → length ws + length vs ≤ node_limit → Joins a.program b.program (ws ++ vs)
programs_join {ws} {vs} a b room =
    subst (λ (p : Prog). Joins p b.program (ws ++ vs)) (program_listed a.nodes)
    (subst (λ (q : Prog). Joins (prog ws) q (ws ++ vs)) (program_listed b.nodes) (joins ws vs ((sound_listed ws).1 a) ((sound_listed vs).1 b) room))

module _ (ws : List ℕ) (h : sound ws ≡ true) where
  turned : (x : List ℕ) → Span (prog ws) (reverse x) ↔ Span (prog (mirror_words ws)) x
  turned x = (
    λ s. subst (Span (prog (mirror_words ws))) (reverse-reverse x) (mirrored_span ws h (reverse x) s),
    λ s. span_mirrored ws h (reverse x) (subst (Span (prog (mirror_words ws))) (sym (reverse-reverse x)) s),
  )

  mirror_of_lem : IsMirror (prog ws) (mirror_words ws)
  mirror_of_lem =
      let k = mirrored_sound ws h in
      record {
        words_sound = (sound_listed (mirror_words ws)).0 k;
        say = mirror_wording ws h;
        answers_reverse = reverse_door (Span (prog ws)) (mirror_words ws) k (λ x _. (mirrored_span ws h x, span_mirrored ws h x));
        answers_forward = forward_door (λ x. Span (prog ws) (reverse x)) (mirror_words ws) k (λ x _. turned x);
      }

  -- what the door says and leaves of sound words, in a pool with room
  module _ (pool : List ℕ) (room : node_pool ≤ length pool) where
    door_says : mirror_says ws pool ≡ mirrored (length (mirror_words ws))
    unfolding mirror_says
    door_says = rw (le-ltb (length pool) node_pool room, le-ltb node_limit (length ws) (sound_length ws h), h)

    door_leaves : take (length (mirror_words ws)) (mirror_leaves ws pool) ≡ mirror_words ws
    unfolding mirror_leaves filled
    door_leaves =
        let e : mirror_leaves ws pool ≡ filled node_pool (mirror_words ws) pool = rw (le-ltb (length pool) node_pool room, le-ltb node_limit (length ws) (sound_length ws h), h) in
        ap (take (length (mirror_words ws))) e ∙ take_at (mirror_words ws) _ (length (mirror_words ws)) refl

-- The mirror's door, asked with sound words and lent a pool with room (with none it refuses by 18), never refuses: the words that it says it wrote
-- are the mirror, and the reverse door, asked with them, answers for the program's own spans, the forward door for these read from their other side.
pub mirror_answers : {ws : List ℕ} (a : SoundWords ws) (pool : List ℕ) → node_pool ≤ length pool → (n : ℕ) × (mirror_says ws pool ≡ mirrored n) × IsMirror a.program (take n (mirror_leaves ws pool))
mirror_answers {ws} a pool room =
    let h = (sound_listed ws).1 a in (
      length (mirror_words ws),
      door_says ws h pool room,
      subst (λ (p : Prog). IsMirror p (take (length (mirror_words ws)) (mirror_leaves ws pool))) (program_listed a.nodes)
          (subst (IsMirror (prog ws)) (sym (door_leaves ws h pool room)) (mirror_of_lem ws h)),
    )
