-- One list of words after another. Assumes nothing.
use mathlib.Core.Path.{◌≡◌, refl, sym, ap, ap₂, ◌∙◌, subst}
use mathlib.Core.List.{List, [], ◌∷◌, ◌++◌}
use Prim.Native.Nat.{ℕ, zero, suc, ◌≤◌}
use native.Mathlib.Omega.{arith}
use native.Mathlib.Nat.{le_refl}
use lib.ListN.{length, take, drop, length-append}
use lib.Seq.{take-append-le, drop-append-le}
use Rattle.def_meaning.specs.Programs.{Span, Item, Prog, alt, ◌▹◌, ◌⧺◌}
use Rattle.def_meaning.specs.Words.{Shape, item, opens, mark, wrong, shape, prog, branches_of, Sound, SoundBranches}
use Rattle.def_meaning.proofs.WordLaws.{drop_le, prog_nil, prog_item, prog_opens}
use Rattle.def_meaning.proofs.SoundLaws.{sound_proper, sound_item, sound_opens, sound_mark, sound_wrong, make_item, make_opens}
use Rattle.def_meaning.proofs.SpanLaws.{join_span, span_join}

record Joined (ws vs : List ℕ) : Type 0 where
  says : prog (ws ++ vs) ≡ prog ws ⧺ prog vs
  sound : Sound vs → Sound (ws ++ vs)

join_nil : (vs : List ℕ) → Joined [] vs
unfolding ◌⧺◌
join_nil vs = record { says = sym (ap (λ (p : Prog). p ⧺ prog vs) prog_nil); sound = λ h. h }

join_item : (w : ℕ) (ws vs : List ℕ) (i : Item) → shape w ≡ item i → Sound (w ∷ ws) → Joined ws vs → Joined (w ∷ ws) vs
unfolding ◌⧺◌
join_item w ws vs i e h q = record {
  says = prog_item w (ws ++ vs) i e ∙ ap (λ (p : Prog). i ▹ p) q.says ∙ sym (ap (λ (p : Prog). p ⧺ prog vs) (prog_item w ws i e));
  sound = λ g. make_item w (ws ++ vs) e (sound_proper w ws h) (q.sound g);
}

join_opens : (w : ℕ) (ws vs : List ℕ) (k : ℕ) → shape w ≡ opens k → Sound (w ∷ ws) → Joined (drop k ws) vs → Joined (w ∷ ws) vs
unfolding ◌⧺◌
join_opens w ws vs k e h q =
    let o = sound_opens w ws e h in
    let f = take-append-le k ws vs o.fits in
    let g = drop-append-le k ws vs o.fits in
    let n : k ≤ length (ws ++ vs) = omega (arith, length-append ws vs, o.fits) in
    record {
      says =
          prog_opens w (ws ++ vs) k e
          ∙ ap₂ (λ (b : List ℕ) (r : List ℕ). alt (branches_of b) ▹ prog r) f g
          ∙ ap (λ (p : Prog). alt (branches_of (take k ws)) ▹ p) q.says
          ∙ sym (ap (λ (p : Prog). p ⧺ prog vs) (prog_opens w ws k e));
      sound = λ s. make_opens w (ws ++ vs) e (sound_proper w ws h) (record {
        fits = n;
        inside = subst SoundBranches (sym f) o.inside;
        after = subst Sound (sym g) (q.sound s);
      });
    }

joined : (n : ℕ) (ws vs : List ℕ) → length ws ≤ n → Sound ws → Joined ws vs
joined zero [] vs l h = join_nil vs
joined zero (w ∷ ws) vs l h = absurd (omega arith)
joined (suc n) [] vs l h = join_nil vs
joined (suc n) (w ∷ ws) vs l h = go (joined n ws vs (omega arith)) (λ k. joined n (drop k ws) vs (drop_le k n ws (omega arith))) (shape w) refl
  where
    go : (Sound ws → Joined ws vs) → ((k : ℕ) → Sound (drop k ws) → Joined (drop k ws) vs) → (s : Shape) → shape w ≡ s → Joined (w ∷ ws) vs
    go a b (item i) e = join_item w ws vs i e h (a (sound_item w ws e h))
    go a b (opens k) e = join_opens w ws vs k e h (b k (sound_opens w ws e h).after)
    go a b (mark k) e = absurd (sound_mark w ws e h)
    go a b wrong e = absurd (sound_wrong w ws e h)

-- sound words laid one after another are sound, and say one program after the other
pub sound_append : (ws vs : List ℕ) → Sound ws → Sound vs → Sound (ws ++ vs)
sound_append ws vs h g = (joined (length ws) ws vs (le_refl _) h).sound g

pub prog_append : (ws vs : List ℕ) → Sound ws → prog (ws ++ vs) ≡ prog ws ⧺ prog vs
prog_append ws vs h = (joined (length ws) ws vs (le_refl _) h).says

pub append_span : (ws vs : List ℕ) → Sound ws → (s₁ s₂ : List ℕ) → Span (prog ws) s₁ → Span (prog vs) s₂ → Span (prog (ws ++ vs)) (s₁ ++ s₂)
append_span ws vs h s₁ s₂ a b = subst (λ (p : Prog). Span p (s₁ ++ s₂)) (sym (prog_append ws vs h)) (join_span (prog ws) (prog vs) s₁ s₂ a b)

pub span_append : (ws vs : List ℕ) → Sound ws → (s : List ℕ) → Span (prog (ws ++ vs)) s → (s₁ : List ℕ) × (s₂ : List ℕ) × (s ≡ s₁ ++ s₂) × Span (prog ws) s₁ × Span (prog vs) s₂
span_append ws vs h s a = span_join (prog ws) (prog vs) s (subst (λ (p : Prog). Span p s) (prog_append ws vs h) a)
