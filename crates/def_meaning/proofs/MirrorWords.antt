-- The mirror of words. Assumes nothing.
use mathlib.Core.Path.{◌≡◌, refl, sym, ap, ap₂, ◌∙◌, subst}
use mathlib.Core.Bool.{true}
use mathlib.Core.List.{List, [], ◌∷◌, ◌++◌}
use Prim.Native.Nat.{ℕ, zero, suc, ◌≤◌}
use native.Mathlib.Omega.{arith}
use native.Mathlib.Nat.{le_refl}
use lib.ListN.{length, take, drop, length-append, length-drop}
use lib.Seq.{take_at, drop_at, take-length, drop-length, length-take-le}
use Rattle.def_meaning.specs.Programs.{Item, Prog, Branches, one, jump, range, alt, ◌▹◌, or, ◌⧺◌, mirror, mirror_of, mirror_in}
use Rattle.def_meaning.specs.Words.{kind_of, Shape, item, opens, mark, wrong, shape, prog, branches_of, branches, flat_words, Sound, SoundBranches, sound_branches, sound_words, mirror_items, mirror_branches, mirror_words}
use Rattle.def_meaning.proofs.KindLaws.{Seen, seen}
use Rattle.def_meaning.proofs.WordLaws.{take_le, drop_le, prog_nil, prog_item, prog_opens, branches_mark}
use Rattle.def_meaning.proofs.SoundLaws.{sound_proper, branch_proper, sound_item, sound_opens, sound_mark, sound_wrong, sound_branch, branch_shape, make_item, make_opens, make_branch, flat_item, flat_sound, make_flat, flat_append, flat_nil}
use Rattle.def_meaning.proofs.JoinLaws.{sound_append, prog_append}

-- what the mirror m of the words ws is
record Mirrored (ws m : List ℕ) : Type 0 where
  size : length m ≡ length ws
  sound : Sound m
  says : prog m ≡ mirror (prog ws)
  flatly : flat_words ws ≡ true → flat_words m ≡ true

record MirroredIn (ws m : List ℕ) : Type 0 where
  size : length m ≡ length ws
  sound : SoundBranches m
  says : branches_of m ≡ mirror_in (branches_of ws)

sound_nil : Sound []
unfolding sound_words
sound_nil = refl

-- an item of one word is its own mirror
self_word : (w : ℕ) (i : Item) → shape w ≡ item i → mirror_of i ≡ i
unfolding mirror
self_word w i e = go i (subst (Seen (kind_of w)) e (seen w))
  where
    go : (j : Item) → Seen (kind_of w) (item j) → mirror_of j ≡ j
    go (one t) h = refl
    go (jump n) h = refl
    go (range a b) h = refl
    go (alt bs) h = absurd h

at_item : (w : ℕ) (ws m : List ℕ) (i : Item) → shape w ≡ item i → Sound (w ∷ ws) → Mirrored ws m → Mirrored (w ∷ ws) (m ++ (w ∷ []))
unfolding mirror
at_item w ws m i e h q =
    let p = sound_proper w ws h in
    record {
      size = omega (arith, length-append m (w ∷ []), q.size);
      sound = sound_append m (w ∷ []) q.sound (make_item w [] e p sound_nil);
      says =
          prog_append m (w ∷ []) q.sound
          ∙ ap₂ ◌⧺◌ q.says (prog_item w [] i e ∙ ap₂ ◌▹◌ (sym (self_word w i e)) prog_nil)
          ∙ sym (ap mirror (prog_item w ws i e));
      flatly = λ g. let r = flat_item w ws g in flat_append m (w ∷ []) (q.flatly r.3) (make_flat w [] r.1 r.2 r.4 flat_nil);
    }

at_opens : (w : ℕ) (ws m b : List ℕ) (k : ℕ) → shape w ≡ opens k → Sound (w ∷ ws) → Mirrored (drop k ws) m → MirroredIn (take k ws) b → Mirrored (w ∷ ws) (m ++ (w ∷ b))
unfolding mirror
at_opens w ws m b k e h q r =
    let o = sound_opens w ws e h in
    let n : length b ≡ k = r.size ∙ length-take-le k ws o.fits in
    let t : take k b ≡ b = ap (λ (j : ℕ). take j b) (sym n) ∙ take-length b in
    let d : drop k b ≡ [] = ap (λ (j : ℕ). drop j b) (sym n) ∙ drop-length b in
    let s : Sound (w ∷ b) = make_opens w b e (sound_proper w ws h) (record { fits = omega arith; inside = subst SoundBranches (sym t) r.sound; after = subst Sound (sym d) sound_nil }) in
    record {
      size = omega (arith, length-append m (w ∷ b), q.size, length-drop k ws, o.fits, n);
      sound = sound_append m (w ∷ b) q.sound s;
      says =
          prog_append m (w ∷ b) q.sound
          ∙ ap₂ ◌⧺◌ q.says (prog_opens w b k e ∙ ap₂ (λ (x : List ℕ) (y : List ℕ). alt (branches_of x) ▹ prog y) t d ∙ ap₂ (λ (x : Branches) (y : Prog). alt x ▹ y) r.says prog_nil)
          ∙ sym (ap mirror (prog_opens w ws k e));
      flatly = λ g. let i = flat_item w ws g in not_both i.0 k (sym i.1 ∙ e);
    }
  where
    not_both : {A : Type 0} (i : Item) (j : ℕ) → item i ≡ opens j → A
    not_both i j f = let z : ◌≡◌ {A = ℕ} 0 1 = cc in absurd (omega arith)

at_mark : (w : ℕ) (ws m b : List ℕ) (k : ℕ) → shape w ≡ mark k → SoundBranches (w ∷ ws) → Mirrored (take k ws) m → MirroredIn (drop k ws) b → MirroredIn (w ∷ ws) (w ∷ (m ++ b))
unfolding mirror
at_mark w ws m b k e h q r =
    let o = sound_branch w ws e h in
    let n : length m ≡ k = q.size ∙ length-take-le k ws o.fits in
    let t : take k (m ++ b) ≡ m = take_at m b k n in
    let d : drop k (m ++ b) ≡ b = drop_at m b k n in
    record {
      size = omega (arith, length-append m b, r.size, length-drop k ws, o.fits, n);
      sound = make_branch w (m ++ b) e (branch_proper w ws h) (record { fits = omega (arith, length-append m b, n); inside = ap flat_words t ∙ q.flatly o.inside; after = subst SoundBranches (sym d) r.sound });
      says =
          branches_mark w (m ++ b) k e
          ∙ ap₂ (λ (x : List ℕ) (y : List ℕ). or (prog x) (branches_of y)) t d
          ∙ ap₂ or q.says r.says
          ∙ sym (ap mirror_in (branches_mark w ws k e));
    }

nil_mirrored : Mirrored [] []
unfolding mirror
nil_mirrored = record { size = refl; sound = sound_nil; says = prog_nil ∙ sym (ap mirror prog_nil); flatly = λ h. h }

nil_in : MirroredIn [] []
unfolding mirror branches_of branches sound_branches
nil_in = record { size = refl; sound = refl; says = refl }

-- one word, from what is known of the rest
step : (n w : ℕ) (ws : List ℕ) → Sound (w ∷ ws) → (Sound ws → Mirrored ws (mirror_items n ws)) → ((k : ℕ) → Sound (drop k ws) → Mirrored (drop k ws) (mirror_items n (drop k ws))) → ((k : ℕ) → SoundBranches (take k ws) → MirroredIn (take k ws) (mirror_branches n (take k ws))) → Mirrored (w ∷ ws) (mirror_items (suc n) (w ∷ ws))
unfolding mirror_items
step n w ws h a b c = go (shape w) refl
  where
    go : (s : Shape) → shape w ≡ s → Mirrored (w ∷ ws) (mirror_items (suc n) (w ∷ ws))
    go (item i) e = rw (e, mirror_items) (at_item w ws _ i e h (a (sound_item w ws e h)))
    go (opens k) e = let o = sound_opens w ws e h in rw (e, mirror_items) (at_opens w ws _ _ k e h (b k o.after) (c k o.inside))
    go (mark k) e = absurd (sound_mark w ws e h)
    go wrong e = absurd (sound_wrong w ws e h)

step_in : (n w : ℕ) (ws : List ℕ) → SoundBranches (w ∷ ws) → ((k : ℕ) → Sound (take k ws) → Mirrored (take k ws) (mirror_items n (take k ws))) → ((k : ℕ) → SoundBranches (drop k ws) → MirroredIn (drop k ws) (mirror_branches n (drop k ws))) → MirroredIn (w ∷ ws) (mirror_branches (suc n) (w ∷ ws))
unfolding mirror_items
step_in n w ws h a b =
    let s = branch_shape w ws h in
    let o = sound_branch w ws s.1 h in
    go s.0 s.1 (a s.0 (flat_sound (take s.0 ws) o.inside)) (b s.0 o.after)
  where
    go : (k : ℕ) → shape w ≡ mark k → Mirrored (take k ws) (mirror_items n (take k ws)) → MirroredIn (drop k ws) (mirror_branches n (drop k ws)) → MirroredIn (w ∷ ws) (mirror_branches (suc n) (w ∷ ws))
    go k e q r = rw (e, mirror_branches) (at_mark w ws _ _ k e h q r)

mutual
  unfolding mirror_items

  mirrored : (n : ℕ) (ws : List ℕ) → length ws ≤ n → Sound ws → Mirrored ws (mirror_items n ws)
  mirrored zero [] l h = nil_mirrored
  mirrored zero (w ∷ ws) l h = absurd (omega arith)
  mirrored (suc n) [] l h = nil_mirrored
  mirrored (suc n) (w ∷ ws) l h =
      step n w ws h
      (λ g. mirrored n ws (omega arith) g)
      (λ k g. mirrored n (drop k ws) (drop_le k n ws (omega arith)) g)
      (λ k g. mirrored_in n (take k ws) (take_le k n ws (omega arith)) g)

  mirrored_in : (n : ℕ) (ws : List ℕ) → length ws ≤ n → SoundBranches ws → MirroredIn ws (mirror_branches n ws)
  mirrored_in zero [] l h = nil_in
  mirrored_in zero (w ∷ ws) l h = absurd (omega arith)
  mirrored_in (suc n) [] l h = nil_in
  mirrored_in (suc n) (w ∷ ws) l h =
      step_in n w ws h
      (λ k g. mirrored n (take k ws) (take_le k n ws (omega arith)) g)
      (λ k g. mirrored_in n (drop k ws) (drop_le k n ws (omega arith)) g)

-- the mirror of sound words is sound, as long, and says the mirror
module _ (ws : List ℕ) (h : Sound ws) where
  pub mirror_size : length (mirror_words ws) ≡ length ws
  unfolding mirror_words
  mirror_size = (mirrored (length ws) ws (le_refl _) h).size

  pub mirror_sound : Sound (mirror_words ws)
  unfolding mirror_words
  mirror_sound = (mirrored (length ws) ws (le_refl _) h).sound

  pub mirror_says_lem : prog (mirror_words ws) ≡ mirror (prog ws)
  unfolding mirror_words
  mirror_says_lem = (mirrored (length ws) ws (le_refl _) h).says
