-- What a check does at the first of its words, over lists and in either order. Assumes nothing.
-- M is the bytes of the window as they are read; N is what the code keeps of them.
use Rattle.std.proofs.Common.{◌≡◌, refl, sym, ap, ◌∙◌, subst, true, false, ◌⊎◌, inl, inr, List, ◌∷◌, ℕ, ◌≤◌, ◌<◌, length, drop}
use Rattle.std.proofs.Math.Option.{Option, none, some}
use Rattle.def_meaning.specs.Programs.{Item, Prog, one, jump, range, alt, ◌▹◌}
use Rattle.def_meaning.specs.Choices.{Order}
use Rattle.def_meaning.specs.Rows.{run}
use Rattle.def_meaning.specs.Words.{kind_of, Shape, item, opens, mark, wrong, shape, proper, prog, Sound, is_flat, flat_words}
use Rattle.def_meaning.proofs.KindLaws.{Seen, seen}
use Rattle.def_meaning.proofs.RunLaws.{run_end_lem, run_one, run_one_none, run_jump, run_jump_none}
use Rattle.def_meaning.proofs.WordLaws.{prog_nil, prog_item}
use Rattle.def_meaning.proofs.SoundLaws.{sound_proper, sound_item, sound_mark, sound_wrong, flat_item, false_true}
use Rattle.steps.specs.Steps.{is_test, pass_shape}
use Rattle.steps.proofs.Heads.{none_left}
use Rattle.steps.proofs.Tests.{IsTest, passes_as}

pub end_left : (o : Order) (L M : List ℕ) → length L ≡ 0 → run o (prog L) M ≡ some M
end_left o L M e = rw (none_left L e, prog_nil) (run_end_lem o M)

-- the word w before the words R
module _ (w : ℕ) (R : List ℕ) where
  pub tail_sound : {i : Item} → shape w ≡ item i → Sound (w ∷ R) → Sound R
  tail_sound s h = sound_item w R s h

  -- the word is proper
  pub head_proper : Sound (w ∷ R) → proper w ≡ true
  head_proper h = sound_proper w R h

  pub flat_proper : flat_words (w ∷ R) ≡ true → proper w ≡ true
  flat_proper h = (flat_item w R h).4

  pub flat_tail : flat_words (w ∷ R) ≡ true → flat_words R ≡ true
  flat_tail h = (flat_item w R h).3

  -- a word that is neither a test nor a jump: in a branch there is none, and in a sound program it is a range or an alternation
  pub flat_test : flat_words (w ∷ R) ≡ true → (kind_of w ≡ 3 → ⊥) → is_test (shape w) ≡ true
  unfolding is_flat
  flat_test h n3 = let q = flat_item w R h in ap is_test q.1 ∙ go q.0 q.2 (subst (Seen (kind_of w)) q.1 (seen w))
    where
      go : (i : Item) → is_flat i ≡ true → Seen (kind_of w) (item i) → is_test (item i) ≡ true
      go (one t) p g = refl
      go (jump n) p g = absurd (n3 g)
      go (range a b) p g = false_true p
      go (alt bs) p g = false_true p

  pub choice_kind : Sound (w ∷ R) → false ≡ is_test (shape w) → (kind_of w ≡ 3 → ⊥) → (kind_of w ≡ 4) ⊎ (kind_of w ≡ 6)
  choice_kind h t n3 = go (shape w) refl t (seen w)
    where
      go : (s : Shape) → shape w ≡ s → false ≡ is_test s → Seen (kind_of w) s → (kind_of w ≡ 4) ⊎ (kind_of w ≡ 6)
      go (item (one u)) f x g = false_true x
      go (item (jump n)) f x g = absurd (n3 g)
      go (item (range a b)) f x g = inl g
      go (item (alt bs)) f x g = absurd g
      go (opens n) f x g = inr g
      go (mark n) f x g = absurd (sound_mark w R f h)
      go wrong f x g = absurd (sound_wrong w R f h)

  -- what it leaves of the window, or that it leaves nothing
  module _ (o : Order) (M : List ℕ) where
    here : {i : Item} → shape w ≡ item i → {x : Option (List ℕ)} → run o (i ▹ prog R) M ≡ x → run o (prog (w ∷ R)) M ≡ x
    here {i} s f = ap (λ (p : Prog). run o p M) (prog_item w R i s) ∙ f

    pub turn_one : {N : List ℕ} (b : ℕ) → IsTest w → M ≡ b ∷ N → true ≡ pass_shape (shape w) b → run o (prog (w ∷ R)) M ≡ run o (prog R) N
    turn_one {N} b t f h = here t.1 (ap (run o (one t.0 ▹ prog R)) f ∙ run_one o (prog R) t.0 b N ∙ rw (passes_as w b t.0 t.1 h))

    pub stop_one : {N : List ℕ} (b : ℕ) → IsTest w → M ≡ b ∷ N → false ≡ pass_shape (shape w) b → run o (prog (w ∷ R)) M ≡ none
    stop_one {N} b t f h = here t.1 (ap (run o (one t.0 ▹ prog R)) f ∙ run_one o (prog R) t.0 b N ∙ rw (passes_as w b t.0 t.1 h))

    pub stop_short : IsTest w → length M ≡ 0 → run o (prog (w ∷ R)) M ≡ none
    stop_short t f = here t.1 (rw (none_left M f) (run_one_none o (prog R) t.0))

    pub turn_jump : {N : List ℕ} (n : ℕ) → N ≡ drop n M → shape w ≡ item (jump n) → n ≤ length M → run o (prog (w ∷ R)) M ≡ run o (prog R) N
    turn_jump n d s h = here s (run_jump o (prog R) M n h ∙ ap (run o (prog R)) (sym d))

    pub stop_jump : (n : ℕ) → shape w ≡ item (jump n) → length M < n → run o (prog (w ∷ R)) M ≡ none
    stop_jump n s h = here s (run_jump_none o (prog R) M n h)
