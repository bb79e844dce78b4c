-- A range or an alternation w, and the words R after it. Assumes nothing.
use Rattle.std.proofs.Common.{◌≡◌, refl, sym, ap, ◌∙◌, subst, ◌⊎◌, ⊎_elim, List, ◌∷◌, ℕ, take, arith, length, ◌≤◌}
use Rattle.def_meaning.specs.Programs.{Prog, range, alt, ◌▹◌}
use Rattle.def_meaning.specs.Choices.{Order}
use Rattle.def_meaning.specs.Rows.{run}
use Rattle.def_meaning.specs.Words.{kind_of, first_of, second_of, count_of, prog, branches_of, Sound}
use Rattle.def_meaning.proofs.KindLaws.{kind_opens, kind_range}
use Rattle.def_meaning.proofs.WordLaws.{prog_item, prog_opens}
use Rattle.def_meaning.proofs.SoundLaws.{Opened, sound_item, sound_opens}
use Rattle.def_meaning.proofs.PartLaws.{from, to_end, length_from}
use Rattle.steps.proofs.Ranges.{no_range}

pub is_alt : (w : ℕ) → (kind_of w ≡ 4) ⊎ (kind_of w ≡ 6) → (kind_of w ≡ 4 → ⊥) → kind_of w ≡ 6
is_alt w h n = ⊎_elim (λ z. absurd (n z)) (λ z. z) h

-- a range
module _ (w : ℕ) (R : List ℕ) (k : kind_of w ≡ 4) where
  pub range_after : Sound (w ∷ R) → Sound R
  range_after h = sound_item w R (kind_range w k refl refl) h

  pub range_alone : {a b : ℕ} → a ≡ first_of w → b ≡ second_of w → (o : Order) (M : List ℕ) → run o (range a b ▹ prog R) M ≡ run o (prog (w ∷ R)) M
  range_alone {a} {b} f g o M = sym (ap (λ (p : Prog). run o p M) (prog_item w R (range a b) (kind_range w k f g)))

-- what is handed on of an alternation w with n words of branches in R: the words T after them and the range from a to b that follows them
pub record Handed (w : ℕ) (R : List ℕ) (n : ℕ) (T : List ℕ) (a b : ℕ) : Type 0 where
  pub fewer : length T ≤ length R
  pub sound : Sound T
  pub same : (o : Order) (M : List ℕ) → run o (alt (branches_of (take n R)) ▹ range a b ▹ prog T) M ≡ run o (prog (w ∷ R)) M

-- an alternation, and n, its count
module _ (w : ℕ) (R : List ℕ) (k : kind_of w ≡ 6) {n : ℕ} (s : n ≡ count_of w) where
  pub opened : Sound (w ∷ R) → Opened n R
  opened h = sound_opens w R (kind_opens w k s) h

  after_sound : Sound (w ∷ R) → Sound (from n R)
  after_sound h = subst Sound (sym (to_end n R)) (opened h).after

  at_opens : (o : Order) (M : List ℕ) → run o (prog (w ∷ R)) M ≡ run o (alt (branches_of (take n R)) ▹ prog (from n R)) M
  at_opens o M = ap (λ (p : Prog). run o p M) (prog_opens w R n (kind_opens w k s) ∙ ap (λ (l : List ℕ). alt (branches_of (take n R)) ▹ prog l) (sym (to_end n R)))

  -- no range follows
  pub alone : Sound (w ∷ R) → Handed w R n (from n R) 0 0
  alone h = record {
    fewer = omega (arith, length_from n R);
    sound = after_sound h;
    same = λ o M. no_range o (branches_of (take n R)) (prog (from n R)) M ∙ sym (at_opens o M);
  }

  -- a range follows: the word x, and T after it
  pub ranged : (x : ℕ) (T : List ℕ) → from n R ≡ x ∷ T → kind_of x ≡ 4 → {a b : ℕ} → a ≡ first_of x → b ≡ second_of x → Sound (w ∷ R) → Handed w R n T a b
  ranged x T e r {a} {b} f g h = record {
    fewer = omega (arith, length_from n R, ap length e);
    sound = sound_item x T (kind_range x r refl refl) (subst Sound e (after_sound h));
    same = λ o M. ap (λ (q : Prog). run o (alt (branches_of (take n R)) ▹ q) M) (sym (ap prog e ∙ prog_item x T (range a b) (kind_range x r f g))) ∙ sym (at_opens o M);
  }
