-- Strings that stand at an offset of a text, and the blanks after them. Assumes nothing.
use mathlib.Core.Path.{◌≡◌, refl, sym, ap, ◌∙◌, subst}
use mathlib.Core.Bool.{Bool, true, false, cond, ◌||◌}
use mathlib.Core.Logic.{◌⊎◌, inl, inr}
use mathlib.Core.List.{List, [], ◌∷◌, ◌++◌, append_assoc}
use Prim.Native.Char.{code}
use Prim.Native.Nat.{ℕ, suc, ◌+◌, ◌<◌}
use native.Mathlib.Omega.{arith}
use borrow.Author.Tests.{eqb-true}
use lib.Dec.{eqb}
use lib.ListN.{length, drop, get_or, length-append}
use lib.Seq.{drop-cons, drop-drop, drop-append_seam}
use Rattle.def_reading.specs.Blanks.{here, blank, blanks, skip}
use Rattle.def_reading.proofs.PieceLaws.{never, here_at, first_drop}
use Rattle.def_grammar.proofs.Spelling.{Language, ◌⨾◌, Blank, Blanks, NoBlank, Spaced, Sign, Marked}

-- at `at` stands a string of P, and it ends at e
pub record Stands (P : Language) (t : List ℕ) (at e : ℕ) : Type 0 where
  pub string : List ℕ
  pub split : drop at t ≡ string ++ drop e t
  pub reach : e ≡ at + length string
  pub spelled : P string

-- what stands after a string that stands at an offset
pub after : (t : List ℕ) (at : ℕ) (w r : List ℕ) → drop at t ≡ w ++ r → drop (at + length w) t ≡ r
after t at w r h = sym (drop-drop (length w) at t) ∙ ap (λ (s : List ℕ). drop (length w) s) h ∙ drop-append_seam w r

-- a string in two parts: each stands where it should
pub cut : (t : List ℕ) (at : ℕ) (w a b r : List ℕ) → drop at t ≡ w ++ r → w ≡ a ++ b
    → (drop at t ≡ a ++ (b ++ r)) × (drop (at + length a) t ≡ b ++ r) × (length w ≡ length a + length b)
cut t at w a b r h p =
    let g : drop at t ≡ a ++ (b ++ r) = h ∙ ap (λ (s : List ℕ). s ++ r) p ∙ append_assoc a b r in
    (g, after t at a (b ++ r) g, ap (λ (s : List ℕ). length s) p ∙ length-append a b)

pub stands : (P : Language) (t : List ℕ) (at e : ℕ) (w r : List ℕ) → drop at t ≡ w ++ r → e ≡ at + length w → P w → Stands P t at e
stands P t at e w r h q p =
    record {
      string = w;
      split = h ∙ ap (λ (s : List ℕ). w ++ s) (sym (after t at w r h) ∙ ap (λ (n : ℕ). drop n t) (sym q));
      reach = q;
      spelled = p;
    }

pub seq : {P Q : Language} {t : List ℕ} {a b c : ℕ} → Stands P t a b → Stands Q t b c → Stands (P ⨾ Q) t a c
unfolding ◌⨾◌
seq {t = t} {a = a} {b = b} {c = c} p q =
    let l : length (p.string ++ q.string) ≡ length p.string + length q.string = length-append p.string q.string in
    let x : b ≡ a + length p.string = p.reach in
    let y : c ≡ b + length q.string = q.reach in
    record {
      string = p.string ++ q.string;
      split = p.split ∙ ap (λ (s : List ℕ). p.string ++ s) q.split ∙ sym (append_assoc p.string q.string (drop c t));
      reach = omega arith;
      spelled = (p.string, q.string, refl, p.spelled, q.spelled);
    }

pub change : {P Q : Language} {t : List ℕ} {a b : ℕ} → ((s : List ℕ) → P s → Q s) → Stands P t a b → Stands Q t a b
change f p = record { string = p.string; split = p.split; reach = p.reach; spelled = f p.string p.spelled }

-- the byte at an offset
pub here_is : (t : List ℕ) (at c : ℕ) (r : List ℕ) → drop at t ≡ c ∷ r → here t at ≡ c
here_is t at c r h = sym (first_drop t at) ∙ ap (λ (s : List ℕ). get_or s 0 0) h

pub here_cons : (t : List ℕ) (at c : ℕ) → here t at ≡ c → 0 < c → drop at t ≡ c ∷ drop (suc at) t
here_cons t at c h p = drop-cons t at 0 (here_at t at c h p) ∙ ap (λ (x : ℕ). x ∷ drop (suc at) t) h

pub sign_stands : (t : List ℕ) (at c : ℕ) → here t at ≡ c → 0 < c → Stands (Sign c) t at (at + 1)
unfolding Sign
sign_stands t at c h p = stands (Sign c) t at (at + 1) (c ∷ []) (drop (suc at) t) (here_cons t at c h p) (omega arith) refl

-- blanks
pub blank_sound : (c : ℕ) → blank c ≡ true → Blank c
unfolding blank Blank
blank_sound c h = go (eqb c (code " ")) (eqb c (code "\t")) (eqb c (code "\r")) (eqb c (code "\n")) refl refl refl refl h
  where
    go : (w x y z : Bool) → eqb c (code " ") ≡ w → eqb c (code "\t") ≡ x → eqb c (code "\r") ≡ y → eqb c (code "\n") ≡ z → w || (x || (y || z)) ≡ true → (c ≡ code " ") ⊎ ((c ≡ code "\t") ⊎ ((c ≡ code "\r") ⊎ (c ≡ code "\n")))
    go true x y z d e f g h = inl (eqb-true c (code " ") d)
    go false true y z d e f g h = inr (inl (eqb-true c (code "\t") e))
    go false false true z d e f g h = inr (inr (inl (eqb-true c (code "\r") f)))
    go false false false true d e f g h = inr (inr (inr (eqb-true c (code "\n") g)))
    go false false false false d e f g h = never (cc)

pub blank_complete : (c : ℕ) → Blank c → blank c ≡ true
unfolding blank Blank
blank_complete c (inl e) = rw e refl
blank_complete c (inr (inl e)) = rw e refl
blank_complete c (inr (inr (inl e))) = rw e refl
blank_complete c (inr (inr (inr e))) = rw e refl

pub no_blank : (c : ℕ) → (Blank c → ⊥) → blank c ≡ false
no_blank c h = go (blank c) refl
  where
    go : (b : Bool) → blank c ≡ b → blank c ≡ false
    go true e = absurd (h (blank_sound c e))
    go false e = e

pub blanks_split : (s : List ℕ) → (b : List ℕ) × (r : List ℕ) × (s ≡ b ++ r) × Blanks b × NoBlank r × (blanks s ≡ length b)
unfolding blanks Blanks NoBlank
blanks_split [] = ([], [], refl, tt, tt, refl)
blanks_split (c ∷ s) = go (blank c) refl (blanks_split s)
  where
    go : (x : Bool) → blank c ≡ x → ((b : List ℕ) × (r : List ℕ) × (s ≡ b ++ r) × Blanks b × NoBlank r × (blanks s ≡ length b))
        → (b : List ℕ) × (r : List ℕ) × (c ∷ s ≡ b ++ r) × Blanks b × NoBlank r × (cond (blank c) (suc (blanks s)) 0 ≡ length b)
    go true e p = (c ∷ p.0, p.1, ap (λ (u : List ℕ). c ∷ u) p.2, (blank_sound c e, p.3), p.4, rw e (ap suc p.5))
    go false e p = ([], c ∷ s, refl, tt, (λ h. never (cc (blank_complete c h))), rw e refl)

pub blanks_stand : (t : List ℕ) (at : ℕ) → Stands Blanks t at (skip t at)
unfolding skip
blanks_stand t at =
    let p = blanks_split (drop at t) in
    stands Blanks t at (at + blanks (drop at t)) p.0 p.1 p.2 (ap (λ (n : ℕ). at + n) p.5) p.3

-- no blank is left after them
pub skip_clear : (t : List ℕ) (at : ℕ) → NoBlank (drop (skip t at) t)
unfolding skip
skip_clear t at =
    let p = blanks_split (drop at t) in
    let e : at + length p.0 ≡ at + blanks (drop at t) = ap (λ (n : ℕ). at + n) (sym p.5) in
    subst NoBlank (sym (after t at p.0 p.1 p.2) ∙ ap (λ (n : ℕ). drop n t) e) p.4

blanks_count : (b r : List ℕ) → Blanks b → NoBlank r → blanks (b ++ r) ≡ length b
unfolding blanks Blanks NoBlank
blanks_count [] [] p q = refl
blanks_count [] (c ∷ r) p q = rw (no_blank c q) refl
blanks_count (c ∷ b) r p q = rw (blank_complete c p.0) (ap suc (blanks_count b r p.1 q))

pub skips : (t : List ℕ) (at : ℕ) (b r : List ℕ) → drop at t ≡ b ++ r → Blanks b → NoBlank r → skip t at ≡ at + length b
unfolding skip
skips t at b r h p q = ap (λ (n : ℕ). at + n) (ap blanks h ∙ blanks_count b r p q)

pub spaced_stands : (P : Language) (t : List ℕ) (at e : ℕ) → Stands P t at e → Stands (Spaced P) t at (skip t e)
unfolding Spaced
spaced_stands P t at e p = seq p (blanks_stand t e)

pub mark_stands : (t : List ℕ) (at c : ℕ) → here t at ≡ c → 0 < c → Stands (Marked c) t at (skip t (at + 1))
unfolding Marked
mark_stands t at c h p = spaced_stands (Sign c) t at (at + 1) (sign_stands t at c h p)
