-- The doors of the checks have the listed outcomes, and no others. Assumes nothing.
use Rattle.std.proofs.Common.{◌≡◌, refl, sym, ap, subst, Bool, true, false, ◌⊎◌, inl, inr, List, [], reverse, ℕ, ◌≤◌, arith, leb, leb-true, leb-false, length}
use Rattle.std.proofs.Math.Option.{some}
use Rattle.def_meaning.specs.Limits.{node_limit}
use Rattle.def_meaning.specs.Programs.{Prog}
use Rattle.def_meaning.specs.Choices.{Nowhere}
use Rattle.def_meaning.specs.Words.{sound}
use Rattle.def_meaning.proofs.WordSpans.{sound_length}
use Rattle.checkdoors.specs.Doors as doors
use Rattle.checkdoors.specs.Doors.{window, refusal, forward_says, reverse_says, left_says, left_from, left_at}
use Rattle.checkdoors.proofs.DoorLaws as law
use Rattle.checkdoors.proofs.Theorems.{forward_misses, reverse_misses, left_tail, left_nothing}
use Rattle.def_meaning.specs.NodeWords.{Nodes}
use Rattle.def_promise.specs.Pattern.{FirstEnd, FirstStart}
use Rattle.def_promise.specs.Checks.{Refuses, Forward, Reverse, Left}
use Rattle.def_promise.specs.Checks as table
use Rattle.def_meaning.proofs.NodeWords.{sound_listed, not_sound, program_listed, sound_says}
use Rattle.def_promise.proofs.Answers.{fine, to_first, of_first, back_fine, to_start, of_start}

-- a door is asked about sound words and a window, or refuses
record Asked (ws hay : List ℕ) (s e : ℕ) : Type 0 where
  ordered : s ≤ e
  inside : e ≤ length hay
  tested : sound ws ≡ true

record Why (ws hay : List ℕ) (s e : ℕ) : Type 0 where
  number : ℕ
  listed : Refuses ws hay s e number
  tells : some number ≡ refusal ws (length hay) s e

module _ (ws hay : List ℕ) (s e : ℕ) where
  asked : Asked ws hay s e ⊎ Why ws hay s e
  asked = at_start (leb s e) refl
    where
      at_words : s ≤ e → e ≤ length hay → (b : Bool) → leb (length ws) node_limit ≡ b → (c : Bool) → sound ws ≡ c → Asked ws hay s e ⊎ Why ws hay s e
      at_words d l b h true g = inl (record { ordered = d; inside = l; tested = g })
      at_words d l true h false g =
          let k = leb-true (length ws) node_limit h in
          inr (record { number = 15; listed = table.unsound d l k (λ x. let y = (sound_listed ws).1 x in cc); tells = law.unsound ws (length hay) s e d l k (sym g) })
      at_words d l false h false g = let k = leb-false (length ws) node_limit h in inr (record { number = 13; listed = table.too_many d l k; tells = law.many ws (length hay) s e d l k })

      at_end : s ≤ e → (b : Bool) → leb e (length hay) ≡ b → Asked ws hay s e ⊎ Why ws hay s e
      at_end d true h = at_words d (leb-true e (length hay) h) (leb (length ws) node_limit) refl (sound ws) refl
      at_end d false h = let k = leb-false e (length hay) h in inr (record { number = 16; listed = table.bad_window (λ a b. omega arith); tells = law.beyond ws (length hay) s e d k })

      at_start : (b : Bool) → leb s e ≡ b → Asked ws hay s e ⊎ Why ws hay s e
      at_start true h = at_end (leb-true s e h) (leb e (length hay)) refl
      at_start false h = let k = leb-false s e h in inr (record { number = 16; listed = table.bad_window (λ a b. omega arith); tells = law.crossed ws (length hay) s e k })

  -- a listed refusal is the computed one
  tells_so : {k : ℕ} → Refuses ws hay s e k → some k ≡ refusal ws (length hay) s e
  tells_so (table.bad_window h) = go (leb s e) refl
    where
      past : s ≤ e → (b : Bool) → leb e (length hay) ≡ b → some 16 ≡ refusal ws (length hay) s e
      past d true g = absurd (h d (leb-true e (length hay) g))
      past d false g = law.beyond ws (length hay) s e d (leb-false e (length hay) g)

      go : (b : Bool) → leb s e ≡ b → some 16 ≡ refusal ws (length hay) s e
      go true g = past (leb-true s e g) (leb e (length hay)) refl
      go false g = law.crossed ws (length hay) s e (leb-false s e g)
  tells_so (table.too_many d l h) = law.many ws (length hay) s e d l h
  tells_so (table.unsound d l k h) = law.unsound ws (length hay) s e d l k (not_sound ws h)

  listed_sound : (p : Prog) → length ws ≤ node_limit → Nodes ws p → sound ws ≡ true
  listed_sound p k n = (sound_listed ws).1 (record { few = k; program = p; nodes = n })

  -- forward
  pub forwards : Forward ws hay s e (forward_says ws hay s e)
  forwards = go asked
    where
      answer : Asked ws hay s e → (o : doors.CheckSaid) → forward_says ws hay s e ≡ o → Forward ws hay s e o
      answer a (doors.found n) g = table.Forward.found a.inside (sound_length ws a.tested) (sound_says ws a.tested) (to_first ws hay s e a.tested a.ordered a.inside n g)
      answer a doors.no_match g = table.Forward.missed a.ordered a.inside (sound_length ws a.tested) (sound_says ws a.tested) ((forward_misses ws hay s e a.tested a.ordered a.inside).0 g)
      answer a (doors.refuses k p) g = absurd (fine ws hay s e a.tested a.ordered a.inside k p g)

      go : Asked ws hay s e ⊎ Why ws hay s e → Forward ws hay s e (forward_says ws hay s e)
      go (inl a) = answer a (forward_says ws hay s e) refl
      go (inr w) = subst (Forward ws hay s e) (law.forward_refused ws hay s e w.number w.tells) (table.Forward.refused w.listed)

  pub forwards_one : {o : doors.CheckSaid} → Forward ws hay s e o → o ≡ forward_says ws hay s e
  forwards_one (table.Forward.refused {k = k} r) = law.forward_refused ws hay s e k (tells_so r)
  forwards_one (table.Forward.found {p = p} {n = n} l k g f) =
      let h = listed_sound p k g in
      let d : s ≤ e = let a = f.0 in let b = f.1 in omega arith in
      sym (of_first ws hay s e h d l n (subst (λ (x : Prog). FirstEnd x hay s e n) (sym (program_listed g)) f))
  forwards_one (table.Forward.missed {p = p} d l k g f) =
      let h = listed_sound p k g in
      sym ((forward_misses ws hay s e h d l).1 (subst (λ (x : Prog). Nowhere x (window hay s e)) (sym (program_listed g)) f))

  -- reverse
  pub reverses : Reverse ws hay s e (reverse_says ws hay s e)
  reverses = go asked
    where
      answer : Asked ws hay s e → (o : doors.CheckSaid) → reverse_says ws hay s e ≡ o → Reverse ws hay s e o
      answer a (doors.found n) g = table.Reverse.found a.inside (sound_length ws a.tested) (sound_says ws a.tested) (to_start ws hay s e a.tested a.ordered a.inside n g)
      answer a doors.no_match g = table.Reverse.missed a.ordered a.inside (sound_length ws a.tested) (sound_says ws a.tested) ((reverse_misses ws hay s e a.tested a.ordered a.inside).0 g)
      answer a (doors.refuses k p) g = absurd (back_fine ws hay s e a.tested a.ordered a.inside k p g)

      go : Asked ws hay s e ⊎ Why ws hay s e → Reverse ws hay s e (reverse_says ws hay s e)
      go (inl a) = answer a (reverse_says ws hay s e) refl
      go (inr w) = subst (Reverse ws hay s e) (law.reverse_refused ws hay s e w.number w.tells) (table.Reverse.refused w.listed)

  pub reverses_one : {o : doors.CheckSaid} → Reverse ws hay s e o → o ≡ reverse_says ws hay s e
  reverses_one (table.Reverse.refused {k = k} r) = law.reverse_refused ws hay s e k (tells_so r)
  reverses_one (table.Reverse.found {p = p} {n = n} l k g f) =
      let h = listed_sound p k g in
      let d : s ≤ e = let a = f.0 in let b = f.1 in omega arith in
      sym (of_start ws hay s e h d l n (subst (λ (x : Prog). FirstStart x hay s e n) (sym (program_listed g)) f))
  reverses_one (table.Reverse.missed {p = p} d l k g f) =
      let h = listed_sound p k g in
      sym ((reverse_misses ws hay s e h d l).1 (subst (λ (x : Prog). Nowhere x (reverse (window hay s e))) (sym (program_listed g)) f))

  -- what is left
  not_found : (k n : ℕ) (o : doors.CheckSaid) → doors.refuses k 0 ≡ o → doors.found n ≡ o → ⊥
  not_found k n o h g = cc

  no_found : (n : ℕ) (o : doors.CheckSaid) → o ≡ doors.no_match → doors.found n ≡ o → ⊥
  no_found n o h g = cc

  -- where it begins, by what is said
  begins : (o : doors.CheckSaid) → forward_says ws hay s e ≡ o → left_from o ≡ left_at ws hay s e
  unfolding left_at
  begins o g = sym (ap left_from g)

  left_so : {n m : ℕ} {v u : List ℕ} → n ≡ m → v ≡ u → Left ws hay s e n v → Left ws hay s e m u
  left_so {m = m} {v = v} a b l = subst (Left ws hay s e m) b (subst (λ (k : ℕ). Left ws hay s e k v) a l)

  pub lefts : Left ws hay s e (left_at ws hay s e) (left_says ws hay s e)
  lefts = go asked
    where
      answer : Asked ws hay s e → (o : doors.CheckSaid) → forward_says ws hay s e ≡ o → Left ws hay s e (left_at ws hay s e) (left_says ws hay s e)
      answer a (doors.found n) g = left_so (begins (doors.found n) g) (sym (left_tail ws hay s e a.tested a.ordered a.inside n g)) (table.tail (subst (Forward ws hay s e) g forwards))
      answer a doors.no_match g = left_so (begins doors.no_match g) (sym (left_nothing ws hay s e a.tested a.ordered a.inside g)) (table.nothing (λ n f. no_found n (forward_says ws hay s e) g (forwards_one f)))
      answer a (doors.refuses k p) g = absurd (fine ws hay s e a.tested a.ordered a.inside k p g)

      go : Asked ws hay s e ⊎ Why ws hay s e → Left ws hay s e (left_at ws hay s e) (left_says ws hay s e)
      go (inl a) = answer a (forward_says ws hay s e) refl
      go (inr w) =
          let r = law.forward_refused ws hay s e w.number w.tells in
          left_so (begins (doors.refuses w.number 0) (sym r)) (law.left_refused ws hay s e w.number w.tells) (table.nothing (λ n f. not_found w.number n (forward_says ws hay s e) r (forwards_one f)))

  pub lefts_one : {n : ℕ} {v : List ℕ} → Left ws hay s e n v → (n ≡ left_at ws hay s e) × (v ≡ left_says ws hay s e)
  lefts_one (table.tail {n = n} f) = (begins (doors.found n) (sym (forwards_one f)), go asked)
    where
      go : Asked ws hay s e ⊎ Why ws hay s e → window hay n e ≡ left_says ws hay s e
      go (inl a) = sym (left_tail ws hay s e a.tested a.ordered a.inside n (sym (forwards_one f)))
      go (inr w) = absurd (not_found w.number n (forward_says ws hay s e) (law.forward_refused ws hay s e w.number w.tells) (forwards_one f))
  lefts_one (table.nothing c) = go asked
    where
      answer : Asked ws hay s e → (o : doors.CheckSaid) → forward_says ws hay s e ≡ o → (0 ≡ left_at ws hay s e) × ([] ≡ left_says ws hay s e)
      answer a (doors.found n) g = absurd (c n (subst (Forward ws hay s e) g forwards))
      answer a doors.no_match g = (begins doors.no_match g, sym (left_nothing ws hay s e a.tested a.ordered a.inside g))
      answer a (doors.refuses k p) g = absurd (fine ws hay s e a.tested a.ordered a.inside k p g)

      go : Asked ws hay s e ⊎ Why ws hay s e → (0 ≡ left_at ws hay s e) × ([] ≡ left_says ws hay s e)
      go (inl a) = answer a (forward_says ws hay s e) refl
      go (inr w) = (begins (doors.refuses w.number 0) (sym (law.forward_refused ws hay s e w.number w.tells)), law.left_refused ws hay s e w.number w.tells)
