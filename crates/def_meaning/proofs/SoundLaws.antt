-- What soundness gives, word by word. Assumes nothing.
use mathlib.Core.Path.{◌≡◌, refl, sym, ap, ◌∙◌}
use mathlib.Core.Bool.{Bool, true, false, ◌&&◌}
use mathlib.Core.List.{List, [], ◌∷◌, ◌++◌}
use Prim.Native.Nat.{ℕ, zero, suc, ◌≤◌}
use native.Mathlib.Omega.{arith}
use native.Mathlib.Nat.{le_refl}
use lib.Dec.{leb}
use lib.ListN.{length, take, drop}
use borrow.Author.Tests.{leb-true, le-leb}
use Rattle.def_meaning.specs.Programs.{Item, Prog, one, jump, range, alt, ◌▹◌}
use Rattle.def_meaning.specs.Choices.{Order}
use Rattle.def_meaning.specs.Rows.{Row, ◌⊗◌, before, anys, rows}
use Rattle.def_meaning.specs.Words.{Shape, item, opens, mark, wrong, shape, proper, is_flat, flat_words, sound_branches, sound_words, Sound, SoundBranches, prog, items}
use Rattle.def_meaning.proofs.WordLaws.{take_le, drop_le, prog_item}

pub and_left : (a b : Bool) → (a && b) ≡ true → a ≡ true
and_left true b h = refl
and_left false b h = h

pub and_right : (a b : Bool) → (a && b) ≡ true → b ≡ true
and_right true b h = h
and_right false b h = let z : true ≡ false = sym h in let y : ◌≡◌ {A = ℕ} 0 1 = cc in absurd (omega arith)

pub false_true : {A : Type 0} → false ≡ true → A
false_true h = let y : ◌≡◌ {A = ℕ} 0 1 = cc in absurd (omega arith)

-- any bound from the number of words on gives the same
branches_step : (w : ℕ) (ws : List ℕ) (n m : ℕ) → ((k : ℕ) → sound_branches n (drop k ws) ≡ sound_branches m (drop k ws)) → sound_branches (suc n) (w ∷ ws) ≡ sound_branches (suc m) (w ∷ ws)
unfolding sound_branches
branches_step w ws n m g = go (shape w) refl
  where
    go : (s : Shape) → shape w ≡ s → sound_branches (suc n) (w ∷ ws) ≡ sound_branches (suc m) (w ∷ ws)
    go (item i) e = rw (e, sound_branches)
    go (opens k) e = rw (e, sound_branches)
    go (mark k) e = rw (e, sound_branches) (rw (g k))
    go wrong e = rw (e, sound_branches)

pub sb_fuel : (n m : ℕ) (ws : List ℕ) → length ws ≤ n → length ws ≤ m → sound_branches n ws ≡ sound_branches m ws
unfolding sound_branches
sb_fuel zero zero ws h g = refl
sb_fuel zero (suc m) [] h g = refl
sb_fuel zero (suc m) (w ∷ ws) h g = absurd (omega arith)
sb_fuel (suc n) zero [] h g = refl
sb_fuel (suc n) zero (w ∷ ws) h g = absurd (omega arith)
sb_fuel (suc n) (suc m) [] h g = refl
sb_fuel (suc n) (suc m) (w ∷ ws) h g =
    branches_step w ws n m
    (λ k. sb_fuel n m (drop k ws) (drop_le k n ws (omega arith)) (drop_le k m ws (omega arith)))

words_step : (w : ℕ) (ws : List ℕ) (n m : ℕ) → sound_words n ws ≡ sound_words m ws → ((k : ℕ) → sound_branches n (take k ws) ≡ sound_branches m (take k ws)) → ((k : ℕ) → sound_words n (drop k ws) ≡ sound_words m (drop k ws)) → sound_words (suc n) (w ∷ ws) ≡ sound_words (suc m) (w ∷ ws)
unfolding sound_words
words_step w ws n m h b g = go (shape w) refl
  where
    go : (s : Shape) → shape w ≡ s → sound_words (suc n) (w ∷ ws) ≡ sound_words (suc m) (w ∷ ws)
    go (item i) e = rw (e, sound_words) (rw h)
    go (opens k) e = rw (e, sound_words) (rw (b k, g k))
    go (mark k) e = rw (e, sound_words)
    go wrong e = rw (e, sound_words)

pub sw_fuel : (n m : ℕ) (ws : List ℕ) → length ws ≤ n → length ws ≤ m → sound_words n ws ≡ sound_words m ws
unfolding sound_words
sw_fuel zero zero ws h g = refl
sw_fuel zero (suc m) [] h g = refl
sw_fuel zero (suc m) (w ∷ ws) h g = absurd (omega arith)
sw_fuel (suc n) zero [] h g = refl
sw_fuel (suc n) zero (w ∷ ws) h g = absurd (omega arith)
sw_fuel (suc n) (suc m) [] h g = refl
sw_fuel (suc n) (suc m) (w ∷ ws) h g =
    words_step w ws n m
    (sw_fuel n m ws (omega arith) (omega arith))
    (λ k. sb_fuel n m (take k ws) (take_le k n ws (omega arith)) (take_le k m ws (omega arith)))
    (λ k. sw_fuel n m (drop k ws) (drop_le k n ws (omega arith)) (drop_le k m ws (omega arith)))

pub record Opened (k : ℕ) (ws : List ℕ) : Type 0 where
  pub fits : k ≤ length ws
  pub inside : SoundBranches (take k ws)
  pub after : Sound (drop k ws)

pub record Marked (k : ℕ) (ws : List ℕ) : Type 0 where
  pub fits : k ≤ length ws
  pub inside : flat_words (take k ws) ≡ true
  pub after : SoundBranches (drop k ws)

module _ (w : ℕ) (ws : List ℕ) where
  pub sound_item : {i : Item} → shape w ≡ item i → Sound (w ∷ ws) → Sound ws
  unfolding sound_words
  sound_item e h = and_right (proper w) _ (rw (e, sound_words) at h)

  pub sound_mark : {k : ℕ} → shape w ≡ mark k → Sound (w ∷ ws) → ⊥
  unfolding sound_words
  sound_mark e h = false_true (and_right (proper w) _ (rw (e, sound_words) at h))

  pub sound_wrong : shape w ≡ wrong → Sound (w ∷ ws) → ⊥
  unfolding sound_words
  sound_wrong e h = false_true (and_right (proper w) _ (rw (e, sound_words) at h))

  pub sound_opens : {k : ℕ} → shape w ≡ opens k → Sound (w ∷ ws) → Opened k ws
  unfolding sound_words
  sound_opens {k} e h =
      let a : (leb k (length ws) && (sound_branches (length ws) (take k ws) && sound_words (length ws) (drop k ws))) ≡ true = and_right (proper w) _ (rw (e, sound_words) at h) in
      let b : (sound_branches (length ws) (take k ws) && sound_words (length ws) (drop k ws)) ≡ true = and_right (leb k (length ws)) _ a in
      record {
        fits = leb-true _ _ (and_left (leb k (length ws)) _ a);
        inside = sb_fuel _ _ (take k ws) (le_refl _) (take_le k _ ws (le_refl _)) ∙ and_left (sound_branches (length ws) (take k ws)) _ b;
        after = sw_fuel _ _ (drop k ws) (le_refl _) (drop_le k _ ws (le_refl _)) ∙ and_right (sound_branches (length ws) (take k ws)) _ b;
      }

  pub sound_branch : {k : ℕ} → shape w ≡ mark k → SoundBranches (w ∷ ws) → Marked k ws
  unfolding sound_branches
  sound_branch {k} e h =
      let a : (leb k (length ws) && (flat_words (take k ws) && sound_branches (length ws) (drop k ws))) ≡ true = and_right (proper w) _ (rw (e, sound_branches) at h) in
      let b : (flat_words (take k ws) && sound_branches (length ws) (drop k ws)) ≡ true = and_right (leb k (length ws)) _ a in
      record {
        fits = leb-true _ _ (and_left (leb k (length ws)) _ a);
        inside = and_left (flat_words (take k ws)) _ b;
        after = sb_fuel _ _ (drop k ws) (le_refl _) (drop_le k _ ws (le_refl _)) ∙ and_right (flat_words (take k ws)) _ b;
      }

  pub flat_item : flat_words (w ∷ ws) ≡ true → (i : Item) × (shape w ≡ item i) × (is_flat i ≡ true) × (flat_words ws ≡ true) × (proper w ≡ true)
  unfolding flat_words
  flat_item h = go (shape w) refl
    where
      go : (s : Shape) → shape w ≡ s → (i : Item) × (shape w ≡ item i) × (is_flat i ≡ true) × (flat_words ws ≡ true) × (proper w ≡ true)
      go (item i) e =
          let a : (proper w && (is_flat i && flat_words ws)) ≡ true = rw (e, flat_words) at h in
          let b : (is_flat i && flat_words ws) ≡ true = and_right (proper w) (is_flat i && flat_words ws) a in
          (i, e, and_left (is_flat i) (flat_words ws) b, and_right (is_flat i) (flat_words ws) b, and_left (proper w) (is_flat i && flat_words ws) a)
      go (opens k) e = false_true (and_right (proper w) false (rw (e, flat_words) at h))
      go (mark k) e = false_true (and_right (proper w) false (rw (e, flat_words) at h))
      go wrong e = false_true (and_right (proper w) false (rw (e, flat_words) at h))

-- a branch's words say one row
single_row : (o : Order) (i : Item) (p : Prog) → is_flat i ≡ true → (r : Row) × (rows o p ≡ r ∷ []) → (r : Row) × (rows o (i ▹ p) ≡ r ∷ [])
unfolding rows is_flat ◌⊗◌ before
single_row o (one t) p h (r, e) = ((t ∷ []) ++ r, rw e)
single_row o (jump n) p h (r, e) = (anys n ++ r, rw e)
single_row o (range a b) p h q = false_true h
single_row o (alt bs) p h q = false_true h

pub flat_row : (o : Order) (ws : List ℕ) → flat_words ws ≡ true → (r : Row) × (rows o (prog ws) ≡ r ∷ [])
unfolding rows prog items
flat_row o [] h = ([], refl)
flat_row o (w ∷ ws) h =
    let q = flat_item w ws h in
    let s = single_row o q.0 (prog ws) q.2 (flat_row o ws q.3) in
    (s.0, ap (rows o) (prog_item w ws q.0 q.1) ∙ s.1)

-- the other way: soundness from its parts
pub and_both : {a b : Bool} → a ≡ true → b ≡ true → (a && b) ≡ true
and_both {a} {b} p q = rw (p, q)

module _ (w : ℕ) (ws : List ℕ) where
  pub sound_proper : Sound (w ∷ ws) → proper w ≡ true
  unfolding sound_words
  sound_proper h = and_left (proper w) _ h

  pub make_item : {i : Item} → shape w ≡ item i → proper w ≡ true → Sound ws → Sound (w ∷ ws)
  unfolding sound_words
  make_item e p s = rw (e, sound_words) (rw (p, s))

  pub make_opens : {k : ℕ} → shape w ≡ opens k → proper w ≡ true → Opened k ws → Sound (w ∷ ws)
  unfolding sound_words
  make_opens {k} e p o =
      let b : sound_branches (length ws) (take k ws) ≡ true = sb_fuel _ _ (take k ws) (take_le k _ ws (le_refl _)) (le_refl _) ∙ o.inside in
      let c : sound_words (length ws) (drop k ws) ≡ true = sw_fuel _ _ (drop k ws) (drop_le k _ ws (le_refl _)) (le_refl _) ∙ o.after in
      let f : leb k (length ws) ≡ true = le-leb k (length ws) o.fits in
      rw (e, sound_words) (rw (p, f, b, c))

  pub make_branch : {k : ℕ} → shape w ≡ mark k → proper w ≡ true → Marked k ws → SoundBranches (w ∷ ws)
  unfolding sound_branches
  make_branch {k} e p o =
      let b : flat_words (take k ws) ≡ true = o.inside in
      let c : sound_branches (length ws) (drop k ws) ≡ true = sb_fuel _ _ (drop k ws) (drop_le k _ ws (le_refl _)) (le_refl _) ∙ o.after in
      let f : leb k (length ws) ≡ true = le-leb k (length ws) o.fits in
      rw (e, sound_branches) (rw (p, f, b, c))

  pub branch_proper : SoundBranches (w ∷ ws) → proper w ≡ true
  unfolding sound_branches
  branch_proper h = and_left (proper w) _ h

  pub branch_shape : SoundBranches (w ∷ ws) → (k : ℕ) × (shape w ≡ mark k)
  unfolding sound_branches
  branch_shape h = go (shape w) refl
    where
      go : (s : Shape) → shape w ≡ s → (k : ℕ) × (shape w ≡ mark k)
      go (item i) e = false_true (and_right (proper w) false (rw (e, sound_branches) at h))
      go (opens k) e = false_true (and_right (proper w) false (rw (e, sound_branches) at h))
      go (mark k) e = (k, e)
      go wrong e = false_true (and_right (proper w) false (rw (e, sound_branches) at h))

  pub make_flat : {i : Item} → shape w ≡ item i → is_flat i ≡ true → proper w ≡ true → flat_words ws ≡ true → flat_words (w ∷ ws) ≡ true
  unfolding flat_words
  make_flat e q p s = rw (e, flat_words) (rw (p, q, s))

pub flat_nil : flat_words [] ≡ true
unfolding flat_words
flat_nil = refl

pub flat_append : (ws vs : List ℕ) → flat_words ws ≡ true → flat_words vs ≡ true → flat_words (ws ++ vs) ≡ true
flat_append [] vs h g = g
flat_append (w ∷ ws) vs h g = let q = flat_item w ws h in make_flat w (ws ++ vs) q.1 q.2 q.4 (flat_append ws vs q.3 g)

-- a branch's words are sound by themselves
pub flat_sound : (ws : List ℕ) → flat_words ws ≡ true → Sound ws
unfolding sound_words
flat_sound [] h = refl
flat_sound (w ∷ ws) h = let q = flat_item w ws h in make_item w ws q.1 q.4 (flat_sound ws q.3)
