-- The mirror's words, a word at a time. Assumes nothing.
use mathlib.Core.Path.{◌≡◌, refl, sym, ap, ◌∙◌}
use mathlib.Core.Bool.{true}
use mathlib.Core.List.{List, [], ◌∷◌, ◌++◌, reverse, reverse-cons}
use Prim.Native.Nat.{ℕ, zero, suc, ◌≤◌}
use native.Mathlib.Omega.{arith}
use native.Mathlib.Nat.{le_refl}
use lib.ListN.{length, take, drop}
use Rattle.def_meaning.specs.Programs.{Item}
use Rattle.def_meaning.specs.Words.{Shape, item, opens, mark, wrong, shape, flat_words, mirror_items, mirror_branches, mirror_words}
use Rattle.def_meaning.proofs.WordLaws.{take_le, drop_le}
use Rattle.def_meaning.proofs.SoundLaws.{flat_item}

-- one word's part, by its shape
items_step : (w : ℕ) (ws : List ℕ) (n m : ℕ) → mirror_items n ws ≡ mirror_items m ws → ((k : ℕ) → mirror_branches n (take k ws) ≡ mirror_branches m (take k ws)) → ((k : ℕ) → mirror_items n (drop k ws) ≡ mirror_items m (drop k ws)) → mirror_items (suc n) (w ∷ ws) ≡ mirror_items (suc m) (w ∷ ws)
unfolding mirror_items
items_step w ws n m h b g = go (shape w) refl
  where
    go : (s : Shape) → shape w ≡ s → mirror_items (suc n) (w ∷ ws) ≡ mirror_items (suc m) (w ∷ ws)
    go (item i) e = rw (e, mirror_items) (rw h)
    go (opens k) e = rw (e, mirror_items) (rw (b k, g k))
    go (mark k) e = rw (e, mirror_items)
    go wrong e = rw (e, mirror_items)

branches_step : (w : ℕ) (ws : List ℕ) (n m : ℕ) → ((k : ℕ) → mirror_items n (take k ws) ≡ mirror_items m (take k ws)) → ((k : ℕ) → mirror_branches n (drop k ws) ≡ mirror_branches m (drop k ws)) → mirror_branches (suc n) (w ∷ ws) ≡ mirror_branches (suc m) (w ∷ ws)
unfolding mirror_branches
branches_step w ws n m h g = go (shape w) refl
  where
    go : (s : Shape) → shape w ≡ s → mirror_branches (suc n) (w ∷ ws) ≡ mirror_branches (suc m) (w ∷ ws)
    go (item i) e = rw (e, mirror_branches)
    go (opens k) e = rw (e, mirror_branches)
    go (mark k) e = rw (e, mirror_branches) (rw (h k, g k))
    go wrong e = rw (e, mirror_branches)

-- any bound from the number of words on gives the same
mutual
  unfolding mirror_items

  items_fuel : (n m : ℕ) (ws : List ℕ) → length ws ≤ n → length ws ≤ m → mirror_items n ws ≡ mirror_items m ws
  items_fuel zero zero ws h g = refl
  items_fuel zero (suc m) [] h g = refl
  items_fuel zero (suc m) (w ∷ ws) h g = absurd (omega arith)
  items_fuel (suc n) zero [] h g = refl
  items_fuel (suc n) zero (w ∷ ws) h g = absurd (omega arith)
  items_fuel (suc n) (suc m) [] h g = refl
  items_fuel (suc n) (suc m) (w ∷ ws) h g =
      items_step w ws n m
      (items_fuel n m ws (omega arith) (omega arith))
      (λ k. branches_fuel n m (take k ws) (take_le k n ws (omega arith)) (take_le k m ws (omega arith)))
      (λ k. items_fuel n m (drop k ws) (drop_le k n ws (omega arith)) (drop_le k m ws (omega arith)))

  branches_fuel : (n m : ℕ) (ws : List ℕ) → length ws ≤ n → length ws ≤ m → mirror_branches n ws ≡ mirror_branches m ws
  branches_fuel zero zero ws h g = refl
  branches_fuel zero (suc m) [] h g = refl
  branches_fuel zero (suc m) (w ∷ ws) h g = absurd (omega arith)
  branches_fuel (suc n) zero [] h g = refl
  branches_fuel (suc n) zero (w ∷ ws) h g = absurd (omega arith)
  branches_fuel (suc n) (suc m) [] h g = refl
  branches_fuel (suc n) (suc m) (w ∷ ws) h g =
      branches_step w ws n m
      (λ k. items_fuel n m (take k ws) (take_le k n ws (omega arith)) (take_le k m ws (omega arith)))
      (λ k. branches_fuel n m (drop k ws) (drop_le k n ws (omega arith)) (drop_le k m ws (omega arith)))

-- the mirror's words of branches, with the fuel that is enough
abbrev pub mirror_branches_of : List ℕ → List ℕ
mirror_branches_of ws = mirror_branches (length ws) ws

pub mirror_nil : mirror_words [] ≡ []
unfolding mirror_words mirror_items
mirror_nil = refl

pub mirror_none : mirror_branches_of [] ≡ []
unfolding mirror_branches
mirror_none = refl

module _ (w : ℕ) (ws : List ℕ) where
  pub mirror_item : {i : Item} → shape w ≡ item i → mirror_words (w ∷ ws) ≡ mirror_words ws ++ (w ∷ [])
  unfolding mirror_words mirror_items
  mirror_item e = rw (e, mirror_items)

  pub mirror_opens : (k : ℕ) → shape w ≡ opens k → mirror_words (w ∷ ws) ≡ mirror_words (drop k ws) ++ (w ∷ mirror_branches_of (take k ws))
  unfolding mirror_words mirror_items
  mirror_opens k e = rw (e, mirror_items) (rw (branches_fuel (length ws) (length (take k ws)) (take k ws) (take_le k _ ws (le_refl _)) (le_refl _), items_fuel (length ws) (length (drop k ws)) (drop k ws) (drop_le k _ ws (le_refl _)) (le_refl _)))

  pub mirror_mark : (k : ℕ) → shape w ≡ mark k → mirror_branches_of (w ∷ ws) ≡ w ∷ (mirror_words (take k ws) ++ mirror_branches_of (drop k ws))
  unfolding mirror_words mirror_branches
  mirror_mark k e = rw (e, mirror_branches) (rw (items_fuel (length ws) (length (take k ws)) (take k ws) (take_le k _ ws (le_refl _)) (le_refl _), branches_fuel (length ws) (length (drop k ws)) (drop k ws) (drop_le k _ ws (le_refl _)) (le_refl _)))

-- what a branch holds is read backwards, word by word
pub mirror_flat : (ws : List ℕ) → flat_words ws ≡ true → mirror_words ws ≡ reverse ws
mirror_flat [] h = mirror_nil
mirror_flat (w ∷ ws) h =
    let q = flat_item w ws h in
    mirror_item w ws q.1 ∙ ap (λ (l : List ℕ). l ++ (w ∷ [])) (mirror_flat ws q.3) ∙ sym (reverse-cons w ws)
