-- Laws of node words. Assumes nothing.
use mathlib.Core.Path.{◌≡◌, refl}
use mathlib.Core.List.{List, [], ◌∷◌}
use Prim.Native.Nat.{ℕ, zero, suc, ◌≤◌}
use native.Mathlib.Omega.{arith}
use native.Mathlib.Nat.{le_refl}
use lib.ListN.{length, take, drop, length-take, length-drop}
use Rattle.def_meaning.specs.Programs.{Item, alt, end, ◌▹◌, or}
use Rattle.def_meaning.specs.Words.{Shape, item, opens, mark, wrong, shape, items, branches, prog, branches_of}

pub drop_le : (k n : ℕ) (ws : List ℕ) → length ws ≤ n → length (drop k ws) ≤ n
drop_le k n ws h = rw length-drop (omega arith)

pub take_le : (k n : ℕ) (ws : List ℕ) → length ws ≤ n → length (take k ws) ≤ n
take_le k n ws h = rw length-take (omega arith)

-- one word's part, by its shape
items_step : (w : ℕ) (ws : List ℕ) (n m : ℕ) → items n ws ≡ items m ws → ((k : ℕ) → branches n (take k ws) ≡ branches m (take k ws)) → ((k : ℕ) → items n (drop k ws) ≡ items m (drop k ws)) → items (suc n) (w ∷ ws) ≡ items (suc m) (w ∷ ws)
unfolding items
items_step w ws n m h b g = go (shape w) refl
  where
    go : (s : Shape) → shape w ≡ s → items (suc n) (w ∷ ws) ≡ items (suc m) (w ∷ ws)
    go (item i) e = rw (e, items) (rw h)
    go (opens k) e = rw (e, items) (rw (b k, g k))
    go (mark k) e = rw (e, items) (rw (g k))
    go wrong e = rw (e, items)

branches_step : (w : ℕ) (ws : List ℕ) (n m : ℕ) → ((k : ℕ) → items n (take k ws) ≡ items m (take k ws)) → ((k : ℕ) → branches n (drop k ws) ≡ branches m (drop k ws)) → branches (suc n) (w ∷ ws) ≡ branches (suc m) (w ∷ ws)
unfolding branches
branches_step w ws n m h g = go (shape w) refl
  where
    go : (s : Shape) → shape w ≡ s → branches (suc n) (w ∷ ws) ≡ branches (suc m) (w ∷ ws)
    go (item i) e = rw (e, branches)
    go (opens k) e = rw (e, branches)
    go (mark k) e = rw (e, branches) (rw (h k, g k))
    go wrong e = rw (e, branches)

-- any bound from the number of words on gives the same
mutual
  unfolding items

  pub items_fuel : (n m : ℕ) (ws : List ℕ) → length ws ≤ n → length ws ≤ m → items n ws ≡ items m ws
  items_fuel zero zero ws h g = refl
  items_fuel zero (suc m) [] h g = refl
  items_fuel zero (suc m) (w ∷ ws) h g = absurd (omega arith)
  items_fuel (suc n) zero [] h g = refl
  items_fuel (suc n) zero (w ∷ ws) h g = absurd (omega arith)
  items_fuel (suc n) (suc m) [] h g = refl
  items_fuel (suc n) (suc m) (w ∷ ws) h g =
      items_step w ws n m
      (items_fuel n m ws (omega arith) (omega arith))
      (λ k. branches_fuel n m (take k ws) (take_le k n ws (omega arith)) (take_le k m ws (omega arith)))
      (λ k. items_fuel n m (drop k ws) (drop_le k n ws (omega arith)) (drop_le k m ws (omega arith)))

  pub branches_fuel : (n m : ℕ) (ws : List ℕ) → length ws ≤ n → length ws ≤ m → branches n ws ≡ branches m ws
  branches_fuel zero zero ws h g = refl
  branches_fuel zero (suc m) [] h g = refl
  branches_fuel zero (suc m) (w ∷ ws) h g = absurd (omega arith)
  branches_fuel (suc n) zero [] h g = refl
  branches_fuel (suc n) zero (w ∷ ws) h g = absurd (omega arith)
  branches_fuel (suc n) (suc m) [] h g = refl
  branches_fuel (suc n) (suc m) (w ∷ ws) h g =
      branches_step w ws n m
      (λ k. items_fuel n m (take k ws) (take_le k n ws (omega arith)) (take_le k m ws (omega arith)))
      (λ k. branches_fuel n m (drop k ws) (drop_le k n ws (omega arith)) (drop_le k m ws (omega arith)))

-- the program of words, word by word
pub prog_nil : prog [] ≡ end
unfolding prog items
prog_nil = refl

module _ (w : ℕ) (ws : List ℕ) where
  pub prog_item : (i : Item) → shape w ≡ item i → prog (w ∷ ws) ≡ i ▹ prog ws
  unfolding prog items
  prog_item i e = rw (e, items)

  pub prog_opens : (k : ℕ) → shape w ≡ opens k → prog (w ∷ ws) ≡ alt (branches_of (take k ws)) ▹ prog (drop k ws)
  unfolding prog branches_of items
  prog_opens k e = rw (e, items) (rw (branches_fuel (length ws) (length (take k ws)) (take k ws) (take_le k _ ws (le_refl _)) (le_refl _), items_fuel (length ws) (length (drop k ws)) (drop k ws) (drop_le k _ ws (le_refl _)) (le_refl _)))

  pub branches_mark : (k : ℕ) → shape w ≡ mark k → branches_of (w ∷ ws) ≡ or (prog (take k ws)) (branches_of (drop k ws))
  unfolding prog branches_of branches
  branches_mark k e = rw (e, branches) (rw (items_fuel (length ws) (length (take k ws)) (take k ws) (take_le k _ ws (le_refl _)) (le_refl _), branches_fuel (length ws) (length (drop k ws)) (drop k ws) (drop_le k _ ws (le_refl _)) (le_refl _)))
