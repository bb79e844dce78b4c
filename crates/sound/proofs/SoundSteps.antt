-- The soundness test, a word at a time: the answer for some words is the answer for what is left. Assumes nothing.
use Rattle.std.proofs.Common.{◌≡◌, refl, sym, ap, ◌∙◌, Bool, true, false, cond, ◌&&◌, List, [], ◌∷◌, ℕ, ◌-◌, ◌≤◌, ◌<◌, Option, None, Some, leb, length, take, drop, slice_range, arith, ◌⊎◌, inl, inr, le_refl, le-leb}
use Rattle.std.proofs.Math.Bool.{and-false}
use borrow.Author.Tests.{lt-leb}
use Rattle.def_meaning.specs.Programs.{Item}
use Rattle.def_meaning.specs.Words.{Shape, item, opens, mark, wrong, shape, proper, is_flat, flat_words, sound_branches, sound_words}
use Rattle.def_meaning.proofs.WordLaws.{take_le, drop_le}
use Rattle.def_meaning.proofs.SoundLaws.{sb_fuel, sw_fuel}
use Rattle.def_meaning.proofs.PartLaws.{from, to_end}
use Rattle.sound.specs.Steps.{in_item, in_branch, item_inside, branch_inside, flat_shape, flat_word, Steps}

-- the tests with the fuel that is enough
abbrev pub sb : List ℕ → Bool
sb ws = sound_branches (length ws) ws

abbrev pub sw : List ℕ → Bool
sw ws = sound_words (length ws) ws

-- one turn of its loop, over the code's parts: L is the word w and the words ws
module _ {test part : List ℕ → Bool} {inside : ℕ → Option ℕ} (s : Steps test part inside) (L : List ℕ) where
  pub turn_done : length L ≡ 0 → true ≡ test L
  turn_done e = none L e
    where
      none : (l : List ℕ) → length l ≡ 0 → true ≡ test l
      none [] e = sym s.nil
      none (w ∷ l) e = absurd (omega arith)

  module _ (w : ℕ) (ws : List ℕ) (e : L ≡ w ∷ ws) where
    pub turn_unfit : inside w ≡ None → false ≡ test L
    turn_unfit u = sym (ap test e ∙ s.unfit w ws u)

    -- n is k as the code has it, in a wider type
    module _ (n k : ℕ) (i : inside w ≡ Some k) (same : n ≡ k) where
      told : test L ≡ (leb n (length ws) && (part (take n ws) && test (drop n ws)))
      told = ap test e ∙ s.fit w n ws (i ∙ ap Some (sym same))

      -- what a `get` of the first n of the words says where it gives none
      pub turn_long : (n < 0) ⊎ (length ws < n) → false ≡ test L
      turn_long (inl l) = absurd (omega arith)
      turn_long (inr l) = sym (told ∙ rw (lt-leb n (length ws) l))

      module _ {own : List ℕ} (l : n ≤ length ws) (cut : own ≡ slice_range ws 0 n) where
        seen : take n ws ≡ own
        seen = let z : n ≡ n - 0 = omega arith in ap (λ (m : ℕ). take m ws) z ∙ sym cut

        pub turn_part : false ≡ part own → false ≡ test L
        turn_part g = sym (told ∙ rw (le-leb n (length ws) l, seen, ← g))

        pub turn_next : true ≡ part own → test (from n ws) ≡ test L
        turn_next g = sym (told ∙ rw (le-leb n (length ws) l, seen, ← g) (ap test (sym (to_end n ws))))

-- items: one that is a single word has no words inside, and no branches fill them
module _ (w : ℕ) (ws : List ℕ) where
  sw_item : {i : Item} → proper w ≡ true → shape w ≡ item i → sw (w ∷ ws) ≡ (leb 0 (length ws) && (sb (take 0 ws) && sw (drop 0 ws)))
  unfolding sound_words sound_branches
  sw_item p e = rw (e, sound_words) (rw (p, le-leb 0 (length ws) (omega arith)))

  sw_opens : (k : ℕ) → proper w ≡ true → shape w ≡ opens k → sw (w ∷ ws) ≡ (leb k (length ws) && (sb (take k ws) && sw (drop k ws)))
  unfolding sound_words
  sw_opens k p e = rw (e, sound_words) (rw (p, sb_fuel (length ws) (length (take k ws)) (take k ws) (take_le k _ ws (le_refl _)) (le_refl _), sw_fuel (length ws) (length (drop k ws)) (drop k ws) (drop_le k _ ws (le_refl _)) (le_refl _)))

  sb_mark : (k : ℕ) → proper w ≡ true → shape w ≡ mark k → sb (w ∷ ws) ≡ (leb k (length ws) && (flat_words (take k ws) && sb (drop k ws)))
  unfolding sound_branches
  sb_mark k p e = rw (e, sound_branches) (rw (p, sb_fuel (length ws) (length (drop k ws)) (drop k ws) (drop_le k _ ws (le_refl _)) (le_refl _)))

pub item_steps : Steps sw sb item_inside
unfolding sound_words
item_steps = record { nil = refl; fit = fits; unfit = refuses }
  where
    fits : (w k : ℕ) (ws : List ℕ) → item_inside w ≡ Some k → sw (w ∷ ws) ≡ (leb k (length ws) && (sb (take k ws) && sw (drop k ws)))
    fits w k ws h = go (proper w) refl (shape w) refl h
      where
        go : (p : Bool) → proper w ≡ p → (s : Shape) → shape w ≡ s → in_item (cond p s wrong) ≡ Some k → sw (w ∷ ws) ≡ (leb k (length ws) && (sb (take k ws) && sw (drop k ws)))
        go false q s e f = cc
        go true q (item i) e f = let z : k ≡ 0 = cc in rw z (sw_item w ws q e)
        go true q (opens j) e f = let z : k ≡ j = cc in rw z (sw_opens w ws j q e)
        go true q (mark j) e f = cc
        go true q wrong e f = cc

    refuses : (w : ℕ) (ws : List ℕ) → item_inside w ≡ None → sw (w ∷ ws) ≡ false
    refuses w ws h = go (proper w) refl (shape w) refl h
      where
        go : (p : Bool) → proper w ≡ p → (s : Shape) → shape w ≡ s → in_item (cond p s wrong) ≡ None → sw (w ∷ ws) ≡ false
        go false q s e f = rw q
        go true q (item i) e f = cc
        go true q (opens j) e f = cc
        go true q (mark j) e f = rw (e, sound_words) (and-false (proper w))
        go true q wrong e f = rw (e, sound_words) (and-false (proper w))

pub branch_steps : Steps sb flat_words branch_inside
unfolding sound_branches
branch_steps = record { nil = refl; fit = fits; unfit = refuses }
  where
    fits : (w k : ℕ) (ws : List ℕ) → branch_inside w ≡ Some k → sb (w ∷ ws) ≡ (leb k (length ws) && (flat_words (take k ws) && sb (drop k ws)))
    fits w k ws h = go (proper w) refl (shape w) refl h
      where
        go : (p : Bool) → proper w ≡ p → (s : Shape) → shape w ≡ s → in_branch (cond p s wrong) ≡ Some k → sb (w ∷ ws) ≡ (leb k (length ws) && (flat_words (take k ws) && sb (drop k ws)))
        go false q s e f = cc
        go true q (item i) e f = cc
        go true q (opens j) e f = cc
        go true q (mark j) e f = let z : k ≡ j = cc in rw z (sb_mark w ws j q e)
        go true q wrong e f = cc

    refuses : (w : ℕ) (ws : List ℕ) → branch_inside w ≡ None → sb (w ∷ ws) ≡ false
    refuses w ws h = go (proper w) refl (shape w) refl h
      where
        go : (p : Bool) → proper w ≡ p → (s : Shape) → shape w ≡ s → in_branch (cond p s wrong) ≡ None → sb (w ∷ ws) ≡ false
        go false q s e f = rw q
        go true q (item i) e f = rw (e, sound_branches) (and-false (proper w))
        go true q (opens j) e f = rw (e, sound_branches) (and-false (proper w))
        go true q (mark j) e f = cc
        go true q wrong e f = rw (e, sound_branches) (and-false (proper w))

-- a branch's words
pub flat_none : flat_words [] ≡ true
unfolding flat_words
flat_none = refl

pub flat_cons : (w : ℕ) (ws : List ℕ) → flat_words (w ∷ ws) ≡ (flat_word w && flat_words ws)
unfolding flat_words
flat_cons w ws = go (proper w) (shape w)
  where
    go : (p : Bool) (s : Shape) → (p && elim s [ item i ↦ is_flat i && flat_words ws | opens k ↦ false | mark k ↦ false | wrong ↦ false ]) ≡ (flat_shape (cond p s wrong) && flat_words ws)
    go true (item i) = refl
    go true (opens k) = refl
    go true (mark k) = refl
    go true wrong = refl
    go false s = refl

-- what the words inside tell of a word
pub branch_mark : (w k : ℕ) → branch_inside w ≡ Some k → shape w ≡ mark k
branch_mark w k h = go (proper w) (shape w) refl h
  where
    go : (p : Bool) (s : Shape) → shape w ≡ s → in_branch (cond p s wrong) ≡ Some k → shape w ≡ mark k
    go false s e f = cc
    go true (item i) e f = cc
    go true (opens j) e f = cc
    go true (mark j) e f = cc
    go true wrong e f = cc

pub item_kind : (w k : ℕ) → item_inside w ≡ Some k → (shape w ≡ opens k) ⊎ ((i : Item) × (shape w ≡ item i) × (k ≡ 0))
item_kind w k h = go (proper w) (shape w) refl h
  where
    go : (p : Bool) (s : Shape) → shape w ≡ s → in_item (cond p s wrong) ≡ Some k → (shape w ≡ opens k) ⊎ ((i : Item) × (shape w ≡ item i) × (k ≡ 0))
    go false s e f = cc
    go true (item i) e f = inr (i, e, cc)
    go true (opens j) e f = inl cc
    go true (mark j) e f = cc
    go true wrong e f = cc
