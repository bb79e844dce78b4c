-- Entries, one at a time. Assumes nothing.
use Rattle.std.proofs.Common.{◌≡◌, refl, sym, ap, ◌∙◌, Bool, true, false, cond, List, ℕ, zero, suc, ◌-◌, ◌≤◌, ◌<◌, arith, le_refl, eqb, ltb, length, drop, get_or, length-drop, lt-ltb, le-ltb}
use Rattle.def_meaning.specs.Tokens.{nothing, ◌then◌, neither, ◌or◌}
use Rattle.entries.specs.Words.{first_entry, walk, branch_in, ends, inside, lists_in, token_in, width, tokens_in}

-- ---- the bound on the depth of calls does not matter

pub walk_end : {A : Type 0} (stop : A) (make : List ℕ → A → A) (step : List ℕ → ℕ) (n : ℕ) (ws : List ℕ) → length ws < 4 → walk stop make step n ws ≡ stop
unfolding walk
walk_end stop make step zero ws h = refl
walk_end stop make step (suc n) ws h = rw (lt-ltb (length ws) 4 h)

module _ {A : Type 0} (stop : A) (make : List ℕ → A → A) (step : List ℕ → ℕ) (long : (ws : List ℕ) → 4 ≤ length ws → 4 ≤ step ws) where
  walk_same : (n m : ℕ) (ws : List ℕ) → length ws ≤ n → length ws ≤ m → walk stop make step n ws ≡ walk stop make step m ws
  unfolding walk
  walk_same zero m ws h g = sym (walk_end stop make step m ws (omega arith))
  walk_same (suc n) zero ws h g = walk_end stop make step (suc n) ws (omega arith)
  walk_same (suc n) (suc m) ws h g = go (ltb (length ws) 4) refl (λ l. walk_same n m (drop (step ws) ws) (left l n h) (left l m g))
    where
      left : 4 ≤ length ws → (k : ℕ) → length ws ≤ suc k → length (drop (step ws) ws) ≤ k
      left l k i = let s : 4 ≤ step ws = long ws l in omega (arith, length-drop (step ws) ws)

      go : (t : Bool) → ltb (length ws) 4 ≡ t → (4 ≤ length ws → walk stop make step n (drop (step ws) ws) ≡ walk stop make step m (drop (step ws) ws))
          → cond t stop (make ws (walk stop make step n (drop (step ws) ws))) ≡ cond t stop (make ws (walk stop make step m (drop (step ws) ws)))
      go true e b = refl
      go false e b = ap (make ws) (b (borrow.Author.Tests.ltb-false (length ws) 4 e))

  walk_more : (n : ℕ) (ws : List ℕ) → 4 ≤ length ws → length (drop (step ws) ws) ≤ n
      → walk stop make step (suc n) ws ≡ make ws (walk stop make step (length (drop (step ws) ws)) (drop (step ws) ws))
  unfolding walk
  walk_more n ws h l =
      rw (le-ltb (length ws) 4 h) (ap (make ws) (walk_same n (length (drop (step ws) ws)) (drop (step ws) ws) l (le_refl (length (drop (step ws) ws)))))

  pub walk_step : (ws : List ℕ) → 4 ≤ length ws
      → walk stop make step (length ws) ws ≡ make ws (walk stop make step (length (drop (step ws) ws)) (drop (step ws) ws))
  walk_step ws h =
      let l : length (drop (step ws) ws) ≤ length ws - 1 = (let s : 4 ≤ step ws = long ws h in omega (arith, length-drop (step ws) ws)) in
      let e : length ws ≡ suc (length ws - 1) = omega arith in
      ap (λ (n : ℕ). walk stop make step n ws) e ∙ walk_more (length ws - 1) ws h l

-- ---- lists without alternatives

pub branch_end : (ws : List ℕ) → length ws < 4 → branch_in ws ≡ nothing
unfolding branch_in
branch_end ws h = walk_end nothing (λ w ts. first_entry w then ts) (λ w. 4) (length ws) ws h

pub branch_step : (ws : List ℕ) → 4 ≤ length ws → branch_in ws ≡ first_entry ws then branch_in (drop 4 ws)
unfolding branch_in
branch_step ws h = walk_step nothing (λ w ts. first_entry w then ts) (λ w. 4) (λ w l. le_refl 4) ws h

-- ---- lists after their marks

pub ends_le : (ws : List ℕ) → ends ws ≤ length ws
unfolding ends
ends_le ws = omega arith

pub ends_long : (ws : List ℕ) → 4 ≤ length ws → 4 ≤ ends ws
unfolding ends
ends_long ws h = omega arith

pub lists_end : (ws : List ℕ) → length ws < 4 → lists_in ws ≡ neither
unfolding lists_in
lists_end ws h = walk_end neither (λ w ls. branch_in (inside w) or ls) ends (length ws) ws h

pub lists_step : (ws : List ℕ) → 4 ≤ length ws → lists_in ws ≡ branch_in (inside ws) or lists_in (drop (ends ws) ws)
unfolding lists_in
lists_step ws h = walk_step neither (λ w ls. branch_in (inside w) or ls) ends ends_long ws h

-- ---- tokens

pub width_long : (ws : List ℕ) → 4 ≤ length ws → 4 ≤ width ws
unfolding width
width_long ws h = go (eqb (get_or ws 0 0) 5)
  where
    go : (t : Bool) → 4 ≤ cond t (ends ws) 4
    go true = ends_long ws h
    go false = le_refl 4

pub width_le : (ws : List ℕ) → 4 ≤ length ws → width ws ≤ length ws
unfolding width
width_le ws h = go (eqb (get_or ws 0 0) 5)
  where
    go : (t : Bool) → cond t (ends ws) 4 ≤ length ws
    go true = ends_le ws
    go false = h

pub tokens_end : (ws : List ℕ) → length ws < 4 → tokens_in ws ≡ nothing
unfolding tokens_in
tokens_end ws h = walk_end nothing (λ w ts. token_in w then ts) width (length ws) ws h

pub tokens_step : (ws : List ℕ) → 4 ≤ length ws → tokens_in ws ≡ token_in ws then tokens_in (drop (width ws) ws)
unfolding tokens_in
tokens_step ws h = walk_step nothing (λ w ts. token_in w then ts) width width_long ws h

-- alternatives end where the words within do
pub width_inside : (ws : List ℕ) → get_or ws 0 0 ≡ 5 → width ws ≡ ends ws
unfolding width
width_inside ws e = rw (borrow.Author.Tests.eq-eqb (get_or ws 0 0) 5 e)

-- any other token has the words of one entry
pub width_entry : (ws : List ℕ) → (get_or ws 0 0 ≡ 5 → ⊥) → width ws ≡ 4
unfolding width
width_entry ws f = rw (borrow.Author.Tests.ne_eqb (get_or ws 0 0) 5 f)

-- what holds of fewer than four words, and of four and more where it holds of what follows four, holds of all
pub by_entries : (P : List ℕ → Type 0) → ((ws : List ℕ) → length ws < 4 → P ws) → ((ws : List ℕ) → 4 ≤ length ws → P (drop 4 ws) → P ws) → (ws : List ℕ) → P ws
by_entries P stop more ws = go (length ws) ws (le_refl (length ws))
  where
    go : (n : ℕ) (w : List ℕ) → length w ≤ n → P w
    go zero w h = stop w (omega arith)
    go (suc n) w h = at (ltb (length w) 4) refl (λ l. go n (drop 4 w) (omega (arith, length-drop 4 w)))
      where
        at : (t : Bool) → ltb (length w) 4 ≡ t → (4 ≤ length w → P (drop 4 w)) → P w
        at true e f = stop w (borrow.Author.Tests.ltb-true (length w) 4 e)
        at false e f = more w (borrow.Author.Tests.ltb-false (length w) 4 e) (f (borrow.Author.Tests.ltb-false (length w) 4 e))
