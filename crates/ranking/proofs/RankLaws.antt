-- Ranks of entries. Assumes nothing.
use Rattle.std.proofs.Common.{◌≡◌, refl, sym, ap, ap₂, ◌∙◌, List, [], ◌∷◌, ◌++◌, append-nil, ℕ, ◌+◌, ◌-◌, ◌≤◌, ◌<◌, min, arith, add-one, length, get_or, take, drop, length-append, drop_of_length-le, drop-cons, take_at, lt-ltb, le-ltb, le-leb}
use borrow.Author.Tests.{lt-leb}
use Rattle.def_meaning.specs.Limits.{literal_limit, combination_limit}
use Rattle.tallies.specs.Tallies.{count_top}
use Rattle.spelling.specs.Writing.{Written}
use Rattle.def_meaning.specs.Tokens.{Tokens}
use Rattle.atoms.specs.Score.{literal_score}
use Rattle.def_picking.specs.Literals.{literals, combinations}
use Rattle.def_picking.specs.Numbers.{count, literal_at}
use Rattle.def_picking.specs.Candidates.{lowest, least, penalty, rank_value, counted, combined, rank, ranked, skipped, excessive}
use Rattle.def_picking.proofs.NumberLaws.{count_literals, literal_numbered}

-- a least can only fall
pub lowest_le : (of : List ℕ → ℕ) (ls : List (List ℕ)) (x : ℕ) → lowest of ls x ≤ x
unfolding lowest
lowest_le of [] x = omega arith
lowest_le of (l ∷ ls) x = let h = lowest_le of ls (min x (of l)) in omega arith

-- the least of a measure, literal by literal
module _ (of : List ℕ → ℕ) (ts : Tokens) where
  pub lowest_end : (k n x : ℕ) → n ≡ count ts → n ≤ k → lowest of (drop k (literals ts)) x ≡ x
  unfolding lowest
  lowest_end k n x e h = rw (drop_of_length-le (literals ts) {i = k} (let c = count_literals ts in omega arith))

  pub lowest_more : (k n x : ℕ) → n ≡ count ts → k < n → lowest of (drop k (literals ts)) x ≡ lowest of (drop (k + 1) (literals ts)) (min x (of (literal_at ts k)))
  unfolding lowest
  lowest_more k n x e h =
      ap (λ (l : List (List ℕ)). lowest of l x) (drop-cons (literals ts) k [] (let c = count_literals ts in omega arith))
      ∙ ap₂ (λ (y : ℕ) (l : List ℕ). lowest of (drop y (literals ts)) (min x (of l))) (sym (add-one k)) (literal_numbered ts k (omega arith))

  pub least_none : (n : ℕ) → n ≡ count ts → n ≡ 0 → least of (literals ts) ≡ 0
  unfolding least
  least_none n e z = go (literals ts) (let c = count_literals ts in omega arith)
    where
      go : (l : List (List ℕ)) → length l ≡ 0 → least of l ≡ 0
      go [] h = refl
      go (x ∷ l) h = absurd (omega arith)

  pub least_first : (n : ℕ) → n ≡ count ts → (n ≡ 0 → ⊥) → least of (literals ts) ≡ lowest of (drop 1 (literals ts)) (of (literal_at ts 0))
  unfolding least
  least_first n e z = go (literals ts) refl (let c = count_literals ts in omega arith) ∙ ap (λ (l : List ℕ). lowest of (drop 1 (literals ts)) (of l)) (literal_numbered ts 0 (omega arith))
    where
      go : (l : List (List ℕ)) → literals ts ≡ l → 0 < length l → least of l ≡ lowest of (drop 1 (literals ts)) (of (get_or (literals ts) 0 []))
      go [] q h = absurd (omega arith)
      go (x ∷ l) q h = sym (ap (λ (y : List (List ℕ)). lowest of (drop 1 y) (of (get_or y 0 []))) q)

-- ---- the penalty

pub penalty_40 : (n : ℕ) → 100 ≤ n → 40 ≡ penalty n
unfolding penalty
penalty_40 n h = rw (le-leb 100 n h)

pub penalty_20 : (n : ℕ) → n < 100 → 16 < n → 20 ≡ penalty n
unfolding penalty
penalty_20 n h g = simp (lt-leb 100 n h, lt-ltb 16 n g)

pub penalty_10 : (n : ℕ) → n < 100 → n ≤ 16 → 1 < n → 10 ≡ penalty n
unfolding penalty
penalty_10 n h g i = simp (lt-leb 100 n h, le-ltb 16 n g, lt-ltb 1 n i)

pub penalty_0 : (n : ℕ) → n < 100 → n ≤ 16 → n ≤ 1 → 0 ≡ penalty n
unfolding penalty
penalty_0 n h g i = simp (lt-leb 100 n h, le-ltb 16 n g, le-ltb 1 n i)

-- ---- the rank

module _ (ts : Tokens) (n c : ℕ) (n-is : n ≡ min count_top (count ts)) (c-is : c ≡ min count_top (combinations ts)) where
  pub rank_skipped : combination_limit < c → skipped ≡ rank ts
  unfolding rank combined
  rank_skipped h = rw (lt-ltb combination_limit (combinations ts) (omega arith))

  pub rank_excessive : c ≤ combination_limit → literal_limit < n → excessive ≡ rank ts
  unfolding rank combined counted
  rank_excessive h g = rw (le-ltb combination_limit (combinations ts) (omega arith)) (rw (lt-ltb literal_limit (length (literals ts)) (let e = count_literals ts in omega arith)))

  pub count_exact : n ≤ literal_limit → n ≡ count ts
  count_exact h = omega arith

  pub rank_given : c ≤ combination_limit → n ≤ literal_limit → (s p : ℕ) → s ≡ least literal_score (literals ts) → p ≡ penalty c → ranked (s - p) ≡ rank ts
  unfolding rank combined counted rank_value
  rank_given h g s p e f =
      let k : c ≡ combinations ts = omega arith in
      rw (le-ltb combination_limit (combinations ts) (omega arith)) (rw (le-ltb literal_limit (length (literals ts)) (let e = count_literals ts in omega arith))
      (ap ranked (ap₂ ◌-◌ e (f ∙ ap penalty k))))

-- ---- the scratch

pub scratch_front : (n : ℕ) (lit was ys : List ℕ) → Written n lit was ys → take (n - 0) (ys ++ []) ≡ lit
scratch_front n lit was ys w =
    let e : n - 0 ≡ length lit = (let f = w.long in omega arith) in
    ap₂ take e (append-nil ys ∙ w.content) ∙ take_at lit (drop (length lit) was) (length lit) refl

pub scratch_room : (n : ℕ) (lit was ys : List ℕ) → Written n lit was ys → n ≤ length (ys ++ [])
scratch_room n lit was ys w =
    let e : length (ys ++ []) ≡ length ys = ap length (append-nil ys) in
    let f : length ys ≡ length lit + length (drop (length lit) was) = ap length w.content ∙ length-append lit (drop (length lit) was) in
    let g = w.long in
    omega arith
