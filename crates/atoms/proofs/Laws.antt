-- Laws of the score.
use native.Mathlib.Nat.{le-max_left, le-max_right, max-eq_left, max-eq_right}
use Rattle.std.specs.List.{fold}
use Rattle.std.proofs.Common.{map, ◌≡◌, refl, sym, ap, ap₂, ◌∙◌, Bool, true, false, cond, ◌⊎◌, inl, inr, ⊎_elim, List, [], ◌∷◌, ℕ, zero, suc, ◌+◌, ◌-◌, ◌*◌, ◌≤◌, ◌<◌, max, arith, zero-add, add_assoc, eq-or-lt_of_le, eqb, leb, length, take, drop, length-take, length-drop, take_all, drop-drop, eq-eqb, ne_eqb, leb-true, leb-false}
use types.Run.{OneOf}
use Rattle.atoms.specs.Score.{among, common, byte_score, atom_score, atom_at, highest, literal_score, IsAtom, IsScore}

-- ---- a byte

pub among_one : (b : ℕ) (ks : List ℕ) → OneOf ks b → among b ks ≡ true
unfolding among
among_one b [] h = absurd h
among_one b (k ∷ []) h = rw (eq-eqb b k h)
among_one b (k ∷ j ∷ ks) (inl h) = rw (eq-eqb b k h)
among_one b (k ∷ j ∷ ks) (inr h) = rw (among_one b (j ∷ ks) h) (pick_true (eqb b k))
  where
    pick_true : (t : Bool) → cond t true true ≡ true
    pick_true true = refl
    pick_true false = refl

pub among_none : (b : ℕ) (ks : List ℕ) → (OneOf ks b → ⊥) → among b ks ≡ false
unfolding among
among_none b [] h = refl
among_none b (k ∷ []) h = rw (ne_eqb b k h)
among_none b (k ∷ j ∷ ks) h = rw (ne_eqb b k (λ e. h (inl e))) (among_none b (j ∷ ks) (λ e. h (inr e)))

-- ---- a window

pick_le : (t : Bool) → cond t 10 20 ≤ 20
pick_le true = omega arith
pick_le false = omega arith

pub byte_le : (b : ℕ) → byte_score b ≤ 20
unfolding byte_score
byte_le b = pick_le (among b common)

-- a sum over the bytes is their score
atom_sum : (l : List ℕ) (s : ℕ) → fold (λ (a x : ℕ). a + x) s (map byte_score l) ≡ s + atom_score l
unfolding atom_score
atom_sum [] s = omega arith
atom_sum (b ∷ l) s = atom_sum l (s + byte_score b) ∙ add_assoc s (byte_score b) (atom_score l)

pub atom_total : (l : List ℕ) → fold (λ (a x : ℕ). a + x) 0 (map byte_score l) ≡ atom_score l
atom_total l = rw (atom_sum l 0) (zero-add (atom_score l))

pub atom_le : (n : ℕ) (l : List ℕ) → atom_score (take n l) ≤ 20 * n
unfolding atom_score
atom_le zero l = omega arith
atom_le (suc n) [] = omega arith
atom_le (suc n) (b ∷ l) = omega (arith, byte_le b, atom_le n l)

-- ---- the best window

-- `best` is the highest score of the windows before `rest`, the end of a literal; of none, it is that of the literal's first bytes
pub record Passed (l rest : List ℕ) (best : ℕ) : Type 0 where
  pub short : length rest ≤ length l
  pub is_end : rest ≡ drop (length l - length rest) l
  pub far : length l - length rest ≤ length l - 3
  pub is_best : best ≡ highest (length l - length rest - 1) l

pub passed_none : (l rest : List ℕ) (s : ℕ) → rest ≡ l → s ≡ atom_score (take 4 l) → Passed l rest s
unfolding highest
passed_none l rest s e f =
    let z : length l - length rest ≡ 0 = omega (arith, ap length e) in
    record { short = omega (arith, ap length e); is_end = rw z e; far = omega arith; is_best = rw z f }

-- the next window is the first of all, or one more
next_best : (n : ℕ) (l : List ℕ) → max (highest (n - 1) l) (atom_score (take 4 (drop n l))) ≡ highest n l
unfolding highest
next_best zero l = omega arith
next_best (suc n) l = let e : suc n - 1 ≡ n = omega arith in rw e

-- one window more
pub passed_more : (l rest next w : List ℕ) (best s r : ℕ) → Passed l rest best → 4 ≤ length rest → next ≡ drop 1 rest → w ≡ take 4 rest
    → s ≡ atom_score (take 4 w) → r ≡ max best s → Passed l next r
passed_more l rest next w best s r p h e f g k =
    let n : ℕ = length l - length rest in
    let t : take 4 w ≡ take 4 rest = rw f (take_all 4 (take 4 rest) (omega (arith, length-take {A = ℕ}))) in
    let d : length next ≡ length rest - 1 = ap length e ∙ length-drop 1 rest in
    let m : length l - length next ≡ n + 1 = omega (arith, p.short) in
    let m1 : length l - length next - 1 ≡ n = omega (arith, p.short) in
    record {
      short = omega (arith, p.short);
      is_end = rw m (e ∙ ap (drop 1) p.is_end ∙ drop-drop 1 n l);
      far = omega (arith, p.short);
      is_best = rw m1 (k ∙ ap₂ max p.is_best (g ∙ ap atom_score (t ∙ ap (take 4) p.is_end)) ∙ next_best n l);
    }

-- no window more
pub passed_all : (l rest : List ℕ) (best : ℕ) → Passed l rest best → length rest < 4 → best ≡ literal_score l
unfolding literal_score
passed_all l rest best p h = let e : length l - length rest - 1 ≡ length l - 4 = omega (arith, p.short, p.far) in p.is_best ∙ ap (λ (n : ℕ). highest n l) e

highest_over : (l : List ℕ) (n a : ℕ) → a ≤ n → atom_score (atom_at a l) ≤ highest n l
unfolding highest
highest_over l zero a h = let z : a ≡ 0 = omega arith in rw z (omega arith)
highest_over l (suc n) a h =
    let s : ℕ = atom_score (atom_at (suc n) l) in
    ⊎_elim (λ (e : a ≡ suc n). rw e (le-max_right (highest n l) s))
    (λ (g : a < suc n). omega (arith, highest_over l n a (omega arith), le-max_left (highest n l) s)) (eq-or-lt_of_le h)

either : (a b : ℕ) → (max a b ≡ a) ⊎ (max a b ≡ b)
either a b = by (leb a b) refl
  where
    by : (t : Bool) → leb a b ≡ t → (max a b ≡ a) ⊎ (max a b ≡ b)
    by true h = inr (max-eq_right (leb-true a b h))
    by false h = inl (max-eq_left (let g : b < a = leb-false a b h in omega arith))

highest_is : (l : List ℕ) (n : ℕ) → (a : ℕ) × (a ≤ n) × (atom_score (atom_at a l) ≡ highest n l)
unfolding highest
highest_is l zero = (0, omega arith, refl)
highest_is l (suc n) =
    let i : (a : ℕ) × (a ≤ n) × (atom_score (atom_at a l) ≡ highest n l) = highest_is l n in
    ⊎_elim (λ e. (i.0, (let g : i.0 ≤ n = i.1 in omega arith), i.2 ∙ sym e)) (λ e. (suc n, omega arith, sym e))
    (either (highest n l) (atom_score (atom_at (suc n) l)))

-- ---- what the literal's score means

-- a literal of at most four bytes is its only window
pub short_score : (l : List ℕ) → length l ≤ 4 → atom_score l ≡ literal_score l
unfolding literal_score highest
short_score l h = let z : length l - 4 ≡ 0 = omega arith in rw (z, take_all 4 l h)

-- some window scores what the literal scores
pub score_is_some : (l : List ℕ) → (w : List ℕ) × IsAtom w l × (atom_score w ≡ literal_score l)
unfolding literal_score
score_is_some l = by (leb 4 (length l)) refl
  where
    by : (t : Bool) → leb 4 (length l) ≡ t → (w : List ℕ) × IsAtom w l × (atom_score w ≡ literal_score l)
    by true h =
        let i : (a : ℕ) × (a ≤ length l - 4) × (atom_score (atom_at a l) ≡ highest (length l - 4) l) = highest_is l (length l - 4) in
        let g : i.0 ≤ length l - 4 = i.1 in
        let f : 4 ≤ length l = leb-true 4 (length l) h in
        (atom_at i.0 l, inl (i.0, omega arith, refl), i.2)
    by false h = let g : length l < 4 = leb-false 4 (length l) h in (l, inr (g, refl), short_score l (omega arith))

-- and no window scores more
pub score_is_best : (l w : List ℕ) → IsAtom w l → atom_score w ≤ literal_score l
unfolding literal_score
score_is_best l w (inl h) = rw h.2 (highest_over l (length l - 4) h.0 (let g : h.0 + 4 ≤ length l = h.1 in omega arith))
score_is_best l w (inr h) = rw h.1 (let g : length l < 4 = h.0 in omega (arith, short_score l (omega arith)))

-- the computed score is the declared one, and there is one
pub literal_score_lem : (l : List ℕ) → IsScore l (literal_score l)
literal_score_lem l = record { some_atom = score_is_some l; no_better = score_is_best l }

pub score_one : (l : List ℕ) (m n : ℕ) → IsScore l m → IsScore l n → m ≡ n
score_one l m n a b =
    let p = a.some_atom in
    let q = b.some_atom in
    omega (arith, p.2, q.2, a.no_better q.0 q.1, b.no_better p.0 p.1)

-- so no literal scores above 80
pub score_le : (l : List ℕ) → literal_score l ≤ 80
unfolding literal_score
score_le l =
    let i : (a : ℕ) × (a ≤ length l - 4) × (atom_score (atom_at a l) ≡ highest (length l - 4) l) = highest_is l (length l - 4) in
    omega (arith, i.2, atom_le 4 (drop i.0 l))
