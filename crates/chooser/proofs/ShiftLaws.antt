-- A winner in a run, as one in all words; and the winner of two. Assumes nothing.
use Rattle.std.proofs.Common.{◌≡◌, refl, sym, ap, ap₂, ◌∙◌, List, [], ◌∷◌, ℕ, zero, suc, ◌+◌, ◌-◌, ◌≤◌, ◌<◌, min, arith, ltb, eqb, length, take, drop, Option, Some, drop-drop, lt-ltb, le-ltb, ne_eqb, eq-eqb}
use Rattle.std.proofs.Math.Seq.{take-nil}
use Rattle.def_meaning.specs.Tokens.{Tokens}
use Rattle.def_picking.specs.Literals.{literals}
use Rattle.def_picking.specs.Candidates.{least, beats, chosen}
use Rattle.entries.specs.Words.{tokens_in}
use Rattle.picks.specs.declared.Pick.{Pick}
use Rattle.picks.specs.Ranks.{pick_says}
use Rattle.chooser.specs.Kept.{Inside}

drop_front : (a n m : ℕ) (l : List ℕ) → m ≡ n - a → drop a (take n l) ≡ take m (drop a l)
drop_front zero n m l h = ap (λ (x : ℕ). take x l) (let q : n ≡ m = omega arith in q)
drop_front (suc a) zero m l h = ap (λ (x : ℕ). take x (drop (suc a) l)) (let q : 0 ≡ m = omega arith in q)
drop_front (suc a) (suc n) m [] h = sym (take-nil m)
drop_front (suc a) (suc n) m (x ∷ l) h = drop_front a n m l (omega arith)

take_min : (d n m : ℕ) (l : List ℕ) → m ≡ min d n → take d (take n l) ≡ take m l
take_min zero n m l h = ap (λ (x : ℕ). take x l) (let q : 0 ≡ m = omega arith in q)
take_min (suc d) zero m l h = ap (λ (x : ℕ). take x l) (let q : 0 ≡ m = omega arith in q)
take_min (suc d) (suc n) m [] h = sym (take-nil m)
take_min (suc d) (suc n) zero (x ∷ l) h = absurd (omega arith)
take_min (suc d) (suc n) (suc m) (x ∷ l) h = ap (λ (r : List ℕ). x ∷ r) (take_min d n m l (omega arith))

-- where nothing is taken, from where does not matter
from_either : (x s a : ℕ) (l : List ℕ) → (0 < x → s ≡ a) → take x (drop s l) ≡ take x (drop a l)
from_either zero s a l h = refl
from_either (suc x) s a l h = ap (λ (y : ℕ). take (suc x) (drop y l)) (h (omega arith))

min_less : (a b n : ℕ) → min b n - a ≡ min (b - a) (n - a)
min_less a b n = omega arith

less_min : (a e : ℕ) → e - min a e ≡ e - a
less_min a e = omega arith

less_some : (a e s : ℕ) → s ≡ min a e → 0 < e - s → s ≡ a
less_some a e s q h = omega arith

-- cut to a run of n words, and counted from the front of all
pub shifted_words : (ws : List ℕ) (from n a b e s : ℕ) → e ≡ min b n → s ≡ min a e
    → take (from + e - (from + s)) (drop (from + s) ws) ≡ take (b - a) (drop a (take n (drop from ws)))
shifted_words ws from n a b e s p q =
    let same : from + e - (from + s) ≡ e - s = omega arith in
    let cut : e - s ≡ min (b - a) (n - a) = ap (λ (x : ℕ). e - x) q ∙ less_min a e ∙ ap (λ (x : ℕ). x - a) p ∙ min_less a b n in
    ap₂ (λ (x : ℕ) (l : List ℕ). take x l) same (sym (drop-drop s from ws)) ∙ from_either (e - s) s a (drop from ws) (less_some a e s q)
    ∙ sym (ap (take (b - a)) (drop_front a n (n - a) (drop from ws) refl) ∙ take_min (b - a) (n - a) (e - s) (drop a (drop from ws)) cut)

-- a winner p in a run of n words from `from` on is r in all words
abbrev pub Shifts : Option Pick → ℕ → ℕ → Option Pick → Type 0
Shifts p from n r = ((ws : List ℕ) → from + n ≤ length ws → pick_says ws r ≡ pick_says (take n (drop from ws)) p) × Inside (from + n) r

pub pick_shifted : (p : Pick) (from n e s : ℕ) → e ≡ min p.to n → s ≡ min p.from e → Shifts (Some p) from n (Some (record { from = from + s; to = from + e; rank = p.rank }))
pick_shifted p from n e s g h = (λ ws k. ap (λ (l : List ℕ). chosen p.rank (tokens_in l)) (shifted_words ws from n p.from p.to e s g h), (omega arith, omega arith))

-- a higher rank, a lower one, and lengths where the ranks are equal
module _ (n m : ℕ) (us ts : Tokens) where
  pub higher_wins : m < n → ltb m n ≡ beats n us m ts
  unfolding beats
  higher_wins h = rw (lt-ltb m n h)

  pub lower_loses : n ≤ m → (m ≡ n → ⊥) → eqb m n ≡ beats n us m ts
  unfolding beats
  lower_loses h f = rw (le-ltb m n h, ne_eqb m n f)

  pub equal_ranks : (a b : ℕ) → n ≤ m → m ≡ n → a ≡ least length (literals ts) → b ≡ least length (literals us) → ltb a b ≡ beats n us m ts
  unfolding beats
  equal_ranks a b h e p q = rw (le-ltb m n h, eq-eqb m n e, p, q)
