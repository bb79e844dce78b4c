-- The computed addition of an item is the listed one. Assumes nothing.
use Rattle.std.proofs.Common.{◌≡◌, refl, sym, ap, ◌∙◌, subst, Bool, true, false, cond, ℕ, ◌+◌, ◌≤◌, ◌<◌, arith, leb, leb-true, leb-false, le-leb}
use Rattle.std.proofs.Math.Option.{Option, none, some}
use borrow.Author.Tests.{lt-leb}
use Rattle.def_meaning.specs.Limits.{jump_limit}
use Rattle.def_meaning.specs.Programs.{Item, Prog, one, jump, range, alt, end, ◌▹◌, ◌⧺◌}
use Rattle.def_compiling.specs.Compiling.{jump_of, pair_by, add}
use Rattle.def_promise.specs.Adding.{Adds, enlarges, appends}

-- what is said of an item by its jump
is_jump_lem : (i : Item) (m : ℕ) → jump_of i ≡ some m → i ≡ jump m
unfolding jump_of
is_jump_lem (one t) m h = cc
is_jump_lem (jump n) m h = let z : n ≡ m = cc in ap jump z
is_jump_lem (range a b) m h = cc
is_jump_lem (alt bs) m h = cc

no_jump : (i : Item) (n : ℕ) → jump_of i ≡ none → i ≡ jump n → ⊥
unfolding jump_of
no_jump i n h e = let g : some n ≡ none = sym (ap jump_of e) ∙ h in cc

same_jump : (m n : ℕ) → jump m ≡ jump n → m ≡ n
same_jump m n e = cc

-- a program that ends with an item is not empty
ends : (q : Prog) (i : Item) → end ≡ q ⧺ (i ▹ end) → ⊥
unfolding ◌⧺◌
ends end i e = cc
ends (k ▹ q) i e = cc

only : (q : Prog) (k i : Item) → (k ▹ end) ≡ q ⧺ (i ▹ end) → k ≡ i
unfolding ◌⧺◌
only end k i e = cc
only (l ▹ q) k i e = let z : end ≡ q ⧺ (i ▹ end) = cc in absurd (ends q i z)

-- two items
pair_added : (k i : Item) (a b : Option ℕ) → jump_of k ≡ a → jump_of i ≡ b → Adds (k ▹ end) i (pair_by a b k i)
unfolding pair_by ◌⧺◌
pair_added k i none b h g = appends {p = k ▹ end} (λ q m n e f. absurd (no_jump k m h (only q k (jump m) e)))
pair_added k i (some m) none h g = appends {p = k ▹ end} (λ q x n e f. absurd (no_jump i n g f))
pair_added k i (some m) (some n) h g = go (leb (m + n) jump_limit) refl
  where
    go : (t : Bool) → leb (m + n) jump_limit ≡ t → Adds (k ▹ end) i (cond (leb (m + n) jump_limit) (jump (m + n) ▹ end) (k ▹ i ▹ end))
    go true e =
        subst (λ (x : Prog). Adds (k ▹ end) i x) (ap (λ (t : Bool). cond t (jump (m + n) ▹ end) (k ▹ i ▹ end)) (sym e))
        (subst (λ (x : Item). Adds (x ▹ end) i (jump (m + n) ▹ end)) (sym (is_jump_lem k m h))
        (subst (λ (x : Item). Adds (jump m ▹ end) x (jump (m + n) ▹ end)) (sym (is_jump_lem i n g)) (enlarges end m n (leb-true (m + n) jump_limit e))))
    go false e =
        subst (λ (x : Prog). Adds (k ▹ end) i x) (ap (λ (t : Bool). cond t (jump (m + n) ▹ end) (k ▹ i ▹ end)) (sym e))
        (appends {p = k ▹ end} (λ q x y c d.
        let u = same_jump m x (sym (is_jump_lem k m h) ∙ only q k (jump x) c) in
        let v = same_jump n y (sym (is_jump_lem i n g) ∙ d) in
        let w = leb-false (m + n) jump_limit e in
        omega arith))

-- below a first item
lift : (k : Item) {x y : Prog} {i : Item} → Adds x i y → (x ≡ end → ⊥) → Adds (k ▹ x) i (k ▹ y)
unfolding ◌⧺◌
lift k (enlarges p m n h) g = enlarges (k ▹ p) m n h
lift k (appends {p = p} {i = i} h) g = appends {p = k ▹ p} (λ q m n e f. go q m n e f)
  where
    go : (q : Prog) (m n : ℕ) → (k ▹ p) ≡ q ⧺ (jump m ▹ end) → i ≡ jump n → jump_limit < m + n
    go end m n e f = let z : p ≡ end = cc in absurd (g z)
    go (l ▹ q) m n e f = let z : p ≡ q ⧺ (jump m ▹ end) = cc in h q m n z f

-- the computed addition is such a one,
pub adds : (p : Prog) (i : Item) → Adds p i (add p i)
unfolding add ◌⧺◌
adds end i = appends {p = end} (λ q m n e f. absurd (ends q (jump m) e))
adds (k ▹ end) i = pair_added k i (jump_of k) (jump_of i) refl refl
adds (k ▹ (l ▹ p)) i = lift k (adds (l ▹ p) i) (λ e. cc)

-- and there is no other
enlarged : (p : Prog) (m n : ℕ) → m + n ≤ jump_limit → p ⧺ (jump (m + n) ▹ end) ≡ add (p ⧺ (jump m ▹ end)) (jump n)
unfolding add ◌⧺◌ jump_of pair_by
enlarged end m n h = ap (λ (t : Bool). cond t (jump (m + n) ▹ end) (jump m ▹ jump n ▹ end)) (sym (le-leb (m + n) jump_limit h))
enlarged (k ▹ end) m n h = ap (λ (x : Prog). k ▹ x) (enlarged end m n h)
enlarged (k ▹ (l ▹ p)) m n h = ap (λ (x : Prog). k ▹ x) (enlarged (l ▹ p) m n h)

pair_stays : (k i : Item) (a b : Option ℕ) → jump_of k ≡ a → jump_of i ≡ b → ((m n : ℕ) → k ≡ jump m → i ≡ jump n → jump_limit < m + n) → (k ▹ i ▹ end) ≡ pair_by a b k i
unfolding pair_by
pair_stays k i none b h g c = refl
pair_stays k i (some m) none h g c = refl
pair_stays k i (some m) (some n) h g c = ap (λ (t : Bool). cond t (jump (m + n) ▹ end) (k ▹ i ▹ end)) (sym (lt-leb (m + n) jump_limit (c m n (is_jump_lem k m h) (is_jump_lem i n g))))

appended : (p : Prog) (i : Item) → ((q : Prog) (m n : ℕ) → p ≡ q ⧺ (jump m ▹ end) → i ≡ jump n → jump_limit < m + n) → p ⧺ (i ▹ end) ≡ add p i
unfolding add ◌⧺◌
appended end i c = refl
appended (k ▹ end) i c = pair_stays k i (jump_of k) (jump_of i) refl refl (λ m n e f. c end m n (ap (λ (x : Item). x ▹ end) e) f)
appended (k ▹ (l ▹ p)) i c = ap (λ (x : Prog). k ▹ x) (appended (l ▹ p) i (λ q m n e f. c (k ▹ q) m n (ap (λ (x : Prog). k ▹ x) e) f))

pub adds_one : {p : Prog} {i : Item} {q : Prog} → Adds p i q → q ≡ add p i
adds_one (enlarges p m n h) = enlarged p m n h
adds_one (appends {p = p} {i = i} c) = appended p i c
