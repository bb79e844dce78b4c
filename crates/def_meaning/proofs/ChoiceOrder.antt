-- The list of choices: it has each choice of the program, and only those, and each is sooner than all that follow it.
-- Assumes nothing.
use mathlib.Core.Path.{◌≡◌, refl, sym, ap, subst}
use mathlib.Core.Logic.{◌⊎◌, inl, inr, ⊎_elim}
use mathlib.Core.List.Memᴰ
use mathlib.Core.List.{List, [], ◌∷◌, ◌++◌, map, reverse, reverse-cons, reverse-reverse, Memᴰ}
use Prim.Native.Nat.{ℕ, zero, suc, ◌+◌, ◌-◌, ◌≤◌, ◌<◌}
use native.Mathlib.Omega.{arith}
use native.Mathlib.Nat.{eq-or-lt_of_le}
use Rattle.def_meaning.specs.Programs.{Item, Prog, Branches, one, jump, range, alt, end, ◌▹◌, stop, or}
use Rattle.def_meaning.specs.Choices.{Way, Choice, bytes, first, later, via, Allows, Chooses, AllowsIn, Order, short, long, Earlier, SoonerWay, Sooner, of_lengths, of_branches, in_first, in_later, at_this, further}
use Rattle.def_meaning.specs.Rows.{rising, lengths, via_each, ◌⊠◌, ways, choices, ways_in}

-- membership in a reversed list
mem_reverse : {A : Type 0} {a : A} (l : List A) → Memᴰ a l → Memᴰ a (reverse l)
mem_reverse [] m = absurd (Memᴰ.not-nil m)
mem_reverse {A} {a} (x ∷ l) m = subst (λ (k : List A). Memᴰ a k) (sym (reverse-cons x l)) (⊎_elim (λ e. Memᴰ.append_right (reverse l) (Memᴰ.head e)) (λ n. Memᴰ.append_left (x ∷ []) (mem_reverse l n)) (Memᴰ.cases_cons m))

reverse_mem : {A : Type 0} {a : A} (l : List A) → Memᴰ a (reverse l) → Memᴰ a l
reverse_mem {A} {a} l m = subst (λ (k : List A). Memᴰ a k) (reverse-reverse l) (mem_reverse (reverse l) m)

-- the lengths of a range are those from a to b
rising_mem : (a n k : ℕ) → a ≤ k → k < a + n → Memᴰ k (rising a n)
unfolding rising
rising_mem a zero k h l = absurd (omega arith)
rising_mem a (suc n) k h l = go (rising_mem (suc a) n k) (eq-or-lt_of_le h)
  where
    go : (suc a ≤ k → k < suc a + n → Memᴰ k (rising (suc a) n)) → (a ≡ k) ⊎ (a < k) → Memᴰ k (a ∷ rising (suc a) n)
    go ih (inl e) = Memᴰ.head (sym e)
    go ih (inr g) = Memᴰ.tail (ih g (omega arith))

mem_rising : (a n : ℕ) {k : ℕ} → Memᴰ k (rising a n) → (a ≤ k) × (k < a + n)
unfolding rising
mem_rising a zero m = absurd (Memᴰ.not-nil m)
mem_rising a (suc n) {k} m = go (mem_rising (suc a) n) (Memᴰ.cases_cons m)
  where
    go : (Memᴰ k (rising (suc a) n) → (suc a ≤ k) × (k < suc a + n)) → (k ≡ a) ⊎ Memᴰ k (rising (suc a) n) → (a ≤ k) × (k < a + suc n)
    go ih (inl e) = (omega arith, omega arith)
    go ih (inr q) = let r = ih q in (omega arith, omega arith)

lengths_mem : (o : Order) (a b k : ℕ) → a ≤ k → k ≤ b → Memᴰ k (lengths o a b)
unfolding lengths
lengths_mem short a b k h l = rising_mem a (suc b - a) k h (omega arith)
lengths_mem long a b k h l = mem_reverse (rising a (suc b - a)) (rising_mem a (suc b - a) k h (omega arith))

mem_lengths : (o : Order) (a b : ℕ) {k : ℕ} → Memᴰ k (lengths o a b) → (a ≤ k) × (k ≤ b)
unfolding lengths
mem_lengths short a b m = let q = mem_rising a (suc b - a) m in (omega arith, omega arith)
mem_lengths long a b m = let q = mem_rising a (suc b - a) (reverse_mem (rising a (suc b - a)) m) in (omega arith, omega arith)

-- membership in the choices of two parts
via_mem : (k : Way) {c : Choice} {cs : List Choice} → Memᴰ c cs → Memᴰ (via k c) (via_each k cs)
unfolding via_each
via_mem k (Memᴰ.head e) = Memᴰ.head (ap (via k) e)
via_mem k (Memᴰ.tail m) = Memᴰ.tail (via_mem k m)

mem_via : (k : Way) (cs : List Choice) {x : Choice} → Memᴰ x (via_each k cs) → (c : Choice) × (x ≡ via k c) × Memᴰ c cs
unfolding via_each
mem_via k [] m = absurd (Memᴰ.not-nil m)
mem_via k (c ∷ cs) {x} m = go (mem_via k cs) (Memᴰ.cases_cons m)
  where
    go : (Memᴰ x (via_each k cs) → (d : Choice) × (x ≡ via k d) × Memᴰ d cs) → (x ≡ via k c) ⊎ Memᴰ x (via_each k cs) → (d : Choice) × (x ≡ via k d) × Memᴰ d (c ∷ cs)
    go ih (inl e) = (c, e, Memᴰ.head refl)
    go ih (inr n) = let q = ih n in (q.0, q.1, Memᴰ.tail q.2)

times_mem : {k : Way} {ks : List Way} {cs : List Choice} {c : Choice} → Memᴰ k ks → Memᴰ c cs → Memᴰ (via k c) (ks ⊠ cs)
unfolding ◌⊠◌
times_mem {c = c} (Memᴰ.head {x = x} e) m = Memᴰ.append_left _ (Memᴰ.cast (ap (λ (j : Way). via j c) e) (via_mem x m))
times_mem {cs = cs} (Memᴰ.tail {x = x} n) m = Memᴰ.append_right (via_each x cs) (times_mem n m)

mem_times : (ks : List Way) (cs : List Choice) {x : Choice} → Memᴰ x (ks ⊠ cs) → (k : Way) × (c : Choice) × (x ≡ via k c) × Memᴰ k ks × Memᴰ c cs
unfolding ◌⊠◌
mem_times [] cs m = absurd (Memᴰ.not-nil m)
mem_times (k ∷ ks) cs {x} m = go (mem_times ks cs) (Memᴰ.append_cases (via_each k cs) m)
  where
    go : (Memᴰ x (ks ⊠ cs) → (j : Way) × (c : Choice) × (x ≡ via j c) × Memᴰ j ks × Memᴰ c cs) → Memᴰ x (via_each k cs) ⊎ Memᴰ x (ks ⊠ cs) → (j : Way) × (c : Choice) × (x ≡ via j c) × Memᴰ j (k ∷ ks) × Memᴰ c cs
    go ih (inl n) = let q = mem_via k cs n in (k, q.0, q.1, Memᴰ.head refl, q.2)
    go ih (inr n) = let q = ih n in (q.0, q.1, q.2, Memᴰ.tail q.3, q.4)

-- exactly the choices
module _ (o : Order) where
  mutual
    unfolding Chooses choices

    allows_listed : (i : Item) (k : Way) → Allows i k → Memᴰ k (ways o i)
    allows_listed (one t) k q = Memᴰ.head q
    allows_listed (jump n) k q = Memᴰ.head q
    allows_listed (range a b) k (n, q, h, g) = Memᴰ.cast q (Memᴰ.map bytes (lengths_mem o a b n h g))
    allows_listed (alt bs) k q = allows_listed_in bs k q

    pub chooses_listed : (p : Prog) (c : Choice) → Chooses p c → Memᴰ c (choices o p)
    chooses_listed end c q = Memᴰ.head q
    chooses_listed (i ▹ p) c (k, d, q, f, g) = Memᴰ.cast q (times_mem (allows_listed i k f) (chooses_listed p d g))

    allows_listed_in : (bs : Branches) (k : Way) → AllowsIn bs k → Memᴰ k (ways_in o bs)
    allows_listed_in stop k q = absurd q
    allows_listed_in (or p bs) k (inl (c, q, f)) = Memᴰ.append_left _ (Memᴰ.cast q (Memᴰ.map first (chooses_listed p c f)))
    allows_listed_in (or p bs) k (inr (j, q, f)) = Memᴰ.append_right (map first (choices o p)) (Memᴰ.cast q (Memᴰ.map later (allows_listed_in bs j f)))

  mutual
    unfolding Chooses choices

    listed_allows : (i : Item) (k : Way) → Memᴰ k (ways o i) → Allows i k
    listed_allows (one t) k m = Memᴰ.eq_of_singleton m
    listed_allows (jump n) k m = Memᴰ.eq_of_singleton m
    listed_allows (range a b) k m = let q = Memᴰ.of_map bytes (lengths o a b) m in let r = mem_lengths o a b q.1 in (q.0, sym q.2, r.0, r.1)
    listed_allows (alt bs) k m = listed_allows_in bs k m

    pub listed_chooses : (p : Prog) (c : Choice) → Memᴰ c (choices o p) → Chooses p c
    listed_chooses end c m = Memᴰ.eq_of_singleton m
    listed_chooses (i ▹ p) c m =
        let q = mem_times (ways o i) (choices o p) m in
        (q.0, q.1, q.2, listed_allows i q.0 q.3, listed_chooses p q.1 q.4)

    listed_allows_in : (bs : Branches) (k : Way) → Memᴰ k (ways_in o bs) → AllowsIn bs k
    listed_allows_in stop k m = absurd (Memᴰ.not-nil m)
    listed_allows_in (or p bs) k m =
        ⊎_elim (λ n. let q = Memᴰ.of_map first (choices o p) n in inl (q.0, sym q.2, listed_chooses p q.0 q.1))
        (λ n. let q = Memᴰ.of_map later (ways_in o bs) n in inr (q.0, sym q.2, listed_allows_in bs q.0 q.1))
        (Memᴰ.append_cases (map first (choices o p)) m)

-- a list in order: each is related to all that follow it
abbrev pub Ordered : {A : Type 0} → (A → A → Type 0) → List A → Type 0
Ordered R [] = Unit {0}
Ordered {A} R (x ∷ l) = ((y : A) → Memᴰ y l → R x y) × Ordered R l

ordered_append : {A : Type 0} (R : A → A → Type 0) (k l : List A) → Ordered R k → Ordered R l → ((x y : A) → Memᴰ x k → Memᴰ y l → R x y) → Ordered R (k ++ l)
ordered_append R [] l f g h = g
ordered_append R (x ∷ k) l (f, fs) g h = (
  λ y m. ⊎_elim (λ n. f y n) (λ n. h x y (Memᴰ.head refl) n) (Memᴰ.append_cases k m),
  ordered_append R k l fs g (λ u v m n. h u v (Memᴰ.tail m) n),
)

ordered_map : {A B : Type 0} (R : A → A → Type 0) (S : B → B → Type 0) (f : A → B) (l : List A) → ((x y : A) → R x y → S (f x) (f y)) → Ordered R l → Ordered S (map f l)
ordered_map R S f [] h g = tt
ordered_map R S f (x ∷ l) h (g, gs) = (
  λ y m. let q = Memᴰ.of_map f l m in subst (λ z. S (f x) z) q.2 (h x q.0 (g q.0 q.1)),
  ordered_map R S f l h gs,
)

rising_ordered : (a n : ℕ) → Ordered ◌<◌ (rising a n)
unfolding rising
rising_ordered a zero = tt
rising_ordered a (suc n) = (λ y m. (mem_rising (suc a) n m).0, rising_ordered (suc a) n)

reverse_ordered : {A : Type 0} (R S : A → A → Type 0) → ((x y : A) → R x y → S y x) → (l : List A) → Ordered R l → Ordered S (reverse l)
reverse_ordered R S h [] g = tt
reverse_ordered {A} R S h (x ∷ l) (g, gs) =
    subst (λ (k : List A). Ordered S k) (sym (reverse-cons x l))
    (ordered_append S (reverse l) (x ∷ []) (reverse_ordered R S h l gs) (λ y m. absurd (Memᴰ.not-nil m), tt)
    (λ u v m n. subst (λ z. S u z) (sym (Memᴰ.eq_of_singleton n)) (h x u (g u (reverse_mem l m)))))

lengths_ordered : (o : Order) (a b : ℕ) → Ordered (Earlier o) (lengths o a b)
unfolding lengths
lengths_ordered short a b = rising_ordered a (suc b - a)
lengths_ordered long a b = reverse_ordered ◌<◌ (Earlier long) (λ x y h. h) (rising a (suc b - a)) (rising_ordered a (suc b - a))

module _ (o : Order) where
  via_ordered : (k : Way) (cs : List Choice) → Ordered (Sooner o) cs → Ordered (Sooner o) (via_each k cs)
  unfolding via_each
  via_ordered k [] g = tt
  via_ordered k (c ∷ cs) (g, gs) = (
    λ y m. let q = mem_via k cs m in subst (λ z. Sooner o (via k c) z) (sym q.1) (further (g q.0 q.2)),
    via_ordered k cs gs,
  )

  times_ordered : (ks : List Way) (cs : List Choice) → Ordered (SoonerWay o) ks → Ordered (Sooner o) cs → Ordered (Sooner o) (ks ⊠ cs)
  unfolding ◌⊠◌
  times_ordered [] cs f g = tt
  times_ordered (k ∷ ks) cs (f, fs) g =
      ordered_append (Sooner o) (via_each k cs) (ks ⊠ cs) (via_ordered k cs g) (times_ordered ks cs fs g) (λ x y m n.
      let q = mem_via k cs m in
      let r = mem_times ks cs n in
      subst (λ z. Sooner o z y) (sym q.1) (subst (λ z. Sooner o (via k q.0) z) (sym r.2) (at_this (f r.0 r.3))))

  -- in 01's order
  mutual
    unfolding choices

    ways_ordered : (i : Item) → Ordered (SoonerWay o) (ways o i)
    ways_ordered (one t) = (λ y m. absurd (Memᴰ.not-nil m), tt)
    ways_ordered (jump n) = (λ y m. absurd (Memᴰ.not-nil m), tt)
    ways_ordered (range a b) = ordered_map (Earlier o) (SoonerWay o) bytes (lengths o a b) (λ x y h. of_lengths h) (lengths_ordered o a b)
    ways_ordered (alt bs) = ways_ordered_in bs

    pub choices_ordered : (p : Prog) → Ordered (Sooner o) (choices o p)
    choices_ordered end = (λ y m. absurd (Memᴰ.not-nil m), tt)
    choices_ordered (i ▹ p) = times_ordered (ways o i) (choices o p) (ways_ordered i) (choices_ordered p)

    ways_ordered_in : (bs : Branches) → Ordered (SoonerWay o) (ways_in o bs)
    ways_ordered_in stop = tt
    ways_ordered_in (or p bs) =
        ordered_append (SoonerWay o) (map first (choices o p)) (map later (ways_in o bs))
        (ordered_map (Sooner o) (SoonerWay o) first (choices o p) (λ x y h. in_first h) (choices_ordered p))
        (ordered_map (SoonerWay o) (SoonerWay o) later (ways_in o bs) (λ x y h. in_later h) (ways_ordered_in bs))
        (λ x y m n.
        let q = Memᴰ.of_map first (choices o p) m in
        let r = Memᴰ.of_map later (ways_in o bs) n in
        subst (λ z. SoonerWay o z y) q.2 (subst (λ z. SoonerWay o (first q.0) z) r.2 of_branches))

-- no choice is sooner than itself, and no two are each sooner than the other
earlier_irrefl : (o : Order) (m n : ℕ) → Earlier o m n → m ≡ n → ⊥
earlier_irrefl short m n h e = omega arith
earlier_irrefl long m n h e = omega arith

earlier_asym : (o : Order) (m n : ℕ) → Earlier o m n → Earlier o n m → ⊥
earlier_asym short m n h g = omega arith
earlier_asym long m n h g = omega arith

module _ (o : Order) where
  mutual
    way_irrefl : {j k : Way} → SoonerWay o j k → j ≡ k → ⊥
    way_irrefl (of_lengths {m = m} {n = n} h) e = earlier_irrefl o m n h (cc)
    way_irrefl of_branches e = let z : ◌≡◌ {A = ℕ} 0 1 = cc in omega arith
    way_irrefl (in_first h) e = sooner_irrefl h (cc)
    way_irrefl (in_later h) e = way_irrefl h (cc)

    pub sooner_irrefl : {c d : Choice} → Sooner o c d → c ≡ d → ⊥
    sooner_irrefl (at_this h) e = way_irrefl h (cc)
    sooner_irrefl (further h) e = sooner_irrefl h (cc)

  -- at four ends, of which two and two are equal
  mutual
    way_against : {j k j' k' : Way} → SoonerWay o j k → SoonerWay o j' k' → j' ≡ k → k' ≡ j → ⊥
    way_against (of_lengths {m = m} {n = n} h) (of_lengths {m = m'} {n = n'} g) e f =
        let a : m' ≡ n = cc in
        let b : n' ≡ m = cc in
        earlier_asym o m n h (subst (λ (x : ℕ). Earlier o x m) a (subst (λ (y : ℕ). Earlier o m' y) b g))
    way_against (in_first h) (in_first g) e f = sooner_against h g (cc) (cc)
    way_against (in_later h) (in_later g) e f = way_against h g (cc) (cc)
    way_against (of_lengths h) of_branches e f = cc
    way_against (of_lengths h) (in_first g) e f = cc
    way_against (of_lengths h) (in_later g) e f = cc
    way_against of_branches (of_lengths g) e f = cc
    way_against of_branches of_branches e f = cc
    way_against of_branches (in_first g) e f = cc
    way_against of_branches (in_later g) e f = cc
    way_against (in_first h) (of_lengths g) e f = cc
    way_against (in_first h) of_branches e f = cc
    way_against (in_first h) (in_later g) e f = cc
    way_against (in_later h) (of_lengths g) e f = cc
    way_against (in_later h) of_branches e f = cc
    way_against (in_later h) (in_first g) e f = cc

    sooner_against : {c d c' d' : Choice} → Sooner o c d → Sooner o c' d' → c' ≡ d → d' ≡ c → ⊥
    sooner_against (at_this h) (at_this g) e f = way_against h g (cc) (cc)
    sooner_against (at_this h) (further g) e f = way_irrefl h (cc)
    sooner_against (further h) (at_this g) e f = way_irrefl g (cc)
    sooner_against (further h) (further g) e f = sooner_against h g (cc) (cc)

  pub sooner_asym : {c d : Choice} → Sooner o c d → Sooner o d c → ⊥
  sooner_asym h g = sooner_against h g refl refl
