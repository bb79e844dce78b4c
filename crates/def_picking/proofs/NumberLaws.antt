-- The literals are counted, and numbered in their order. Assumes nothing.
use mathlib.Core.Path.{◌≡◌, refl, sym, ap, ap₂, ◌∙◌, subst}
use mathlib.Core.Bool.{Bool, true, false, cond}
use mathlib.Core.Logic.{◌⊎◌, inl, inr, ⊎_elim}
use mathlib.Core.List.{List, [], ◌∷◌, ◌++◌, append-nil, append_assoc}
use Prim.Native.Nat.{ℕ, zero, suc, ◌+◌, ◌-◌, ◌*◌, ◌/◌, ◌%◌, ◌≤◌, ◌<◌}
use native.Mathlib.Omega.{arith}
use native.Mathlib.Nat.{zero-mul, mul-zero, suc-mul, mul-add, mul_assoc, mul-one, one-mul, div-eq_of_lt, mod-eq_of_lt, add-div_left, add-mod_left, mod-lt, div-lt_iff_lt-mul}
use native.Mathlib.Numerals.{add-one}
use lib.Dec.{ltb}
use lib.ListN.{length, get_or, length-append, get_or-append}
use lib.Seq.{get_or-append-add}
use borrow.Author.Tests.{ltb-true, ltb-false}
use Rattle.def_meaning.specs.Tokens.{Token, Tokens, Lists, Byte, NotByte, MaskedByte, NotMaskedByte, Jump, Alternatives, nothing, ◌then◌, neither, ◌or◌}
use Rattle.def_picking.specs.Literals.{taken, before, ◌⊗◌, singles, followed, spelt, branched, literals}
use Rattle.def_picking.specs.Numbers.{count_of, count, count_in, prefix_in, prefix_of, prefixed, ending_of, ending, ending_in, literal_at}

-- ---- as many as counted

length_before : (p : List ℕ) (ss : List (List ℕ)) → length (before p ss) ≡ length ss
unfolding before
length_before p [] = refl
length_before p (s ∷ ss) = ap suc (length_before p ss)

length_joined : (ps ss : List (List ℕ)) → length (ps ⊗ ss) ≡ length ps * length ss
unfolding ◌⊗◌
length_joined [] ss = sym (zero-mul (length ss))
length_joined (p ∷ ps) ss =
    let a : length (before p ss ++ ps ⊗ ss) ≡ length (before p ss) + length (ps ⊗ ss) = length-append (before p ss) (ps ⊗ ss) in
    let b = length_before p ss in
    let c = length_joined ps ss in
    let d = suc-mul (length ps) (length ss) in
    omega arith

length_singles : (bs : List ℕ) → length (singles bs) ≡ length bs
unfolding singles
length_singles [] = refl
length_singles (b ∷ bs) = ap suc (length_singles bs)

length_one : (ps : List (List ℕ)) (bs : List ℕ) → length (ps ⊗ singles bs) ≡ length ps * length bs
length_one ps bs = length_joined ps (singles bs) ∙ ap (λ (n : ℕ). length ps * n) (length_singles bs)

mutual
  unfolding followed count

  pub length_followed : (t : Token) (ps : List (List ℕ)) → length (followed t ps) ≡ length ps * count_of t
  length_followed (Byte v) ps = length_one ps (taken (Byte v))
  length_followed (NotByte v) ps = length_one ps (taken (NotByte v))
  length_followed (MaskedByte v m) ps = length_one ps (taken (MaskedByte v m))
  length_followed (NotMaskedByte v m) ps = length_one ps (taken (NotMaskedByte v m))
  length_followed (Jump from to) ps = length_one ps (taken (Jump from to))
  length_followed (Alternatives ls) ps = length_branched ls ps

  pub length_spelt : (ts : Tokens) (ps : List (List ℕ)) → length (spelt ts ps) ≡ length ps * count ts
  length_spelt nothing ps = sym (mul-one (length ps))
  length_spelt (t then ts) ps =
      length_spelt ts (followed t ps) ∙ ap (λ (n : ℕ). n * count ts) (length_followed t ps) ∙ mul_assoc (length ps) (count_of t) (count ts)

  pub length_branched : (ls : Lists) (ps : List (List ℕ)) → length (branched ls ps) ≡ length ps * count_in ls
  length_branched neither ps = sym (mul-zero (length ps))
  length_branched (ts or ls) ps =
      length-append (ps ⊗ spelt ts ([] ∷ [])) (branched ls ps)
      ∙ ap₂ ◌+◌ (length_joined ps (spelt ts ([] ∷ [])) ∙ ap (λ (n : ℕ). length ps * n) (length_spelt ts ([] ∷ []) ∙ one-mul (count ts))) (length_branched ls ps)
      ∙ sym (mul-add (length ps) (count ts) (count_in ls))

-- tokens have as many literals as counted
pub count_literals : (ts : Tokens) → length (literals ts) ≡ count ts
count_literals ts = length_spelt ts ([] ∷ []) ∙ one-mul (count ts)

-- ---- each at its number

pub pos_right : (k m n : ℕ) → k < m * n → 0 < n
pos_right k m zero h = let e : m * 0 ≡ 0 = mul-zero m in absurd (omega arith)
pos_right k m (suc n) h = omega arith

get_d_before : (p : List ℕ) (ss : List (List ℕ)) (j : ℕ) → j < length ss → get_or (before p ss) j [] ≡ p ++ get_or ss j []
unfolding before
get_d_before p [] j h = absurd (omega arith)
get_d_before p (s ∷ ss) zero h = refl
get_d_before p (s ∷ ss) (suc j) h = get_d_before p ss j (omega arith)

lt_or_le : (a b : ℕ) → (a < b) ⊎ (b ≤ a)
lt_or_le a b = go (ltb a b) refl
  where
    go : (t : Bool) → ltb a b ≡ t → (a < b) ⊎ (b ≤ a)
    go true e = inl (ltb-true a b e)
    go false e = inr (ltb-false a b e)

-- the first prefix, and the others
near_joined : (p : List ℕ) (ps ss : List (List ℕ)) (k : ℕ) → k < length ss → get_or (before p ss ++ ps ⊗ ss) k [] ≡ get_or (p ∷ ps) (k / length ss) [] ++ get_or ss (k % length ss) []
near_joined p ps ss k h =
    let l : k < length (before p ss) = omega (arith, length_before p ss) in
    get_or-append (before p ss) (ps ⊗ ss) [] k l ∙ get_d_before p ss k h
    ∙ sym (ap₂ (λ (x y : ℕ). get_or (p ∷ ps) x [] ++ get_or ss y []) (div-eq_of_lt h) (mod-eq_of_lt h))

far_joined : (p : List ℕ) (ps ss : List (List ℕ)) (j : ℕ) → 0 < length ss → get_or (ps ⊗ ss) j [] ≡ get_or ps (j / length ss) [] ++ get_or ss (j % length ss) []
    → get_or (before p ss ++ ps ⊗ ss) (length ss + j) [] ≡ get_or (p ∷ ps) ((length ss + j) / length ss) [] ++ get_or ss ((length ss + j) % length ss) []
far_joined p ps ss j z h =
    ap (λ (x : ℕ). get_or (before p ss ++ ps ⊗ ss) (x + j) []) (sym (length_before p ss)) ∙ get_or-append-add (before p ss) (ps ⊗ ss) j [] ∙ h
    ∙ sym (ap₂ (λ (x y : ℕ). get_or (p ∷ ps) x [] ++ get_or ss y []) (add-div_left j z ∙ add-one (j / length ss)) (add-mod_left (length ss) j))

get_d_joined : (ps ss : List (List ℕ)) (k : ℕ) → k < length ps * length ss → get_or (ps ⊗ ss) k [] ≡ get_or ps (k / length ss) [] ++ get_or ss (k % length ss) []
unfolding ◌⊗◌
get_d_joined [] ss k h = let e : 0 * length ss ≡ 0 = zero-mul (length ss) in absurd (omega arith)
get_d_joined (p ∷ ps) ss k h =
    let e : suc (length ps) * length ss ≡ length ps * length ss + length ss = suc-mul (length ps) (length ss) in
    ⊎_elim (λ (l : k < length ss). near_joined p ps ss k l)
    (λ (l : length ss ≤ k).
    let q : length ss + (k - length ss) ≡ k = omega arith in
    subst (λ (x : ℕ). get_or (before p ss ++ ps ⊗ ss) x [] ≡ get_or (p ∷ ps) (x / length ss) [] ++ get_or ss (x % length ss) []) q
    (far_joined p ps ss (k - length ss) (pos_right k (suc (length ps)) (length ss) h) (get_d_joined ps ss (k - length ss) (omega arith))))
    (lt_or_le k (length ss))

get_d_singles : (bs : List ℕ) (j : ℕ) → j < length bs → get_or (singles bs) j [] ≡ get_or bs j 0 ∷ []
unfolding singles
get_d_singles [] j h = absurd (omega arith)
get_d_singles (b ∷ bs) zero h = refl
get_d_singles (b ∷ bs) (suc j) h = get_d_singles bs j (omega arith)

-- what is known of a literal by its number: its prefix, and what follows that
pub record Numbered (ps all : List (List ℕ)) (k prefix : ℕ) (rest : List ℕ) : Type 0 where
  pub within : prefix < length ps
  pub spelt_so : get_or all k [] ≡ get_or ps prefix [] ++ rest

one_numbered : (ps : List (List ℕ)) (bs : List ℕ) (q : ℕ) → q < length ps * length bs
    → Numbered ps (ps ⊗ singles bs) q (q / length bs) (get_or bs (q % length bs) 0 ∷ [])
one_numbered ps bs q h =
    let z : 0 < length bs = pos_right q (length ps) (length bs) h in
    let e = length_singles bs in
    record {
      within = (div-lt_iff_lt-mul z).1 h;
      spelt_so =
          get_d_joined ps (singles bs) q (subst (λ (n : ℕ). q < length ps * n) (sym e) h)
          ∙ ap₂ (λ (x : ℕ) (l : List ℕ). get_or ps x [] ++ l) (ap (λ (n : ℕ). q / n) e)
          (ap (λ (n : ℕ). get_or (singles bs) (q % n) []) e ∙ get_d_singles bs (q % length bs) (mod-lt q z));
    }

-- a literal of the literals of ts
alone : (ts : Tokens) (j : ℕ) (p : ℕ) (l : List ℕ) → Numbered ([] ∷ []) (literals ts) j p l → get_or (literals ts) j [] ≡ l
alone ts j zero l h = h.spelt_so
alone ts j (suc p) l h = absurd (let g = h.within in omega arith)

-- a branch's literals after p prefixes
branch_numbered : (ts : Tokens) (ps : List (List ℕ)) (q : ℕ) (l : List ℕ) → q < length ps * count ts → get_or (literals ts) (q % count ts) [] ≡ l
    → Numbered ps (ps ⊗ literals ts) q (q / count ts) l
branch_numbered ts ps q l h e =
    let c = count_literals ts in
    record {
      within = (div-lt_iff_lt-mul (pos_right q (length ps) (count ts) h)).1 h;
      spelt_so =
          get_d_joined ps (literals ts) q (subst (λ (n : ℕ). q < length ps * n) (sym c) h)
          ∙ ap₂ (λ (x : ℕ) (m : List ℕ). get_or ps x [] ++ m) (ap (λ (n : ℕ). q / n) c) (ap (λ (n : ℕ). get_or (literals ts) (q % n) []) c ∙ e);
    }

-- branches: in the first, or in a later one
first_branch : (ts : Tokens) (ls : Lists) (ps : List (List ℕ)) (q : ℕ) (l : List ℕ) → q < length ps * count ts
    → get_or (literals ts) (q % count ts) [] ≡ l → Numbered ps (ps ⊗ literals ts ++ branched ls ps) q (q / count ts) l
first_branch ts ls ps q l h e =
    let r = branch_numbered ts ps q l h e in
    let g : q < length (ps ⊗ literals ts) = subst (λ (n : ℕ). q < n) (sym (length_joined ps (literals ts) ∙ ap (λ (n : ℕ). length ps * n) (count_literals ts))) h in
    record { within = r.within; spelt_so = get_or-append (ps ⊗ literals ts) (branched ls ps) [] q g ∙ r.spelt_so }

later_branch : (ts : Tokens) (ls : Lists) (ps : List (List ℕ)) (q p : ℕ) (l : List ℕ) → length ps * count ts ≤ q
    → Numbered ps (branched ls ps) (q - length ps * count ts) p l → Numbered ps (ps ⊗ literals ts ++ branched ls ps) q p l
later_branch ts ls ps q p l h r =
    let c : length (ps ⊗ literals ts) ≡ length ps * count ts = length_joined ps (literals ts) ∙ ap (λ (n : ℕ). length ps * n) (count_literals ts) in
    let e : q ≡ length (ps ⊗ literals ts) + (q - length ps * count ts) = omega arith in
    record {
      within = r.within;
      spelt_so =
          ap (λ (x : ℕ). get_or (ps ⊗ literals ts ++ branched ls ps) x []) e
          ∙ get_or-append-add (ps ⊗ literals ts) (branched ls ps) (q - length ps * count ts) [] ∙ r.spelt_so;
    }

-- a token after prefixes, then tokens after those
after_token : (t : Token) (ts : Tokens) (ps : List (List ℕ)) (k q p : ℕ) (a b : List ℕ) → Numbered (followed t ps) (spelt ts (followed t ps)) k q b
    → Numbered ps (followed t ps) q p a → Numbered ps (spelt ts (followed t ps)) k p (a ++ b)
after_token t ts ps k q p a b h g =
    record {
      within = g.within;
      spelt_so = h.spelt_so ∙ ap (λ (x : List ℕ). x ++ b) g.spelt_so ∙ append_assoc (get_or ps p []) a b;
    }

below_one : (q m n : ℕ) → q < m * n → q % n < 1 * n
below_one q m n h = let l : q % n < n = mod-lt q (pos_right q m n h) in let e : 1 * n ≡ n = one-mul n in omega arith

-- which of the two
branch_cases : (ts : Tokens) (ls : Lists) (ps : List (List ℕ)) (q : ℕ)
    → (q < length ps * count ts → Numbered ([] ∷ []) (literals ts) (q % count ts) (prefixed ts 1 (q % count ts)) (ending ts 1 (q % count ts)))
    → (length ps * count ts ≤ q
    → Numbered ps (branched ls ps) (q - length ps * count ts) (prefix_in ls (length ps) (q - length ps * count ts)) (ending_in ls (length ps) (q - length ps * count ts)))
    → Numbered ps (ps ⊗ literals ts ++ branched ls ps) q
    (cond (ltb q (length ps * count ts)) (q / count ts) (prefix_in ls (length ps) (q - length ps * count ts)))
    (cond (ltb q (length ps * count ts)) (ending ts 1 (q % count ts)) (ending_in ls (length ps) (q - length ps * count ts)))
branch_cases ts ls ps q one more = go (ltb q (length ps * count ts)) refl
  where
    go : (t : Bool) → ltb q (length ps * count ts) ≡ t
        → Numbered ps (ps ⊗ literals ts ++ branched ls ps) q (cond t (q / count ts) (prefix_in ls (length ps) (q - length ps * count ts)))
        (cond t (ending ts 1 (q % count ts)) (ending_in ls (length ps) (q - length ps * count ts)))
    go true e =
        let h = ltb-true q (length ps * count ts) e in
        first_branch ts ls ps q (ending ts 1 (q % count ts)) h (alone ts (q % count ts) (prefixed ts 1 (q % count ts)) (ending ts 1 (q % count ts)) (one h))
    go false e =
        let h = ltb-false q (length ps * count ts) e in
        later_branch ts ls ps q (prefix_in ls (length ps) (q - length ps * count ts)) (ending_in ls (length ps) (q - length ps * count ts)) h (more h)

mutual
  unfolding followed count prefix_of prefix_in prefixed ending

  followed_numbered : (t : Token) (ps : List (List ℕ)) (q : ℕ) → q < length ps * count_of t
      → Numbered ps (followed t ps) q (prefix_of t (length ps) q) (ending_of t (length ps) q)
  followed_numbered (Byte v) ps q h = one_numbered ps (taken (Byte v)) q h
  followed_numbered (NotByte v) ps q h = one_numbered ps (taken (NotByte v)) q h
  followed_numbered (MaskedByte v m) ps q h = one_numbered ps (taken (MaskedByte v m)) q h
  followed_numbered (NotMaskedByte v m) ps q h = one_numbered ps (taken (NotMaskedByte v m)) q h
  followed_numbered (Jump from to) ps q h = one_numbered ps (taken (Jump from to)) q h
  followed_numbered (Alternatives ls) ps q h = branched_numbered ls ps q h

  pub spelt_numbered : (ts : Tokens) (ps : List (List ℕ)) (k : ℕ) → k < length ps * count ts
      → Numbered ps (spelt ts ps) k (prefixed ts (length ps) k) (ending ts (length ps) k)
  spelt_numbered nothing ps k h =
      record { within = (let e : length ps * 1 ≡ length ps = mul-one (length ps) in omega arith); spelt_so = sym (append-nil (get_or ps k [])) }
  spelt_numbered (t then ts) ps k h =
      let n = length_followed t ps in
      let g : k < length (followed t ps) * count ts = subst (λ (x : ℕ). k < x * count ts) (sym n) (subst (λ (x : ℕ). k < x) (sym (mul_assoc (length ps) (count_of t) (count ts))) h) in
      let r =
      subst (λ (x : ℕ). Numbered (followed t ps) (spelt ts (followed t ps)) k (prefixed ts x k) (ending ts x k)) n (spelt_numbered ts (followed t ps) k g) in
      after_token t ts ps k (prefixed ts (length ps * count_of t) k) (prefix_of t (length ps) (prefixed ts (length ps * count_of t) k))
      (ending_of t (length ps) (prefixed ts (length ps * count_of t) k)) (ending ts (length ps * count_of t) k) r
      (followed_numbered t ps (prefixed ts (length ps * count_of t) k) (subst (λ (x : ℕ). prefixed ts (length ps * count_of t) k < x) n r.within))

  branched_numbered : (ls : Lists) (ps : List (List ℕ)) (q : ℕ) → q < length ps * count_in ls
      → Numbered ps (branched ls ps) q (prefix_in ls (length ps) q) (ending_in ls (length ps) q)
  branched_numbered neither ps q h = let e : length ps * 0 ≡ 0 = mul-zero (length ps) in absurd (omega arith)
  branched_numbered (ts or ls) ps q h =
      let e = mul-add (length ps) (count ts) (count_in ls) in
      branch_cases ts ls ps q
      (λ g. spelt_numbered ts ([] ∷ []) (q % count ts) (below_one q (length ps) (count ts) g))
      (λ g. branched_numbered ls ps (q - length ps * count ts) (omega arith))

-- literal number k is the k-th of the literals
pub literal_numbered : (ts : Tokens) (k : ℕ) → k < count ts → get_or (literals ts) k [] ≡ literal_at ts k
literal_numbered ts k h =
    let g : k < 1 * count ts = (let e : 1 * count ts ≡ count ts = one-mul (count ts) in omega arith) in
    alone ts k (prefixed ts 1 k) (ending ts 1 k) (spelt_numbered ts ([] ∷ []) k g)
