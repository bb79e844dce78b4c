-- The literals of tokens are exactly the byte strings that the tokens match. Assumes nothing.
use mathlib.Core.Path.{◌≡◌, refl, sym, ap, ◌∙◌, subst}
use mathlib.Core.Bool.{Bool, true, false, not}
use mathlib.Core.Logic.{◌⊎◌, inl, inr, ⊎_elim, ◌↔◌}
use mathlib.Core.List.Memᴰ
use mathlib.Core.List.{List, [], ◌∷◌, ◌++◌, append-nil, append_assoc, Memᴰ}
use Prim.Native.Nat.{ℕ, zero, suc, ◌+◌, ◌/◌, ◌%◌, ◌≤◌, ◌<◌}
use native.Mathlib.Omega.{arith}
use native.Mathlib.Nat.{eq-or-lt_of_le}
use lib.Dec.{eqb}
use borrow.Author.Tests.{eqb-true, eqb-false, eq-eqb, ne_eqb, not-true}
use Rattle.def_meaning.specs.Values.{Bytes}
use Rattle.def_meaning.specs.Tokens.{left, right, all, Token, Tokens, Lists, Byte, NotByte, MaskedByte, NotMaskedByte, Jump, Alternatives, nothing, ◌then◌, neither, ◌or◌, Agrees, Matches, Spans, MatchesOne}
use Rattle.def_meaning.proofs.SoundLaws.{and_left, and_right}
use Rattle.def_meaning.proofs.ValueLaws.{bytes_left_lem, bytes_right}
use Rattle.def_picking.specs.Literals.{kept, passing, bytes_that, taken, is_plain, before, ◌⊗◌, singles, followed, spelt, branched, literals, listable_of, listable, listable_in}

-- split in two, the first of some literals and the second as asked
abbrev pub Split : List (List ℕ) → (List ℕ → Type 0) → List ℕ → Type 0
Split ps asked s = (p : List ℕ) × (q : List ℕ) × (s ≡ p ++ q) × Memᴰ p ps × asked q

-- ---- prefixes before literals

in_before : (p : List ℕ) (ss : List (List ℕ)) (s : List ℕ) → Memᴰ s (before p ss) → (q : List ℕ) × (s ≡ p ++ q) × Memᴰ q ss
unfolding before
in_before p [] s h = absurd (Memᴰ.not-nil h)
in_before p (x ∷ ss) s h = go (λ m. in_before p ss s m) (Memᴰ.cases_cons h)
  where
    go : (Memᴰ s (before p ss) → (q : List ℕ) × (s ≡ p ++ q) × Memᴰ q ss)
        → (s ≡ p ++ x) ⊎ Memᴰ s (before p ss) → (q : List ℕ) × (s ≡ p ++ q) × Memᴰ q (x ∷ ss)
    go below (inl e) = (x, e, Memᴰ.head refl)
    go below (inr m) = let r = below m in (r.0, r.1, Memᴰ.tail r.2)

before_in : (p q : List ℕ) (ss : List (List ℕ)) → Memᴰ q ss → Memᴰ (p ++ q) (before p ss)
unfolding before
before_in p q [] h = absurd (Memᴰ.not-nil h)
before_in p q (x ∷ ss) h = go (λ m. before_in p q ss m) (Memᴰ.cases_cons h)
  where
    go : (Memᴰ q ss → Memᴰ (p ++ q) (before p ss)) → (q ≡ x) ⊎ Memᴰ q ss → Memᴰ (p ++ q) ((p ++ x) ∷ before p ss)
    go below (inl e) = Memᴰ.head (ap (λ (y : List ℕ). p ++ y) e)
    go below (inr m) = Memᴰ.tail (below m)

pub in_joined : (ps ss : List (List ℕ)) (s : List ℕ) → Memᴰ s (ps ⊗ ss) → Split ps (λ q. Memᴰ q ss) s
unfolding ◌⊗◌
in_joined [] ss s h = absurd (Memᴰ.not-nil h)
in_joined (p ∷ ps) ss s h = go (λ m. in_joined ps ss s m) (Memᴰ.append_cases (before p ss) h)
  where
    go : (Memᴰ s (ps ⊗ ss) → Split ps (λ q. Memᴰ q ss) s)
        → Memᴰ s (before p ss) ⊎ Memᴰ s (ps ⊗ ss) → Split (p ∷ ps) (λ q. Memᴰ q ss) s
    go below (inl m) = let r = in_before p ss s m in (p, r.0, r.1, Memᴰ.head refl, r.2)
    go below (inr m) = let r = below m in (r.0, r.1, r.2, Memᴰ.tail r.3, r.4)

joined_in : (ps ss : List (List ℕ)) (p q : List ℕ) → Memᴰ p ps → Memᴰ q ss → Memᴰ (p ++ q) (ps ⊗ ss)
unfolding ◌⊗◌
joined_in [] ss p q h m = absurd (Memᴰ.not-nil h)
joined_in (x ∷ ps) ss p q h m = go (λ k. joined_in ps ss p q k m) (Memᴰ.cases_cons h)
  where
    go : (Memᴰ p ps → Memᴰ (p ++ q) (ps ⊗ ss)) → (p ≡ x) ⊎ Memᴰ p ps → Memᴰ (p ++ q) (before x ss ++ ps ⊗ ss)
    go below (inl e) =
        Memᴰ.cast (ap (λ (y : List ℕ). y ++ q) e) (Memᴰ.append_left (ps ⊗ ss) (before_in x q ss m))
    go below (inr k) = Memᴰ.append_right (before x ss) (below k)

pub in_singles : (bs s : List ℕ) → Memᴰ s (singles bs) → (b : ℕ) × (s ≡ b ∷ []) × Memᴰ b bs
unfolding singles
in_singles [] s h = absurd (Memᴰ.not-nil h)
in_singles (x ∷ bs) s h = go (λ m. in_singles bs s m) (Memᴰ.cases_cons h)
  where
    go : (Memᴰ s (singles bs) → (b : ℕ) × (s ≡ b ∷ []) × Memᴰ b bs)
        → (s ≡ x ∷ []) ⊎ Memᴰ s (singles bs) → (b : ℕ) × (s ≡ b ∷ []) × Memᴰ b (x ∷ bs)
    go below (inl e) = (x, e, Memᴰ.head refl)
    go below (inr m) = let r = below m in (r.0, r.1, Memᴰ.tail r.2)

pub singles_in : (bs : List ℕ) (b : ℕ) → Memᴰ b bs → Memᴰ (b ∷ []) (singles bs)
unfolding singles
singles_in [] b h = absurd (Memᴰ.not-nil h)
singles_in (x ∷ bs) b h = go (λ m. singles_in bs b m) (Memᴰ.cases_cons h)
  where
    go : (Memᴰ b bs → Memᴰ (b ∷ []) (singles bs)) → (b ≡ x) ⊎ Memᴰ b bs → Memᴰ (b ∷ []) ((x ∷ []) ∷ singles bs)
    go below (inl e) = Memᴰ.head (ap (λ (y : ℕ). y ∷ []) e)
    go below (inr m) = Memᴰ.tail (below m)

-- ---- the bytes that pass a test

in_passing : (p : ℕ → Bool) (v n b : ℕ) → Memᴰ b (passing p v n) → p b ≡ true
unfolding passing kept
in_passing p v zero b h = absurd (Memᴰ.not-nil h)
in_passing p v (suc n) b h = go (p v) refl (λ m. in_passing p (v + 1) n b m) h
  where
    go : (t : Bool) → p v ≡ t → (Memᴰ b (passing p (v + 1) n) → p b ≡ true) → Memᴰ b (kept t v (passing p (v + 1) n)) → p b ≡ true
    go true e below m = ⊎_elim (λ (q : b ≡ v). ap p q ∙ e) below (Memᴰ.cases_cons m)
    go false e below m = below m

passing_in : (p : ℕ → Bool) (v n b : ℕ) → v ≤ b → b < v + n → p b ≡ true → Memᴰ b (passing p v n)
unfolding passing kept
passing_in p v zero b l g e = absurd (omega arith)
passing_in p v (suc n) b l g e =
    ⊎_elim (λ (q : v ≡ b). at (p v) (ap p q ∙ e) (sym q)) (λ (k : v < b). past (p v) (passing_in p (v + 1) n b (omega arith) (omega arith) e)) (eq-or-lt_of_le l)
  where
    at : (t : Bool) → t ≡ true → b ≡ v → Memᴰ b (kept t v (passing p (v + 1) n))
    at true f q = Memᴰ.head q
    at false f q = absurd (let z : ◌≡◌ {A = ℕ} 0 1 = cc in omega arith)

    past : (t : Bool) → Memᴰ b (passing p (v + 1) n) → Memᴰ b (kept t v (passing p (v + 1) n))
    past true m = Memᴰ.tail m
    past false m = m

-- ---- what one token takes

differs : (a b : ℕ) → not (eqb a b) ≡ true → a ≡ b → ⊥
differs a b e = eqb-false a b (not-true (eqb a b) e)

different : (a b : ℕ) → (a ≡ b → ⊥) → not (eqb a b) ≡ true
different a b h = ap not (ne_eqb a b h)

taken_matches : (t : Token) (b : ℕ) → Memᴰ b (taken t) → Matches t (b ∷ [])
unfolding taken Matches Agrees
taken_matches (Byte v) b h = (b, refl, Memᴰ.eq_of_singleton h)
taken_matches (NotByte v) b h = (b, refl, differs b v (in_passing _ 0 256 b h))
taken_matches (MaskedByte v left) b h = (b, refl, eqb-true (b % 16) v (in_passing _ 0 256 b h))
taken_matches (MaskedByte v right) b h = (b, refl, eqb-true (b / 16) v (in_passing _ 0 256 b h))
taken_matches (MaskedByte v all) b h = absurd (Memᴰ.not-nil h)
taken_matches (NotMaskedByte v left) b h = (b, refl, differs (b % 16) v (in_passing _ 0 256 b h))
taken_matches (NotMaskedByte v right) b h = (b, refl, differs (b / 16) v (in_passing _ 0 256 b h))
taken_matches (NotMaskedByte v all) b h = absurd (Memᴰ.not-nil h)
taken_matches (Jump from to) b h = absurd (Memᴰ.not-nil h)
taken_matches (Alternatives ls) b h = absurd (Memᴰ.not-nil h)

-- the one byte that a byte or a class matches is among those it takes
abbrev Among : Token → List ℕ → Type 0
Among t s = (b : ℕ) × (s ≡ b ∷ []) × Memᴰ b (taken t)

head_byte : (s : List ℕ) (b : ℕ) → s ≡ b ∷ [] → Bytes s → b < 256
unfolding Bytes
head_byte [] b e h = absurd (let z : ◌≡◌ {A = ℕ} 0 1 = cc in omega arith)
head_byte (x ∷ s) b e h = let q : x ≡ b = cc in omega (arith, h.0)

through : (p : ℕ → Bool) (s : List ℕ) (b : ℕ) → s ≡ b ∷ [] → Bytes s → p b ≡ true → Memᴰ b (bytes_that p)
through p s b e h q = passing_in p 0 256 b (omega arith) (let l : b < 256 = head_byte s b e h in omega arith) q

matches_taken : (t : Token) (s : List ℕ) → is_plain t ≡ true → Bytes s → Matches t s → Among t s
unfolding taken Matches Agrees is_plain
matches_taken (Byte v) s k h (b, e, m) = (b, e, Memᴰ.head m)
matches_taken (NotByte v) s k h (b, e, m) = (b, e, through _ s b e h (different b v m))
matches_taken (MaskedByte v left) s k h (b, e, m) = (b, e, through _ s b e h (eq-eqb (b % 16) v m))
matches_taken (MaskedByte v right) s k h (b, e, m) = (b, e, through _ s b e h (eq-eqb (b / 16) v m))
matches_taken (MaskedByte v all) s k h m = absurd (let z : ◌≡◌ {A = ℕ} 0 1 = cc in omega arith)
matches_taken (NotMaskedByte v left) s k h (b, e, m) = (b, e, through _ s b e h (different (b % 16) v m))
matches_taken (NotMaskedByte v right) s k h (b, e, m) = (b, e, through _ s b e h (different (b / 16) v m))
matches_taken (NotMaskedByte v all) s k h m = absurd (let z : ◌≡◌ {A = ℕ} 0 1 = cc in omega arith)
matches_taken (Jump from to) s k h m = absurd (let z : ◌≡◌ {A = ℕ} 0 1 = cc in omega arith)
matches_taken (Alternatives ls) s k h m = absurd (let z : ◌≡◌ {A = ℕ} 0 1 = cc in omega arith)

-- ---- every literal is matched

one_matches : (t : Token) (ps : List (List ℕ)) (s : List ℕ) → Memᴰ s (ps ⊗ singles (taken t)) → Split ps (Matches t) s
one_matches t ps s h =
    let r = in_joined ps (singles (taken t)) s h in
    let u = in_singles (taken t) r.1 r.4 in
    (r.0, r.1, r.2, r.3, subst (Matches t) (sym u.1) (taken_matches t u.0 u.2))

-- a piece after nothing is the whole
whole : (asked : List ℕ → Type 0) (s : List ℕ) → Split ([] ∷ []) asked s → asked s
whole asked s (p, q, e, m, h) = subst asked (sym (e ∙ ap (λ (x : List ℕ). x ++ q) (Memᴰ.eq_of_singleton m))) h

mutual
  unfolding followed Matches

  followed_matches : (t : Token) (ps : List (List ℕ)) (s : List ℕ) → Memᴰ s (followed t ps) → Split ps (λ q. Matches t q) s
  followed_matches (Byte v) ps s h = one_matches (Byte v) ps s h
  followed_matches (NotByte v) ps s h = one_matches (NotByte v) ps s h
  followed_matches (MaskedByte v m) ps s h = one_matches (MaskedByte v m) ps s h
  followed_matches (NotMaskedByte v m) ps s h = one_matches (NotMaskedByte v m) ps s h
  followed_matches (Jump from to) ps s h = one_matches (Jump from to) ps s h
  followed_matches (Alternatives ls) ps s h = branched_matches ls ps s h

  pub spelt_spans : (ts : Tokens) (ps : List (List ℕ)) (s : List ℕ) → Memᴰ s (spelt ts ps) → Split ps (λ q. Spans ts q) s
  spelt_spans nothing ps s h = (s, [], sym (append-nil s), h, refl)
  spelt_spans (t then ts) ps s h =
      let r = spelt_spans ts (followed t ps) s h in
      let u = followed_matches t ps r.0 r.3 in
      (u.0, u.1 ++ r.1, r.2 ∙ ap (λ (x : List ℕ). x ++ r.1) u.2 ∙ append_assoc u.0 u.1 r.1, u.3, (u.1, r.1, refl, u.4, r.4))

  branched_matches : (ls : Lists) (ps : List (List ℕ)) (s : List ℕ) → Memᴰ s (branched ls ps) → Split ps (λ q. MatchesOne ls q) s
  branched_matches neither ps s h = absurd (Memᴰ.not-nil h)
  branched_matches (ts or ls) ps s h =
      ⊎_elim
      (λ (m : Memᴰ s (ps ⊗ spelt ts ([] ∷ []))).
      let r = in_joined ps (spelt ts ([] ∷ [])) s m in
      (r.0, r.1, r.2, r.3, inl (whole (λ q. Spans ts q) r.1 (spelt_spans ts ([] ∷ []) r.1 r.4))))
      (λ (m : Memᴰ s (branched ls ps)).
      let r = branched_matches ls ps s m in
      (r.0, r.1, r.2, r.3, inr r.4))
      (Memᴰ.append_cases (ps ⊗ spelt ts ([] ∷ [])) h)

-- ---- and everything matched is a literal

matches_one_lem : (t : Token) (ps : List (List ℕ)) (p q : List ℕ) → is_plain t ≡ true → Bytes q → Memᴰ p ps → Matches t q → Memᴰ (p ++ q) (ps ⊗ singles (taken t))
matches_one_lem t ps p q k h m g =
    let u = matches_taken t q k h g in
    joined_in ps (singles (taken t)) p q m (Memᴰ.cast u.1 (singles_in (taken t) u.0 u.2))

mutual
  unfolding followed Matches listable is_plain

  matches_followed : (t : Token) (ps : List (List ℕ)) (p q : List ℕ) → listable_of t ≡ true → Bytes q → Memᴰ p ps → Matches t q → Memᴰ (p ++ q) (followed t ps)
  matches_followed (Byte v) ps p q k h m g = matches_one_lem (Byte v) ps p q k h m g
  matches_followed (NotByte v) ps p q k h m g = matches_one_lem (NotByte v) ps p q k h m g
  matches_followed (MaskedByte v m) ps p q k h i g = matches_one_lem (MaskedByte v m) ps p q k h i g
  matches_followed (NotMaskedByte v m) ps p q k h i g = matches_one_lem (NotMaskedByte v m) ps p q k h i g
  matches_followed (Jump from to) ps p q k h m g = absurd (let z : ◌≡◌ {A = ℕ} 0 1 = cc in omega arith)
  matches_followed (Alternatives ls) ps p q k h m g = matches_branched ls ps p q k h m g

  pub spans_spelt : (ts : Tokens) (ps : List (List ℕ)) (p q : List ℕ) → listable ts ≡ true → Bytes q → Memᴰ p ps → Spans ts q → Memᴰ (p ++ q) (spelt ts ps)
  spans_spelt nothing ps p q k h m g = Memᴰ.cast (ap (λ (x : List ℕ). p ++ x) g ∙ append-nil p) m
  spans_spelt (t then ts) ps p q k h m g =
      let a = g.0 in
      let b = g.1 in
      let h' : Bytes (a ++ b) = subst Bytes g.2 h in
      let n = matches_followed t ps p a (and_left (listable_of t) (listable ts) k) (bytes_left_lem a b h') m g.3 in
      Memᴰ.cast (ap (λ (x : List ℕ). p ++ x) g.2 ∙ sym (append_assoc p a b))
      (spans_spelt ts (followed t ps) (p ++ a) b (and_right (listable_of t) (listable ts) k) (bytes_right a b h') n g.4)

  matches_branched : (ls : Lists) (ps : List (List ℕ)) (p q : List ℕ) → listable_in ls ≡ true → Bytes q → Memᴰ p ps → MatchesOne ls q → Memᴰ (p ++ q) (branched ls ps)
  matches_branched neither ps p q k h m g = absurd g
  matches_branched (ts or ls) ps p q k h m g =
      ⊎_elim
      (λ (i : Spans ts q).
      Memᴰ.append_left (branched ls ps)
      (joined_in ps (spelt ts ([] ∷ [])) p q m
      (spans_spelt ts ([] ∷ []) [] q (and_left (listable ts) (listable_in ls) k) h (Memᴰ.head refl) i)))
      (λ (i : MatchesOne ls q).
      Memᴰ.append_right (ps ⊗ spelt ts ([] ∷ [])) (matches_branched ls ps p q (and_right (listable ts) (listable_in ls) k) h m i))
      g

-- the literals of tokens without `??` and jumps are the byte strings that they match, and no others
pub literals_are_spans : (ts : Tokens) (s : List ℕ) → listable ts ≡ true → Bytes s → Memᴰ s (literals ts) ↔ Spans ts s
literals_are_spans ts s k h = (
  λ (m : Memᴰ s (literals ts)). whole (λ q. Spans ts q) s (spelt_spans ts ([] ∷ []) s m),
  λ (g : Spans ts s). spans_spelt ts ([] ∷ []) [] s k h (Memᴰ.head refl) g,
)
