-- A test whether bytes are a span of tokens, so that examples can be computed. Nothing here has to be believed:
-- `tested` says that the test holds exactly for the spans. Assumes nothing.
use mathlib.Core.Path.{◌≡◌, refl, sym, ap, ◌∙◌, subst}
use mathlib.Core.Bool.{Bool, true, false, not, ◌&&◌, ◌||◌}
use mathlib.Core.Logic.{◌⊎◌, inl, inr, ⊎_elim}
use mathlib.Core.Option.{Option, none, some}
use mathlib.Core.List.{List, [], ◌∷◌, ◌++◌, append-nil, append_assoc}
use Prim.Native.Nat.{ℕ, zero, suc, ◌+◌, ◌/◌, ◌%◌}
use native.Mathlib.Omega.{arith}
use lib.Dec.{eqb, leb}
use lib.ListN.{length}
use borrow.Author.Tests.{leb-true, le-leb, eqb-true, eq-eqb}
use Rattle.def_meaning.specs.Tokens.{Mask, left, right, all, Token, Tokens, Lists, Byte, NotByte, MaskedByte, NotMaskedByte, Jump, Alternatives, nothing, ◌then◌, neither, ◌or◌, Agrees, One, Within, Matches, Spans, MatchesOne}
use Rattle.def_meaning.proofs.SoundLaws.{false_true}

-- what is left of a window goes on to k
abbrev pub Rest : Type 0
Rest = List ℕ → Bool

unfoldable pub agrees : Mask → ℕ → ℕ → Bool
agrees left v b = eqb (b % 16) v
agrees right v b = eqb (b / 16) v
agrees all v b = true

unfoldable pub within : ℕ → Option ℕ → ℕ → Bool
within from none n = leb from n
within from (some to) n = leb from n && leb n to

unfoldable pub one : (ℕ → Bool) → Rest → List ℕ → Bool
one f k [] = false
one f k (b ∷ s) = f b && k s

-- n bytes of the jump are taken already
unfoldable pub jumps : ℕ → Option ℕ → ℕ → Rest → List ℕ → Bool
jumps from to n k [] = within from to n && k []
jumps from to n k (b ∷ s) = (within from to n && k (b ∷ s)) || jumps from to (suc n) k s

unfoldable mutual
  pub matches_of : Token → Rest → List ℕ → Bool
  matches_of (Byte v) k s = one (λ b. eqb b v) k s
  matches_of (NotByte v) k s = one (λ b. not (eqb b v)) k s
  matches_of (MaskedByte v m) k s = one (λ b. agrees m v b) k s
  matches_of (NotMaskedByte v m) k s = one (λ b. not (agrees m v b)) k s
  matches_of (Jump from to) k s = jumps from to zero k s
  matches_of (Alternatives ls) k s = matches_one ls k s

  pub matches : Tokens → Rest → List ℕ → Bool
  matches nothing k s = k s
  matches (t then ts) k s = matches_of t (λ r. matches ts k r) s

  pub matches_one : Lists → Rest → List ℕ → Bool
  matches_one neither k s = false
  matches_one (ts or ls) k s = matches ts k s || matches_one ls k s

unfoldable pub none_left : Rest
none_left [] = true
none_left (b ∷ s) = false

unfoldable pub spanned : Tokens → List ℕ → Bool
unfolding matches none_left one agrees jumps within
spanned ts s = matches ts none_left s

-- the window s is bytes as P wants them, and then what k takes
abbrev Takes : (List ℕ → Type 0) → Rest → List ℕ → Type 0
Takes P k s = (a : List ℕ) × (b : List ℕ) × (s ≡ a ++ b) × P a × (k b ≡ true)

and_two : (a b : Bool) → (a && b) ≡ true → (a ≡ true) × (b ≡ true)
and_two true b h = (refl, h)
and_two false b h = false_true h

or_two : (a b : Bool) → (a || b) ≡ true → (a ≡ true) ⊎ (b ≡ true)
or_two true b h = inl refl
or_two false b h = inr h

or_left : (a b : Bool) → a ≡ true → (a || b) ≡ true
or_left a b h = rw h

or_right : (a b : Bool) → b ≡ true → (a || b) ≡ true
or_right true b h = refl
or_right false b h = h

is_not : (t : Bool) {P : Type 0} → (P → t ≡ true) → not t ≡ true → P → ⊥
is_not true f h p = false_true h
is_not false f h p = false_true (f p)

not_is : (t : Bool) {P : Type 0} → (t ≡ true → P) → (P → ⊥) → not t ≡ true
not_is true f h = absurd (h (f refl))
not_is false f h = refl

agrees_is : (m : Mask) (v b : ℕ) → agrees m v b ≡ true → Agrees m v b
unfolding agrees Agrees
agrees_is left v b h = eqb-true _ _ h
agrees_is right v b h = eqb-true _ _ h
agrees_is all v b h = tt

is_agrees : (m : Mask) (v b : ℕ) → Agrees m v b → agrees m v b ≡ true
unfolding agrees Agrees
is_agrees left v b h = eq-eqb _ _ h
is_agrees right v b h = eq-eqb _ _ h
is_agrees all v b h = refl

within_is : (from : ℕ) (to : Option ℕ) (n : ℕ) → within from to n ≡ true → Within from to n
unfolding within Within
within_is from none n h = leb-true _ _ h
within_is from (some to) n h = let q = and_two (leb from n) (leb n to) h in (leb-true _ _ q.0, leb-true _ _ q.1)

is_within : (from : ℕ) (to : Option ℕ) (n : ℕ) → Within from to n → within from to n ≡ true
unfolding within Within
is_within from none n h = le-leb _ _ h
is_within from (some to) n h = rw (le-leb _ _ h.0, le-leb _ _ h.1)

one_yields : (f : ℕ → Bool) (P : ℕ → Type 0) → ((b : ℕ) → f b ≡ true → P b) → (k : Rest) (s : List ℕ) → one f k s ≡ true → Takes (One P) k s
unfolding one
one_yields f P g k [] h = false_true h
one_yields f P g k (b ∷ s) h = let q = and_two (f b) (k s) h in (b ∷ [], s, refl, (b, refl, g b q.0), q.1)

one_takes : (f : ℕ → Bool) (P : ℕ → Type 0) → ((b : ℕ) → P b → f b ≡ true) → (k : Rest) (s t : List ℕ) → One P s → k t ≡ true → one f k (s ++ t) ≡ true
unfolding one
one_takes f P g k s t (b, e, h) l = rw (e, g b h, l)

jumps_yield : (from : ℕ) (to : Option ℕ) (n : ℕ) (k : Rest) (s : List ℕ) → jumps from to n k s ≡ true → Takes (λ a. Within from to (n + length a)) k s
unfolding jumps
jumps_yield from to n k [] h =
    let q = and_two (within from to n) (k []) h in
    let e : n ≡ n + 0 = omega arith in
    ([], [], refl, subst (Within from to) e (within_is from to n q.0), q.1)
jumps_yield from to n k (b ∷ s) h = ⊎_elim at_once (λ g. later (jumps_yield from to (suc n) k s g)) (or_two (within from to n && k (b ∷ s)) (jumps from to (suc n) k s) h)
  where
    at_once : (within from to n && k (b ∷ s)) ≡ true → Takes (λ a. Within from to (n + length a)) k (b ∷ s)
    at_once g =
        let q = and_two (within from to n) (k (b ∷ s)) g in
        let e : n ≡ n + 0 = omega arith in
        ([], b ∷ s, refl, subst (Within from to) e (within_is from to n q.0), q.1)

    later : Takes (λ a. Within from to (suc n + length a)) k s → Takes (λ a. Within from to (n + length a)) k (b ∷ s)
    later (a, r, e, w, g) =
        let l : suc n + length a ≡ n + suc (length a) = omega arith in
        (b ∷ a, r, ap (λ (x : List ℕ). b ∷ x) e, subst (Within from to) l w, g)

jumps_take : (from : ℕ) (to : Option ℕ) (n : ℕ) (k : Rest) (s t : List ℕ) → Within from to (n + length s) → k t ≡ true → jumps from to n k (s ++ t) ≡ true
unfolding jumps
jumps_take from to n k [] [] w h = let e : n + 0 ≡ n = omega arith in rw (is_within from to n (subst (Within from to) e w), h)
jumps_take from to n k [] (b ∷ t) w h = let e : n + 0 ≡ n = omega arith in rw (is_within from to n (subst (Within from to) e w), h)
jumps_take from to n k (b ∷ s) t w h =
    let l : n + suc (length s) ≡ suc n + length s = omega arith in
    or_right (within from to n && k (b ∷ (s ++ t))) (jumps from to (suc n) k (s ++ t)) (jumps_take from to (suc n) k s t (subst (Within from to) l w) h)

from_none : (from : ℕ) (to : Option ℕ) (k : Rest) (s : List ℕ) → Takes (λ a. Within from to (zero + length a)) k s → Takes (λ a. Within from to (length a)) k s
from_none from to k s (a, b, e, w, h) = let l : zero + length a ≡ length a = omega arith in (a, b, e, subst (Within from to) l w, h)

either : (P Q : List ℕ → Type 0) (k : Rest) (s : List ℕ) (x y : Bool) → (x || y) ≡ true → (x ≡ true → Takes P k s) → (y ≡ true → Takes Q k s) → Takes (λ a. P a ⊎ Q a) k s
either P Q k s true y h f g = let q = f refl in (q.0, q.1, q.2, inl q.3, q.4)
either P Q k s false y h f g = let q = g h in (q.0, q.1, q.2, inr q.3, q.4)

-- what the test takes is a span before what k takes
mutual
  unfolding matches Spans

  yields_of : (t : Token) (k : Rest) (s : List ℕ) → matches_of t k s ≡ true → Takes (Matches t) k s
  yields_of (Byte v) k s h = one_yields (λ b. eqb b v) (λ b. b ≡ v) (λ b g. eqb-true _ _ g) k s h
  yields_of (NotByte v) k s h = one_yields (λ b. not (eqb b v)) (λ b. b ≡ v → ⊥) (λ b g. is_not (eqb b v) (eq-eqb b v) g) k s h
  yields_of (MaskedByte v m) k s h = one_yields (λ b. agrees m v b) (λ b. Agrees m v b) (λ b g. agrees_is m v b g) k s h
  yields_of (NotMaskedByte v m) k s h = one_yields (λ b. not (agrees m v b)) (λ b. Agrees m v b → ⊥) (λ b g. is_not (agrees m v b) (is_agrees m v b) g) k s h
  yields_of (Jump from to) k s h = from_none from to k s (jumps_yield from to zero k s h)
  yields_of (Alternatives ls) k s h = yields_one ls k s h

  yields : (ts : Tokens) (k : Rest) (s : List ℕ) → matches ts k s ≡ true → Takes (Spans ts) k s
  yields nothing k s h = ([], s, refl, refl, h)
  yields (t then ts) k s h =
      let q = yields_of t (λ r. matches ts k r) s h in
      let r = yields ts k q.1 q.4 in
      (q.0 ++ r.0, r.1, q.2 ∙ ap (λ (x : List ℕ). q.0 ++ x) r.2 ∙ sym (append_assoc q.0 r.0 r.1), (q.0, r.0, refl, q.3, r.3), r.4)

  yields_one : (ls : Lists) (k : Rest) (s : List ℕ) → matches_one ls k s ≡ true → Takes (MatchesOne ls) k s
  yields_one neither k s h = false_true h
  yields_one (ts or ls) k s h = either (Spans ts) (MatchesOne ls) k s (matches ts k s) (matches_one ls k s) h (λ g. yields ts k s g) (λ g. yields_one ls k s g)

-- and each span before what k takes is taken
mutual
  unfolding matches Spans

  takes_of : (t : Token) (k : Rest) (a b : List ℕ) → Matches t a → k b ≡ true → matches_of t k (a ++ b) ≡ true
  takes_of (Byte v) k a b h g = one_takes (λ x. eqb x v) (λ x. x ≡ v) (λ x e. eq-eqb _ _ e) k a b h g
  takes_of (NotByte v) k a b h g = one_takes (λ x. not (eqb x v)) (λ x. x ≡ v → ⊥) (λ x e. not_is (eqb x v) (eqb-true x v) e) k a b h g
  takes_of (MaskedByte v m) k a b h g = one_takes (λ x. agrees m v x) (λ x. Agrees m v x) (λ x e. is_agrees m v x e) k a b h g
  takes_of (NotMaskedByte v m) k a b h g = one_takes (λ x. not (agrees m v x)) (λ x. Agrees m v x → ⊥) (λ x e. not_is (agrees m v x) (agrees_is m v x) e) k a b h g
  takes_of (Jump from to) k a b h g = let l : length a ≡ zero + length a = omega arith in jumps_take from to zero k a b (subst (Within from to) l h) g
  takes_of (Alternatives ls) k a b h g = takes_one ls k a b h g

  takes : (ts : Tokens) (k : Rest) (a b : List ℕ) → Spans ts a → k b ≡ true → matches ts k (a ++ b) ≡ true
  takes nothing k a b h g = rw h g
  takes (t then ts) k a b (c, d, e, f, h) g =
      subst (λ (x : List ℕ). matches_of t (λ r. matches ts k r) x ≡ true) (sym (ap (λ (x : List ℕ). x ++ b) e ∙ append_assoc c d b))
      (takes_of t (λ r. matches ts k r) c (d ++ b) f (takes ts k d b h g))

  takes_one : (ls : Lists) (k : Rest) (a b : List ℕ) → MatchesOne ls a → k b ≡ true → matches_one ls k (a ++ b) ≡ true
  takes_one neither k a b h g = absurd h
  takes_one (ts or ls) k a b (inl h) g = or_left (matches ts k (a ++ b)) (matches_one ls k (a ++ b)) (takes ts k a b h g)
  takes_one (ts or ls) k a b (inr h) g = or_right (matches ts k (a ++ b)) (matches_one ls k (a ++ b)) (takes_one ls k a b h g)

all_taken : (b : List ℕ) → none_left b ≡ true → b ≡ []
unfolding none_left
all_taken [] h = refl
all_taken (x ∷ b) h = false_true h

-- the test holds exactly for the spans
pub tested : (ts : Tokens) (s : List ℕ) → spanned ts s ≡ true → Spans ts s
unfolding spanned
tested ts s h =
    let q = yields ts none_left s h in
    subst (Spans ts) (sym (q.2 ∙ ap (λ (x : List ℕ). q.0 ++ x) (all_taken q.1 q.4) ∙ append-nil q.0)) q.3

pub spans_tested : (ts : Tokens) (s : List ℕ) → Spans ts s → spanned ts s ≡ true
unfolding spanned none_left
spans_tested ts s h = subst (λ (x : List ℕ). matches ts none_left x ≡ true) (append-nil s) (takes ts none_left s [] h refl)

pub no_span : (ts : Tokens) (s : List ℕ) → spanned ts s ≡ false → Spans ts s → ⊥
no_span ts s h g = false_true (sym h ∙ spans_tested ts s g)
