-- What the small readers find is spelled as the grammar says. Assumes nothing.
use mathlib.Core.Path.{◌≡◌, refl, ap, subst}
use mathlib.Core.Bool.{Bool, true, false, cond, ◌&&◌}
use mathlib.Core.Logic.{◌⊎◌, inl, inr}
use mathlib.Core.Option.{Option, none, some}
use mathlib.Core.List.{List, [], ◌∷◌}
use Prim.Native.Char.{code}
use Prim.Native.Nat.{ℕ, suc, ◌+◌, ◌*◌, ◌^◌, ◌<◌, ◌≤◌}
use native.Mathlib.Omega.{arith}
use borrow.Author.Tests.{ltb-false, leb-true, eqb-true, eqb-false}
use lib.Dec.{eqb, leb, ltb}
use lib.ListN.{length, drop}
use Rattle.base.specs.declared.Refusal.TheVariants.{NumberTooBig, JumpEmpty, JumpRangeInvalid, JumpTooBigInAlternation}
use Rattle.def_meaning.specs.Limits.{number_limit, inner_jump_limit}
use Rattle.def_meaning.specs.Tokens.{left, right, all, Token, Lists, Byte, NotByte, MaskedByte, NotMaskedByte, Jump, Alternatives}
use Rattle.def_reading.specs.Blanks.{here, skip}
use Rattle.def_reading.specs.Pieces.{Seen, found, absent, refused, up_to, ◌else◌, within, digit, Hex, whole, masked, two_digits, byte_at, one_digit, masked_at, hex_at, hex_token, negated, not_at, decimals, numeral, number_at, Range, between, checked, closed_at, upper_at, dash_at, lower_at, range_at, jump_token, jumped, leaf_at}
use Rattle.def_reading.proofs.PieceLaws.{within_true}
use Rattle.def_grammar.proofs.Spelling.{Language, ◌⨾◌, Spaced, Sign, Marked, HexDigit, Whole, Masked, value, Numeral, Number, From, To, Single, Dashed, Bracketed, Ordered, Bounds, Allowed, NotOne, AsJump, Negatable, SpellsToken}
use Rattle.def_grammar.proofs.Standing.{Stands, stands, seq, change, here_cons, sign_stands, spaced_stands, mark_stands}
use Rattle.def_grammar.proofs.DigitLaws.{digit_sound, digits_split}

-- what a small reader found stands there
unfoldable pub Sound : {A : Type 0} → (A → Language) → List ℕ → ℕ → Seen A → Type 0
Sound P t at (found v s e) = Stands (P v) t at e
Sound P t at absent = Unit {0}
Sound P t at (refused r p) = Unit {0}

pub else_sound : {A : Type 0} (P : A → Language) (t : List ℕ) (at : ℕ) (x y : Seen A) → Sound P t at x → Sound P t at y → Sound P t at (x else y)
unfolding Sound ◌else◌
else_sound P t at (found v s e) y p q = p
else_sound P t at absent y p q = q
else_sound P t at (refused r z) y p q = p

ends : {P : Language} {t : List ℕ} {at e e' : ℕ} → e ≡ e' → Stands P t at e → Stands P t at e'
ends {P = P} {t = t} {at = at} q p = subst (λ (x : ℕ). Stands P t at x) q p

pub nothing_stands : (t : List ℕ) (at : ℕ) → Stands (λ s. s ≡ []) t at at
nothing_stands t at = record { string = []; split = refl; reach = omega arith; spelled = refl }

digit_stands : (t : List ℕ) (at v : ℕ) → digit (here t at) ≡ some v → Stands (HexDigit v) t at (at + 1)
unfolding HexDigit
digit_stands t at v h =
    let d = digit_sound (here t at) v h in
    stands (HexDigit v) t at (at + 1) (here t at ∷ []) (drop (suc at) t) (here_cons t at (here t at) refl d.1) (omega arith) (here t at, refl, d.0)

-- a byte, whole or masked, and its blanks
unfoldable pub SpellsHex : Hex → Language
SpellsHex (whole v) s = Spaced (Whole v) s
SpellsHex (masked v m) s = Spaced (Masked v m) s

two : {P Q : Language} (t : List ℕ) (at : ℕ) → Stands P t at (at + 1) → Stands Q t (at + 1) (at + 1 + 1) → Stands (P ⨾ Q) t at (at + 2)
two t at p q = let e : at + 1 + 1 ≡ at + 2 = omega arith in ends e (seq p q)

byte_sound : (t : List ℕ) (at : ℕ) → Sound SpellsHex t at (byte_at t at)
unfolding Sound byte_at two_digits SpellsHex Whole
byte_sound t at = go (digit (here t at)) (digit (here t (at + 1))) refl refl
  where
    go : (x y : Option ℕ) → digit (here t at) ≡ x → digit (here t (at + 1)) ≡ y → Sound SpellsHex t at (two_digits t at x y)
    go (some h) (some l) d e =
        spaced_stands (Whole (16 * h + l)) t at (at + 2) (change (λ s p. (h, l, refl, p)) (two t at (digit_stands t at h d) (digit_stands t (at + 1) l e)))
    go (some h) none d e = tt
    go none y d e = tt

masked_sound : (t : List ℕ) (at : ℕ) → Sound SpellsHex t at (masked_at t at)
unfolding Sound masked_at one_digit SpellsHex Masked
masked_sound t at = go (eqb (here t at) (code "?")) (eqb (here t (at + 1)) (code "?")) (digit (here t at)) (digit (here t (at + 1))) refl refl refl refl
  where
    go : (a b : Bool) (x y : Option ℕ) → eqb (here t at) (code "?") ≡ a → eqb (here t (at + 1)) (code "?") ≡ b → digit (here t at) ≡ x → digit (here t (at + 1)) ≡ y
        → Sound SpellsHex t at (cond a (cond b (up_to t (masked 0 all) (at + 2)) (one_digit t at left y)) (cond b (one_digit t at right x) absent))
    go true true x y c d e f =
        spaced_stands (Masked 0 all) t at (at + 2)
        (change (λ s p. (refl, p)) (two t at (sign_stands t at (code "?") (eqb-true (here t at) (code "?") c) (omega arith)) (sign_stands t (at + 1) (code "?") (eqb-true (here t (at + 1)) (code "?") d) (omega arith))))
    go true false x (some v) c d e f =
        spaced_stands (Masked v left) t at (at + 2) (change (λ s p. p) (two t at (sign_stands t at (code "?") (eqb-true (here t at) (code "?") c) (omega arith)) (digit_stands t (at + 1) v f)))
    go true false x none c d e f = tt
    go false true (some v) y c d e f =
        spaced_stands (Masked v right) t at (at + 2)
        (change (λ s p. p) (two t at (digit_stands t at v e) (sign_stands t (at + 1) (code "?") (eqb-true (here t (at + 1)) (code "?") d) (omega arith))))
    go false true none y c d e f = tt
    go false false x y c d e f = tt

hex_sound : (t : List ℕ) (at : ℕ) → Sound SpellsHex t at (hex_at t at)
unfolding hex_at
hex_sound t at = else_sound SpellsHex t at (byte_at t at) (masked_at t at) (byte_sound t at) (masked_sound t at)

-- numbers
decimals_some : (c : ℕ) (s : List ℕ) → within (code "0") (code "9") c ≡ true → 0 < decimals (c ∷ s)
unfolding decimals
decimals_some c s h = rw h (omega arith)

pub decimals_here : (t : List ℕ) (at : ℕ) → within (code "0") (code "9") (here t at) ≡ true → 0 < decimals (drop at t)
decimals_here t at h =
    let w = within_true (code "0") (code "9") (here t at) h in
    let p : 0 < here t at = omega arith in
    let d : decimals (drop at t) ≡ decimals (here t at ∷ drop (suc at) t) = ap decimals (here_cons t at (here t at) refl p) in
    let q : 0 < decimals (here t at ∷ drop (suc at) t) = decimals_some (here t at) (drop (suc at) t) h in
    omega arith

numeral_stands : (t : List ℕ) (at : ℕ) → within (code "0") (code "9") (here t at) ≡ true → numeral 0 (drop at t) ≤ number_limit
    → Stands (Numeral (numeral 0 (drop at t))) t at (at + decimals (drop at t))
unfolding Numeral
numeral_stands t at h l =
    let p = digits_split 0 (drop at t) in
    let k : decimals (drop at t) ≡ length p.0 = p.4 in
    let q : 0 < decimals (drop at t) = decimals_here t at h in
    let v : numeral 0 (drop at t) ≡ 0 * 10 ^ length p.0 + value p.0 = p.5 in
    stands (Numeral (numeral 0 (drop at t))) t at (at + decimals (drop at t)) p.0 p.1 p.2 (omega arith) (p.3, omega arith, omega arith, l)

pub number_sound : (t : List ℕ) (at : ℕ) → Sound Number t at (number_at t at)
unfolding Sound number_at Number
number_sound t at = go (within (code "0") (code "9") (here t at)) (leb (numeral 0 (drop at t)) number_limit) refl refl
  where
    go : (a b : Bool) → within (code "0") (code "9") (here t at) ≡ a → leb (numeral 0 (drop at t)) number_limit ≡ b
        → Sound Number t at (cond a (cond b (up_to t (numeral 0 (drop at t)) (at + decimals (drop at t))) (refused NumberTooBig at)) absent)
    go true true d e =
        spaced_stands (Numeral (numeral 0 (drop at t))) t at (at + decimals (drop at t)) (numeral_stands t at d (leb-true (numeral 0 (drop at t)) number_limit e))
    go true false d e = tt
    go false b d e = tt

-- jumps
unfoldable pub SpellsRange : Range → Language
SpellsRange (between from to) s = Bounds from to s

checked_sound : (t : List ℕ) (at from : ℕ) (to : Option ℕ) (x : ℕ) → ((e : ℕ) → Stands (Marked (code "]")) t x e → Stands (Bracketed from to) t at e) → here t x ≡ code "]"
    → Sound SpellsRange t at (checked t at from to (x + 1))
unfolding Sound checked SpellsRange Bounds Ordered
checked_sound t at from none x k h = change (λ s p. (tt, p)) (k (skip t (x + 1)) (mark_stands t x (code "]") h (omega arith)))
checked_sound t at from (some to) x k h = go (eqb from 0) (eqb to 0) (ltb to from) refl refl refl (k (skip t (x + 1)) (mark_stands t x (code "]") h (omega arith)))
  where
    go : (a b c : Bool) → eqb from 0 ≡ a → eqb to 0 ≡ b → ltb to from ≡ c → Stands (Bracketed from (some to)) t at (skip t (x + 1))
        → Sound SpellsRange t at (cond (a && b) (refused JumpEmpty at) (cond c (refused JumpRangeInvalid at) (up_to t (between from (some to)) (x + 1))))
    go true true c d e f p = tt
    go true false true d e f p = tt
    go true false false d e f p =
        let l : from ≤ to = ltb-false to from f in
        let z : to ≡ 0 → ⊥ = eqb-false to 0 e in
        change (λ s q. ((l, omega arith), q)) p
    go false b true d e f p = tt
    go false b false d e f p =
        let l : from ≤ to = ltb-false to from f in
        let z : from ≡ 0 → ⊥ = eqb-false from 0 d in
        change (λ s q. ((l, omega arith), q)) p

closed_sound : (t : List ℕ) (at from : ℕ) (to : Option ℕ) (x : ℕ) → ((e : ℕ) → Stands (Marked (code "]")) t x e → Stands (Bracketed from to) t at e)
    → Sound SpellsRange t at (closed_at t at from to x)
unfolding Sound closed_at
closed_sound t at from to x k = go (eqb (here t x) (code "]")) refl
  where
    go : (a : Bool) → eqb (here t x) (code "]") ≡ a → Sound SpellsRange t at (cond a (checked t at from to (x + 1)) absent)
    go true d = checked_sound t at from to x k (eqb-true (here t x) (code "]") d)
    go false d = tt

upper_sound : (t : List ℕ) (at from x : ℕ) (n : Seen ℕ) → Sound Number t x n
    → ((to : Option ℕ) (e : ℕ) → Stands (To to ⨾ Marked (code "]")) t x e → Stands (Bracketed from to) t at e) → Sound SpellsRange t at (upper_at t at from x n)
unfolding Sound upper_at To
upper_sound t at from x (found n s e) p k = closed_sound t at from (some n) e (λ y m. k (some n) y (seq (change (λ u q. q) p) m))
upper_sound t at from x absent p k = closed_sound t at from none x (λ y m. k none y (seq (change (λ u q. q) (nothing_stands t x)) m))
upper_sound t at from x (refused r z) p k = tt

dash_sound : (t : List ℕ) (at from x : ℕ) → ((to : Option ℕ) (e : ℕ) → Stands (Marked (code "-") ⨾ (To to ⨾ Marked (code "]"))) t x e → Stands (Bracketed from to) t at e)
    → Sound SpellsRange t at (dash_at t at from x)
unfolding Sound dash_at
dash_sound t at from x k = go (eqb (here t x) (code "-")) refl
  where
    go : (a : Bool) → eqb (here t x) (code "-") ≡ a → Sound SpellsRange t at (cond a (upper_at t at from (skip t (x + 1)) (number_at t (skip t (x + 1)))) absent)
    go true d =
        upper_sound t at from (skip t (x + 1)) (number_at t (skip t (x + 1))) (number_sound t (skip t (x + 1)))
        (λ to e q. k to e (seq (mark_stands t x (code "-") (eqb-true (here t x) (code "-") d) (omega arith)) q))
    go false d = tt

lower_sound : (t : List ℕ) (at x : ℕ) (n : Seen ℕ) → Stands (Marked (code "[")) t at x → Sound Number t x n → Sound SpellsRange t at (lower_at t at x n)
unfolding Sound lower_at From Bracketed Single Dashed
lower_sound t at x (found n s e) m p = go (eqb (here t e) (code "]")) refl
  where
    go : (a : Bool) → eqb (here t e) (code "]") ≡ a → Sound SpellsRange t at (cond a (checked t at n (some n) (e + 1)) (dash_at t at n e))
    go true d = checked_sound t at n (some n) e (λ y q. change (λ u z. inl (refl, z)) (seq m (seq p q))) (eqb-true (here t e) (code "]") d)
    go false d = dash_sound t at n e (λ to y q. change (λ u z. inr z) (seq m (seq (change (λ u z. inl z) p) q)))
lower_sound t at x absent m p = dash_sound t at 0 x (λ to y q. change (λ u z. inr z) (seq m (seq (change (λ u z. inr (refl, z)) (nothing_stands t x)) q)))
lower_sound t at x (refused r z) m p = tt

range_sound : (t : List ℕ) (at : ℕ) → Sound SpellsRange t at (range_at t at)
unfolding Sound range_at
range_sound t at = go (eqb (here t at) (code "[")) refl
  where
    go : (a : Bool) → eqb (here t at) (code "[") ≡ a → Sound SpellsRange t at (cond a (lower_at t at (skip t (at + 1)) (number_at t (skip t (at + 1)))) absent)
    go true d =
        lower_sound t at (skip t (at + 1)) (number_at t (skip t (at + 1))) (mark_stands t at (code "[") (eqb-true (here t at) (code "[") d) (omega arith)) (number_sound t (skip t (at + 1)))
    go false d = tt

-- a token other than alternatives
unfoldable pub Leaf : Token → Type 0
Leaf (Byte v) = Unit {0}
Leaf (NotByte v) = Unit {0}
Leaf (MaskedByte v m) = Unit {0}
Leaf (NotMaskedByte v m) = Unit {0}
Leaf (Jump from to) = Unit {0}
Leaf (Alternatives ls) = ⊥

pub leaf_or : (tok : Token) → Leaf tok ⊎ ((ls : Lists) × (tok ≡ Alternatives ls))
unfolding Leaf
leaf_or (Byte v) = inl tt
leaf_or (NotByte v) = inl tt
leaf_or (MaskedByte v m) = inl tt
leaf_or (NotMaskedByte v m) = inl tt
leaf_or (Jump from to) = inl tt
leaf_or (Alternatives ls) = inr (ls, refl)

unfoldable pub SpellsLeaf : Bool → Token → Language
SpellsLeaf inside tok s = SpellsToken inside tok s × Leaf tok

-- `[1]` and `[1-1]` spell `??`, and the rest jumps
jump_spelled : (t : List ℕ) (inside : Bool) (at from to e : ℕ) → Allowed inside (some to) → Stands (Bounds from (some to)) t at e
    → Stands (λ s. SpellsLeaf inside (jump_token from to) s) t at e
unfolding jump_token SpellsLeaf SpellsToken Leaf NotOne AsJump
jump_spelled t inside at from to e w p = go (eqb from 1) (eqb to 1) refl refl
  where
    go : (a b : Bool) → eqb from 1 ≡ a → eqb to 1 ≡ b → Stands (λ s. SpellsLeaf inside (cond (a && b) (MaskedByte 0 all) (Jump from (some to))) s) t at e
    go true true c d =
        change (λ s q. (inr (refl, subst (λ (y : ℕ). Bounds 1 (some y) s) (eqb-true to 1 d) (subst (λ (x : ℕ). Bounds x (some to) s) (eqb-true from 1 c) q)), tt)) p
    go true false c d = change (λ s q. ((q, (λ x y. eqb-false to 1 d y), w), tt)) p
    go false b c d = change (λ s q. ((q, (λ x y. eqb-false from 1 c x), w), tt)) p

jumped_sound : (t : List ℕ) (inside : Bool) (at : ℕ) (r : Seen Range) → Sound SpellsRange t at r → Sound (SpellsLeaf inside) t at (jumped inside at r)
unfolding Sound jumped SpellsRange SpellsLeaf SpellsToken Leaf NotOne Allowed
jumped_sound t true at (found (between from none) s e) p = tt
jumped_sound t false at (found (between from none) s e) p = change (λ u q. ((q, tt, tt), tt)) p
jumped_sound t inside at (found (between from (some to)) s e) p = go inside (ltb inner_jump_limit to) refl p
  where
    go : (i c : Bool) → ltb inner_jump_limit to ≡ c → Stands (Bounds from (some to)) t at e
        → Sound (SpellsLeaf i) t at (cond (i && c) (refused JumpTooBigInAlternation at) (found (jump_token from to) s e))
    go true true g p = tt
    go true false g p = jump_spelled t true at from to e (ltb-false inner_jump_limit to g) p
    go false c g p = jump_spelled t false at from to e tt p
jumped_sound t inside at absent p = tt
jumped_sound t inside at (refused r z) p = tt

-- bytes
hex_token_sound : (t : List ℕ) (inside : Bool) (at : ℕ) (h : Seen Hex) → Sound SpellsHex t at h → Sound (SpellsLeaf inside) t at (hex_token h)
unfolding Sound hex_token SpellsHex SpellsLeaf SpellsToken Leaf
hex_token_sound t inside at (found (whole v) s e) p = change (λ u q. (q, tt)) p
hex_token_sound t inside at (found (masked v m) s e) p = change (λ u q. (inl q, tt)) p
hex_token_sound t inside at absent p = tt
hex_token_sound t inside at (refused r z) p = tt

negated_sound : (t : List ℕ) (inside : Bool) (at : ℕ) (h : Seen Hex) → Stands (Sign (code "~")) t at (at + 1) → Sound SpellsHex t (at + 1) h
    → Sound (SpellsLeaf inside) t at (negated at h)
unfolding Sound negated SpellsHex SpellsLeaf SpellsToken Leaf Negatable
negated_sound t inside at (found (whole v) s e) m p = change (λ u q. (q, tt)) (seq m (change {Q = Spaced (Whole v)} (λ u q. q) p))
negated_sound t inside at (found (masked v left) s e) m p = change (λ u q. ((tt, q), tt)) (seq m (change {Q = Spaced (Masked v left)} (λ u q. q) p))
negated_sound t inside at (found (masked v right) s e) m p = change (λ u q. ((tt, q), tt)) (seq m (change {Q = Spaced (Masked v right)} (λ u q. q) p))
negated_sound t inside at (found (masked v all) s e) m p = tt
negated_sound t inside at absent m p = tt
negated_sound t inside at (refused r z) m p = tt

not_sound : (t : List ℕ) (inside : Bool) (at : ℕ) → Sound (SpellsLeaf inside) t at (not_at t at)
unfolding Sound not_at
not_sound t inside at = go (eqb (here t at) (code "~")) refl
  where
    go : (a : Bool) → eqb (here t at) (code "~") ≡ a → Sound (SpellsLeaf inside) t at (cond a (negated at (hex_at t (at + 1))) absent)
    go true d = negated_sound t inside at (hex_at t (at + 1)) (sign_stands t at (code "~") (eqb-true (here t at) (code "~") d) (omega arith)) (hex_sound t (at + 1))
    go false d = tt

pub leaf_sound : (t : List ℕ) (inside : Bool) (at : ℕ) → Sound (SpellsLeaf inside) t at (leaf_at t inside at)
unfolding leaf_at
leaf_sound t inside at =
    else_sound (SpellsLeaf inside) t at (not_at t at) (hex_token (hex_at t at) else jumped inside at (range_at t at)) (not_sound t inside at)
    (else_sound (SpellsLeaf inside) t at (hex_token (hex_at t at)) (jumped inside at (range_at t at)) (hex_token_sound t inside at (hex_at t at) (hex_sound t at))
    (jumped_sound t inside at (range_at t at) (range_sound t at)))
