-- What the grammar spells the small readers find. Assumes nothing.
use mathlib.Core.Path.{◌≡◌, refl, sym, ap, ap₂, ◌∙◌, subst}
use mathlib.Core.Bool.{Bool, true, false, cond, ◌&&◌, and-false}
use mathlib.Core.Logic.{◌⊎◌, inl, inr}
use mathlib.Core.Option.{Option, none, some}
use mathlib.Core.List.{List, [], ◌∷◌, ◌++◌}
use Prim.Native.Char.{code}
use Prim.Native.Nat.{ℕ, ◌+◌, ◌*◌, ◌^◌, ◌<◌, ◌≤◌}
use native.Mathlib.Omega.{arith}
use borrow.Author.Tests.{le-ltb, ne_eqb, eqb-true}
use lib.Dec.{eqb}
use lib.ListN.{length, drop}
use Rattle.def_meaning.specs.Limits.{inner_jump_limit}
use Rattle.def_meaning.specs.Tokens.{Mask, left, right, all, Token, Byte, NotByte, MaskedByte, NotMaskedByte, Jump, Alternatives}
use Rattle.def_reading.specs.Blanks.{here, skip}
use Rattle.def_reading.specs.Pieces.{found, absent, ◌else◌, within, digit, Hex, whole, masked, hex_at, hex_token, negated, decimals, numeral, number_at, between, checked, closed_at, upper_at, dash_at, lower_at, range_at, jump_token, jumped, leaf_at}
use Rattle.def_reading.proofs.PieceSteps.{byte_none, byte_half, byte_both, masked_all, masked_left, masked_right, masked_no_right, hex_byte, hex_masked, not_else, not_hex, number_absent, number_found, checked_open, checked_both, closed_at_lem, dash_at_lem, range_else, range_at_lem, lower_closed, lower_dash, jumped_open, jumped_found}
use Rattle.def_grammar.proofs.Spelling.{◌⨾◌, Blank, Blanks, NoBlank, Spaced, Sign, Marked, HexDigit, Whole, Masked, Decimals, value, Numeral, Number, From, To, Single, Dashed, Bracketed, Ordered, Bounds, Allowed, NotOne, AsJump, Negatable, SpellsToken}
use Rattle.def_grammar.proofs.Standing.{after, cut, here_is, skips}
use Rattle.def_grammar.proofs.DigitLaws.{digit_complete, digits_count, digits_value, in_within, below_within}
use Rattle.def_grammar.proofs.Fronts.{digit_range, two_form, two_seen, mark_seen, marked_form, number_opens, mark_opens, opens_clear, opens_seq, cons_clear, from_clear, to_clear, OpensLow, whole_low, masked_low}
use Rattle.def_grammar.proofs.PiecesSpelled.{Leaf, SpellsHex}

-- a byte
byte_found : (t : List ℕ) (at v : ℕ) (w r : List ℕ) → drop at t ≡ w ++ r → Spaced (Whole v) w → NoBlank r → hex_at t at ≡ found (whole v) (at + 2) (at + length w)
unfolding Spaced Whole ◌⨾◌ HexDigit
byte_found t at v w r h p q =
    let u = p.3 in
    let x = u.3 in
    let c = x.3 in
    let d = x.4 in
    let s = two_seen t at c.0 d.0 p.1 w r h (two_form c.0 d.0 w p.0 x.0 x.1 p.1 p.2 x.2 c.1 d.1) p.4 q in
    hex_byte t at (byte_both t at (ap digit s.0 ∙ digit_complete c.0 u.0 c.2) (ap digit s.1 ∙ digit_complete d.0 u.1 d.2))
    ∙ ap₂ (λ (y e : ℕ). found (whole y) (at + 2) e) (sym u.2) s.2

-- a masked byte
no_digit_question : digit (code "?") ≡ none
unfolding digit within
no_digit_question = refl

masked_found : (t : List ℕ) (at v : ℕ) (m : Mask) (w r : List ℕ) → drop at t ≡ w ++ r → Spaced (Masked v m) w → NoBlank r
    → hex_at t at ≡ found (masked v m) (at + 2) (at + length w)
unfolding Spaced Masked ◌⨾◌ HexDigit Sign
masked_found t at v left w r h p q =
    let x = p.3 in
    let d = x.4 in
    let s = two_seen t at (code "?") d.0 p.1 w r h (two_form (code "?") d.0 w p.0 x.0 x.1 p.1 p.2 x.2 x.3 d.1) p.4 q in
    hex_masked t at (byte_none t at (ap digit s.0 ∙ no_digit_question))
    ∙ masked_left t at s.0 (λ e. (digit_range d.0 v d.2).2 (sym s.1 ∙ e)) (ap digit s.1 ∙ digit_complete d.0 v d.2)
    ∙ ap (λ (e : ℕ). found (masked v left) (at + 2) e) s.2
masked_found t at v right w r h p q =
    let x = p.3 in
    let c = x.3 in
    let s = two_seen t at c.0 (code "?") p.1 w r h (two_form c.0 (code "?") w p.0 x.0 x.1 p.1 p.2 x.2 c.1 x.4) p.4 q in
    let d : digit (here t at) ≡ some v = ap digit s.0 ∙ digit_complete c.0 v c.2 in
    hex_masked t at (byte_half t at d (ap digit s.1 ∙ no_digit_question)) ∙ masked_right t at (λ e. (digit_range c.0 v c.2).2 (sym s.0 ∙ e)) d s.1
    ∙ ap (λ (e : ℕ). found (masked v right) (at + 2) e) s.2
masked_found t at v all w r h p q =
    let x = p.3.1 in
    let s = two_seen t at (code "?") (code "?") p.1 w r h (two_form (code "?") (code "?") w p.0 x.0 x.1 p.1 p.2 x.2 x.3 x.4) p.4 q in
    hex_masked t at (byte_none t at (ap digit s.0 ∙ no_digit_question)) ∙ masked_all t at s.0 s.1
    ∙ ap₂ (λ (y e : ℕ). found (masked y all) (at + 2) e) (sym p.3.0) s.2

hex_found : (t : List ℕ) (at : ℕ) (x : Hex) (w r : List ℕ) → drop at t ≡ w ++ r → SpellsHex x w → NoBlank r → hex_at t at ≡ found x (at + 2) (at + length w)
unfolding SpellsHex
hex_found t at (whole v) w r h p q = byte_found t at v w r h p q
hex_found t at (masked v m) w r h p q = masked_found t at v m w r h p q

-- a number
blank_low : (c : ℕ) → Blank c → c < code "0"
unfolding Blank
blank_low c (inl e) = omega arith
blank_low c (inr (inl e)) = omega arith
blank_low c (inr (inr (inl e))) = omega arith
blank_low c (inr (inr (inr e))) = omega arith

-- blanks, and what follows them, begin with no digit
blanks_front : (b : List ℕ) (c : ℕ) (r : List ℕ) → Blanks b → within (code "0") (code "9") c ≡ false → (x : ℕ) × (u : List ℕ) × (b ++ (c ∷ r) ≡ x ∷ u) × (within (code "0") (code "9") x ≡ false)
unfolding Blanks
blanks_front [] c r p h = (c, r, refl, h)
blanks_front (x ∷ b) c r p h = (x, b ++ (c ∷ r), refl, below_within (code "0") (code "9") x (blank_low x p.0))

pub digits_front : (d : List ℕ) → Decimals d → 0 < length d → (c : ℕ) × (u : List ℕ) × (d ≡ c ∷ u) × (within (code "0") (code "9") c ≡ true)
unfolding Decimals
digits_front [] p h = let z : 0 < 0 = h in absurd (omega arith)
digits_front (c ∷ u) p h = (c, u, refl, in_within (code "0") (code "9") c p.0 p.1)

pub number_seen : (t : List ℕ) (at n : ℕ) (w : List ℕ) (c : ℕ) (r : List ℕ) → drop at t ≡ w ++ (c ∷ r) → Number n w → within (code "0") (code "9") c ≡ false → code " " < c
    → (s : ℕ) × (number_at t at ≡ found n s (at + length w))
unfolding Number Spaced ◌⨾◌ Numeral
number_seen t at n w c r h p z y =
    let d = p.0 in
    let b = p.1 in
    let m = p.3 in
    let g = cut t at w d b (c ∷ r) h p.2 in
    let x = blanks_front b c r p.4 z in
    let i : drop at t ≡ d ++ (x.0 ∷ x.1) = g.0 ∙ ap (λ (s : List ℕ). d ++ s) x.2 in
    let f = digits_front d m.0 m.1 in
    let k : decimals (drop at t) ≡ length d = ap decimals i ∙ digits_count d x.1 x.0 x.3 m.0 in
    let v : numeral 0 (drop at t) ≡ 0 * 10 ^ length d + value d = ap (numeral 0) i ∙ digits_value 0 d x.1 x.0 x.3 m.0 in
    let u : n ≡ value d = m.2 in
    let o : numeral 0 (drop at t) ≡ n = omega arith in
    let j : skip t (at + length d) ≡ at + length d + length b = skips t (at + length d) b (c ∷ r) g.1 p.4 (cons_clear c r y) in
    let l : length w ≡ length d + length b = g.2 in
    let e : skip t (at + length d) ≡ at + length w = omega arith in
    let a : here t at ≡ f.0 = here_is t at f.0 (f.1 ++ (x.0 ∷ x.1)) (i ∙ ap (λ (s : List ℕ). s ++ (x.0 ∷ x.1)) f.2) in
    (at + length d, number_found t at (ap (within (code "0") (code "9")) a ∙ f.3) o (ap (λ (q : ℕ). at + q) k) m.3 ∙ ap (λ (q : ℕ). found n (at + length d) q) e)

-- jumps: the number before the dash, or none
pub no_digit_dash : within (code "0") (code "9") (code "-") ≡ false
unfolding within
no_digit_dash = refl

pub no_digit_closing : within (code "0") (code "9") (code "]") ≡ false
unfolding within
no_digit_closing = refl

from_nothing : (t : List ℕ) (at x : ℕ) → number_at t x ≡ absent → lower_at t at x (number_at t x) ≡ dash_at t at 0 x
unfolding lower_at
from_nothing t at x p = rw p refl

from_found : (t : List ℕ) (at x from : ℕ) (w r : List ℕ) → drop x t ≡ w ++ (code "-" ∷ r) → From from w → lower_at t at x (number_at t x) ≡ dash_at t at from (x + length w)
unfolding From
from_found t at x from w r h (inl p) =
    let n = number_seen t x from w (code "-") r h p no_digit_dash (omega arith) in
    let i : here t (x + length w) ≡ code "-" = here_is t (x + length w) (code "-") r (after t x w (code "-" ∷ r) h) in
    ap (lower_at t at x) n.1 ∙ lower_dash t at x from n.0 (x + length w) (omega arith)
from_found t at x from w r h (inr p) =
    let i : drop x t ≡ code "-" ∷ r = h ∙ ap (λ (s : List ℕ). s ++ (code "-" ∷ r)) p.1 in
    let l : length w ≡ 0 = ap (λ (s : List ℕ). length s) p.1 in
    let e : x ≡ x + length w = omega arith in
    from_nothing t at x (number_absent t x (ap (within (code "0") (code "9")) (here_is t x (code "-") r i) ∙ no_digit_dash)) ∙ ap₂ (λ (a b : ℕ). dash_at t at a b) (sym p.0) e

-- the number after the dash, or none, and the `]`
to_number : (t : List ℕ) (at from x n s e : ℕ) → number_at t x ≡ found n s e → upper_at t at from x (number_at t x) ≡ closed_at t at from (some n) e
unfolding upper_at
to_number t at from x n s e p = rw p refl

to_nothing : (t : List ℕ) (at from x : ℕ) → number_at t x ≡ absent → upper_at t at from x (number_at t x) ≡ closed_at t at from none x
unfolding upper_at
to_nothing t at from x p = rw p refl

to_found : (t : List ℕ) (at from x : ℕ) (to : Option ℕ) (w r : List ℕ) → drop x t ≡ w ++ (code "]" ∷ r) → To to w
    → upper_at t at from x (number_at t x) ≡ checked t at from to (x + length w + 1)
unfolding To
to_found t at from x none w r h p =
    let i : drop x t ≡ code "]" ∷ r = h ∙ ap (λ (s : List ℕ). s ++ (code "]" ∷ r)) p in
    let l : length w ≡ 0 = ap (λ (s : List ℕ). length s) p in
    let e : x + 1 ≡ x + length w + 1 = omega arith in
    let j : here t x ≡ code "]" = here_is t x (code "]") r i in
    to_nothing t at from x (number_absent t x (ap (within (code "0") (code "9")) j ∙ no_digit_closing)) ∙ closed_at_lem t at from none x j ∙ ap (λ (y : ℕ). checked t at from none y) e
to_found t at from x (some n) w r h p =
    let k = number_seen t x n w (code "]") r h p no_digit_closing (omega arith) in
    to_number t at from x n k.0 (x + length w) k.1 ∙ closed_at_lem t at from (some n) (x + length w) (here_is t (x + length w) (code "]") r (after t x w (code "]" ∷ r) h))

checked_found : (t : List ℕ) (at from : ℕ) (to : Option ℕ) (stop e : ℕ) → Ordered from to → skip t stop ≡ e → checked t at from to stop ≡ found (between from to) stop e
unfolding Ordered
checked_found t at from none stop e o h = checked_open t at from stop ∙ ap (λ (x : ℕ). found (between from none) stop x) h
checked_found t at from (some to) stop e o h =
    let l : 0 < to = o.1 in
    let n : eqb from 0 && eqb to 0 ≡ false = ap (λ (b : Bool). eqb from 0 && b) (ne_eqb to 0 (omega arith)) ∙ and-false (eqb from 0) in
    checked_both t at from to stop n o.0 ∙ ap (λ (x : ℕ). found (between from (some to)) stop x) h

-- `[n]`
single_found : (t : List ℕ) (at n : ℕ) (w r : List ℕ) → drop at t ≡ w ++ r → Single n w → NoBlank r → Ordered n (some n)
    → (s : ℕ) × (range_at t at ≡ found (between n (some n)) s (at + length w))
unfolding Single ◌⨾◌
single_found t at n w r h p q o =
    let m = p.0 in
    let d = p.4.0 in
    let k = p.4.1 in
    let x = at + length m in
    let y = x + length d in
    let b = marked_form (code "]") k p.4.4 in
    let c = cut t at w m p.1 r h p.2 in
    let g = cut t x p.1 d k r c.1 p.4.2 in
    let a = mark_seen t at (code "[") m (p.1 ++ r) c.0 p.3 (opens_clear p.1 r (opens_seq p.1 d k p.4.2 (number_opens n d p.4.3))) in
    let i = number_seen t x n d (code "]") (b.0 ++ r) (g.0 ∙ ap (λ (s : List ℕ). d ++ (s ++ r)) b.1) p.4.3 no_digit_closing (omega arith) in
    let z = mark_seen t y (code "]") k r g.1 p.4.4 q in
    let l : length w ≡ length m + length p.1 = c.2 in
    let j : length p.1 ≡ length d + length k = g.2 in
    let v : skip t (y + 1) ≡ at + length m + length d + length k = z.1 in
    let e : skip t (y + 1) ≡ at + length w = omega arith in
    (y + 1, range_at_lem t at x a.0 (sym a.1) i.1 ∙ lower_closed t at x n i.0 y z.0 ∙ checked_found t at n (some n) (y + 1) (at + length w) o e)

-- `[a-b]`, `[a-]`, `[-b]`, `[-]`
dashed_found : (t : List ℕ) (at from : ℕ) (to : Option ℕ) (w r : List ℕ) → drop at t ≡ w ++ r → Dashed from to w → NoBlank r → Ordered from to
    → (s : ℕ) × (range_at t at ≡ found (between from to) s (at + length w))
unfolding Dashed ◌⨾◌
dashed_found t at from to w r h p q o =
    let m = p.0 in
    let a = p.4.0 in
    let d = p.4.4.0 in
    let n = p.4.4.4.0 in
    let k = p.4.4.4.1 in
    let x = at + length m in
    let y = x + length a in
    let z = y + length d in
    let u = z + length n in
    let f = marked_form (code "-") d p.4.4.3 in
    let b = marked_form (code "]") k p.4.4.4.4 in
    let c1 = cut t at w m p.1 r h p.2 in
    let c2 = cut t x p.1 a p.4.1 r c1.1 p.4.2 in
    let c3 = cut t y p.4.1 d p.4.4.1 r c2.1 p.4.4.2 in
    let c4 = cut t z p.4.4.1 n k r c3.1 p.4.4.4.2 in
    let dashed : NoBlank (p.4.1 ++ r) = opens_clear p.4.1 r (opens_seq p.4.1 d p.4.4.1 p.4.4.2 (mark_opens (code "-") d (omega arith) p.4.4.3)) in
    let closed : NoBlank (k ++ r) = opens_clear k r (mark_opens (code "]") k (omega arith) p.4.4.4.4) in
    let first : NoBlank (p.1 ++ r) = subst NoBlank (sym c2.0 ∙ c1.1) (from_clear from a (p.4.1 ++ r) p.4.3 dashed) in
    let next : NoBlank (p.4.4.1 ++ r) = subst NoBlank (sym c4.0 ∙ c3.1) (to_clear to n (k ++ r) p.4.4.4.3 closed) in
    let s1 = mark_seen t at (code "[") m (p.1 ++ r) c1.0 p.3 first in
    let s2 = from_found t at x from a (f.0 ++ (p.4.4.1 ++ r)) (c2.0 ∙ ap (λ (s : List ℕ). a ++ s) (sym c2.1 ∙ c3.0 ∙ ap (λ (s : List ℕ). s ++ (p.4.4.1 ++ r)) f.1)) p.4.3 in
    let s3 = mark_seen t y (code "-") d (p.4.4.1 ++ r) c3.0 p.4.4.3 next in
    let s4 = to_found t at from z to n (b.0 ++ r) (c4.0 ∙ ap (λ (s : List ℕ). n ++ (s ++ r)) b.1) p.4.4.4.3 in
    let s5 = mark_seen t u (code "]") k r c4.1 p.4.4.4.4 q in
    let l1 : length w ≡ length m + length p.1 = c1.2 in
    let l2 : length p.1 ≡ length a + length p.4.1 = c2.2 in
    let l3 : length p.4.1 ≡ length d + length p.4.4.1 = c3.2 in
    let l4 : length p.4.4.1 ≡ length n + length k = c4.2 in
    let v : skip t (u + 1) ≡ at + length m + length a + length d + length n + length k = s5.1 in
    let e : skip t (u + 1) ≡ at + length w = omega arith in
    (u + 1, range_at_lem t at x s1.0 (sym s1.1) refl ∙ s2 ∙ dash_at_lem t at from y z s3.0 (sym s3.1) refl ∙ s4 ∙ checked_found t at from to (u + 1) (at + length w) o e)

range_found : (t : List ℕ) (at from : ℕ) (to : Option ℕ) (w r : List ℕ) → drop at t ≡ w ++ r → Bounds from to w → NoBlank r
    → (s : ℕ) × (range_at t at ≡ found (between from to) s (at + length w))
unfolding Bounds Bracketed
range_found t at from to w r h p q = go p.1
  where
    go : ((to ≡ some from) × Single from w) ⊎ Dashed from to w → (s : ℕ) × (range_at t at ≡ found (between from to) s (at + length w))
    go (inl x) =
        let y = single_found t at from w r h x.1 q (subst (λ (z : Option ℕ). Ordered from z) x.0 p.0) in
        (y.0, y.1 ∙ ap (λ (z : Option ℕ). found (between from z) y.0 (at + length w)) (sym x.0))
    go (inr x) = dashed_found t at from to w r h x q p.0

-- a jump begins with its bracket
bounds_front : (from : ℕ) (to : Option ℕ) (w : List ℕ) → Bounds from to w → (u : List ℕ) × (w ≡ code "[" ∷ u)
unfolding Bounds Bracketed Single Dashed ◌⨾◌
bounds_front from to w p = go p.1
  where
    front : (w a b : List ℕ) → w ≡ a ++ b → Marked (code "[") a → (u : List ℕ) × (w ≡ code "[" ∷ u)
    front w a b h m = let f = marked_form (code "[") a m in (f.0 ++ b, h ∙ ap (λ (s : List ℕ). s ++ b) f.1)

    go : ((to ≡ some from) × Single from w) ⊎ Dashed from to w → (u : List ℕ) × (w ≡ code "[" ∷ u)
    go (inl q) = front w q.1.0 q.1.1 q.1.2 q.1.3
    go (inr q) = front w q.0 q.1 q.2 q.3

-- where no token but alternatives begins
hex_absent : (t : List ℕ) (at c : ℕ) → here t at ≡ c → digit c ≡ none → (c ≡ code "?" → ⊥) → hex_at t at ≡ absent
hex_absent t at c p h n =
    let d : digit (here t at) ≡ none = ap digit p ∙ h in
    hex_masked t at (byte_none t at d) ∙ masked_no_right t at (λ e. n (sym p ∙ e)) d

pub leaf_absent : (t : List ℕ) (inside : Bool) (at c : ℕ) → here t at ≡ c → digit c ≡ none → (c ≡ code "?" → ⊥) → (c ≡ code "~" → ⊥) → (c ≡ code "[" → ⊥) → leaf_at t inside at ≡ absent
unfolding leaf_at hex_token jumped ◌else◌
leaf_absent t inside at c p h i j k = rw (not_else t at (λ e. j (sym p ∙ e)), hex_absent t at c p h i, range_else t at (λ e. k (sym p ∙ e))) refl

-- the tokens that are no alternatives
leaf_hex : (t : List ℕ) (inside : Bool) (at : ℕ) (x : Hex) (tok : Token) (s e : ℕ) → (here t at ≡ code "~" → ⊥) → hex_at t at ≡ found x s e → hex_token (found x s e) ≡ found tok s e
    → leaf_at t inside at ≡ found tok s e
unfolding leaf_at ◌else◌
leaf_hex t inside at x tok s e n h k = rw (not_else t at n, h, k) refl

leaf_negated : (t : List ℕ) (inside : Bool) (at : ℕ) (x : Hex) (tok : Token) (s e : ℕ) → here t at ≡ code "~" → hex_at t (at + 1) ≡ found x s e
    → negated at (found x s e) ≡ found tok s e → leaf_at t inside at ≡ found tok s e
unfolding leaf_at ◌else◌
leaf_negated t inside at x tok s e p h k = rw (not_hex t at p h, k) refl

no_digit_opening : digit (code "[") ≡ none
unfolding digit within
no_digit_opening = refl

leaf_jump : (t : List ℕ) (inside : Bool) (at from : ℕ) (to : Option ℕ) (tok : Token) (s e : ℕ) → here t at ≡ code "[" → range_at t at ≡ found (between from to) s e
    → jumped inside at (found (between from to) s e) ≡ found tok s e → leaf_at t inside at ≡ found tok s e
unfolding leaf_at hex_token ◌else◌
leaf_jump t inside at from to tok s e p h k = rw (not_else t at (omega arith), hex_absent t at (code "[") p no_digit_opening (omega arith), h, k) refl

low_found : (t : List ℕ) (inside : Bool) (at : ℕ) (x : Hex) (tok : Token) (w r : List ℕ) → drop at t ≡ w ++ r → SpellsHex x w → OpensLow w → NoBlank r
    → hex_token (found x (at + 2) (at + length w)) ≡ found tok (at + 2) (at + length w) → (s : ℕ) × (leaf_at t inside at ≡ found tok s (at + length w))
low_found t inside at x tok w r h p o q k =
    let i : o.0 ≤ code "f" = o.4 in
    let j : here t at ≡ o.0 = here_is t at o.0 (o.1 ++ r) (h ∙ ap (λ (s : List ℕ). s ++ r) o.2) in
    (at + 2, leaf_hex t inside at x tok (at + 2) (at + length w) (omega arith) (hex_found t at x w r h p q) k)

not_found : (t : List ℕ) (inside : Bool) (at : ℕ) (x : Hex) (tok : Token) (w r : List ℕ) → drop at t ≡ w ++ r → (Sign (code "~") ⨾ SpellsHex x) w → NoBlank r
    → ((s e : ℕ) → negated at (found x s e) ≡ found tok s e) → (s : ℕ) × (leaf_at t inside at ≡ found tok s (at + length w))
unfolding ◌⨾◌ Sign
not_found t inside at x tok w r h p q k =
    let c = cut t at w (code "~" ∷ []) p.1 r h (p.2 ∙ ap (λ (s : List ℕ). s ++ p.1) p.3) in
    let l : length w ≡ 1 + length p.1 = c.2 in
    let e : at + 1 + length p.1 ≡ at + length w = omega arith in (
      at + 1 + 2,
      leaf_negated t inside at x tok (at + 1 + 2) (at + length w) (here_is t at (code "~") (p.1 ++ r) c.0)
          (hex_found t (at + 1) x p.1 r c.1 p.4 q ∙ ap (λ (y : ℕ). found x (at + 1 + 2) y) e) (k (at + 1 + 2) (at + length w)),
    )

bounds_found : (t : List ℕ) (inside : Bool) (at from : ℕ) (to : Option ℕ) (tok : Token) (w r : List ℕ) → drop at t ≡ w ++ r → Bounds from to w → NoBlank r
    → ((s e : ℕ) → jumped inside at (found (between from to) s e) ≡ found tok s e) → (s : ℕ) × (leaf_at t inside at ≡ found tok s (at + length w))
bounds_found t inside at from to tok w r h p q k =
    let x = range_found t at from to w r h p q in
    let f = bounds_front from to w p in
    (x.0, leaf_jump t inside at from to tok x.0 (at + length w) (here_is t at (code "[") (f.0 ++ r) (h ∙ ap (λ (s : List ℕ). s ++ r) f.1)) x.1 (k x.0 (at + length w)))

not_one : (from to : ℕ) → (from ≡ 1 → to ≡ 1 → ⊥) → jump_token from to ≡ Jump from (some to)
unfolding jump_token
not_one from to n = go (eqb from 1) (eqb to 1) refl refl
  where
    go : (a b : Bool) → eqb from 1 ≡ a → eqb to 1 ≡ b → cond (a && b) (MaskedByte 0 all) (Jump from (some to)) ≡ Jump from (some to)
    go true true d e = absurd (n (eqb-true from 1 d) (eqb-true to 1 e))
    go true false d e = refl
    go false b d e = refl

jump_made : (inside : Bool) (at from : ℕ) (to : Option ℕ) (s e : ℕ) → NotOne from to → Allowed inside to → jumped inside at (found (between from to) s e) ≡ found (Jump from to) s e
unfolding NotOne Allowed
jump_made true at from none s e n a = absurd a
jump_made false at from none s e n a = jumped_open at from s e false refl
jump_made true at from (some to) s e n a = jumped_found at from s e true to (le-ltb inner_jump_limit to a) ∙ ap (λ (x : Token). found x s e) (not_one from to n)
jump_made false at from (some to) s e n a = jumped_found at from s e false to refl ∙ ap (λ (x : Token). found x s e) (not_one from to n)

one_made : (inside : Bool) (at s e : ℕ) → jumped inside at (found (between 1 (some 1)) s e) ≡ found (MaskedByte 0 all) s e
unfolding jumped jump_token
one_made true at s e = refl
one_made false at s e = refl

as_jump_found : (t : List ℕ) (inside : Bool) (at v : ℕ) (m : Mask) (w r : List ℕ) → drop at t ≡ w ++ r → AsJump v m w → NoBlank r
    → (s : ℕ) × (leaf_at t inside at ≡ found (MaskedByte v m) s (at + length w))
unfolding AsJump
as_jump_found t inside at v left w r h p q = absurd p
as_jump_found t inside at v right w r h p q = absurd p
as_jump_found t inside at v all w r h p q =
    let x = bounds_found t inside at 1 (some 1) (MaskedByte 0 all) w r h p.1 q (λ s e. one_made inside at s e) in
    (x.0, x.1 ∙ ap (λ (y : ℕ). found (MaskedByte y all) x.0 (at + length w)) (sym p.0))

negated_made : (at v : ℕ) (m : Mask) (s e : ℕ) → Negatable m → negated at (found (masked v m) s e) ≡ found (NotMaskedByte v m) s e
unfolding negated Negatable
negated_made at v left s e n = refl
negated_made at v right s e n = refl
negated_made at v all s e n = absurd n

pub leaf_found : (t : List ℕ) (inside : Bool) (at : ℕ) (tok : Token) (w r : List ℕ) → Leaf tok → drop at t ≡ w ++ r → SpellsToken inside tok w → NoBlank r
    → (s : ℕ) × (leaf_at t inside at ≡ found tok s (at + length w))
unfolding Leaf SpellsToken SpellsHex hex_token negated
leaf_found t inside at (Byte v) w r l h p q = low_found t inside at (whole v) (Byte v) w r h p (whole_low v w p) q refl
leaf_found t inside at (NotByte v) w r l h p q = not_found t inside at (whole v) (NotByte v) w r h p q (λ s e. refl)
leaf_found t inside at (MaskedByte v m) w r l h (inl p) q = low_found t inside at (masked v m) (MaskedByte v m) w r h p (masked_low v m w p) q refl
leaf_found t inside at (MaskedByte v m) w r l h (inr p) q = as_jump_found t inside at v m w r h p q
leaf_found t inside at (NotMaskedByte v m) w r l h p q = not_found t inside at (masked v m) (NotMaskedByte v m) w r h p.1 q (λ s e. negated_made at v m s e p.0)
leaf_found t inside at (Jump from to) w r l h p q = bounds_found t inside at from to (Jump from to) w r h p.0 q (λ s e. jump_made inside at from to s e p.1 p.2)
leaf_found t inside at (Alternatives ls) w r l h p q = absurd l
