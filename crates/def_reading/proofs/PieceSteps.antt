-- What each test of a small reader decides. Assumes nothing.
use mathlib.Core.Path.{◌≡◌, refl, sym}
use mathlib.Core.Bool.{Bool, true, false, cond, ◌&&◌}
use mathlib.Core.Option.{Option, none, some}
use mathlib.Core.List.{List}
use Prim.Native.Char.{code}
use Prim.Native.Nat.{ℕ, ◌+◌, ◌*◌, ◌≤◌, ◌<◌}
use borrow.Author.Tests.{ne_eqb, lt-ltb, le-ltb, le-leb, lt-leb}
use lib.Dec.{eqb, ltb}
use lib.ListN.{drop, get_or}
use Rattle.base.specs.declared.Refusal.TheVariants.{NumberTooBig, JumpEmpty, JumpRangeInvalid, JumpUnboundedInAlternation, JumpTooBigInAlternation}
use Rattle.def_meaning.specs.Limits.{number_limit, inner_jump_limit}
use Rattle.def_meaning.specs.Tokens.{left, right, all, Token, Jump}
use Rattle.def_reading.specs.Blanks.{skip}
use Rattle.def_reading.specs.Pieces.{Seen, found, absent, refused, Hex, whole, masked, between, digit, two_digits, byte_at, one_digit, masked_at, hex_at, negated, not_at, decimals, numeral, number_at, checked, closed_at, upper_at, dash_at, lower_at, range_at, jump_token, jumped, hex_token, leaf_at, ◌else◌, decimal}

module _ (t : List ℕ) (at : ℕ) where
  pub byte_none : digit (get_or t at 0) ≡ none → byte_at t at ≡ absent
  unfolding byte_at two_digits
  byte_none d = rw d

  pub byte_half : {h : ℕ} → digit (get_or t at 0) ≡ some h → digit (get_or t (at + 1) 0) ≡ none → byte_at t at ≡ absent
  unfolding byte_at two_digits
  byte_half d e = rw (d, e)

  pub byte_both : {h l : ℕ} → digit (get_or t at 0) ≡ some h → digit (get_or t (at + 1) 0) ≡ some l → byte_at t at ≡ found (whole (16 * h + l)) (at + 2) (skip t (at + 2))
  unfolding byte_at two_digits
  byte_both d e = rw (d, e)

  pub masked_all : get_or t at 0 ≡ code "?" → get_or t (at + 1) 0 ≡ code "?" → masked_at t at ≡ found (masked 0 all) (at + 2) (skip t (at + 2))
  unfolding masked_at
  masked_all d e = rw (d, e)

  pub masked_left : {v : ℕ} → get_or t at 0 ≡ code "?" → (get_or t (at + 1) 0 ≡ code "?" → ⊥) → digit (get_or t (at + 1) 0) ≡ some v → masked_at t at ≡ found (masked v left) (at + 2) (skip t (at + 2))
  unfolding masked_at one_digit
  masked_left d e f = rw (d, ne_eqb (get_or t (at + 1) 0) (code "?") e, f)

  pub masked_no_left : get_or t at 0 ≡ code "?" → (get_or t (at + 1) 0 ≡ code "?" → ⊥) → digit (get_or t (at + 1) 0) ≡ none → masked_at t at ≡ absent
  unfolding masked_at one_digit
  masked_no_left d e f = rw (d, ne_eqb (get_or t (at + 1) 0) (code "?") e, f)

  pub masked_right : {v : ℕ} → (get_or t at 0 ≡ code "?" → ⊥) → digit (get_or t at 0) ≡ some v → get_or t (at + 1) 0 ≡ code "?" → masked_at t at ≡ found (masked v right) (at + 2) (skip t (at + 2))
  unfolding masked_at one_digit
  masked_right d e f = rw (ne_eqb (get_or t at 0) (code "?") d, f, e)

  pub masked_no_right : (get_or t at 0 ≡ code "?" → ⊥) → digit (get_or t at 0) ≡ none → masked_at t at ≡ absent
  unfolding masked_at one_digit
  masked_no_right d e = rw (ne_eqb (get_or t at 0) (code "?") d, e) (go (eqb (get_or t (at + 1) 0) (code "?")))
    where
      go : (b : Bool) → ◌≡◌ {A = Seen Hex} (cond b absent absent) absent
      go true = refl
      go false = refl

  pub masked_other : (get_or t at 0 ≡ code "?" → ⊥) → (get_or t (at + 1) 0 ≡ code "?" → ⊥) → masked_at t at ≡ absent
  unfolding masked_at
  masked_other d e = simp (ne_eqb (get_or t at 0) (code "?") d, ne_eqb (get_or t (at + 1) 0) (code "?") e)

  pub hex_byte : {h : Hex} {s e : ℕ} → byte_at t at ≡ found h s e → hex_at t at ≡ found h s e
  unfolding hex_at ◌else◌
  hex_byte d = rw d

  pub hex_masked : byte_at t at ≡ absent → hex_at t at ≡ masked_at t at
  unfolding hex_at ◌else◌
  hex_masked d = rw d

  pub not_else : (get_or t at 0 ≡ code "~" → ⊥) → not_at t at ≡ absent
  unfolding not_at
  not_else d = simp (ne_eqb (get_or t at 0) (code "~") d)

  pub not_hex : get_or t at 0 ≡ code "~" → {x : Seen Hex} → hex_at t (at + 1) ≡ x → not_at t at ≡ negated at x
  unfolding not_at
  not_hex d e = rw (d, e)

  pub number_absent : decimal (get_or t at 0) ≡ false → number_at t at ≡ absent
  unfolding number_at
  number_absent d = rw d

  pub number_found : {v i : ℕ} → decimal (get_or t at 0) ≡ true → numeral 0 (drop at t) ≡ v → at + decimals (drop at t) ≡ i → v ≤ number_limit → number_at t at ≡ found v i (skip t i)
  unfolding number_at
  number_found {v} d e f g = rw (d, e, f, le-leb v number_limit g)

  pub number_big : decimal (get_or t at 0) ≡ true → number_limit < numeral 0 (drop at t) → number_at t at ≡ refused NumberTooBig at
  unfolding number_at
  number_big d e = rw (d, lt-leb (numeral 0 (drop at t)) number_limit e)

  pub checked_open : (from stop : ℕ) → checked t at from none stop ≡ found (between from none) stop (skip t stop)
  unfolding checked
  checked_open from stop = refl

  pub checked_empty : (from to stop : ℕ) → eqb from 0 && eqb to 0 ≡ true → checked t at from (some to) stop ≡ refused JumpEmpty at
  unfolding checked
  checked_empty from to stop d = rw d

  pub checked_wrong : (from to stop : ℕ) → eqb from 0 && eqb to 0 ≡ false → to < from → checked t at from (some to) stop ≡ refused JumpRangeInvalid at
  unfolding checked
  checked_wrong from to stop d e = rw (d, lt-ltb to from e)

  pub checked_both : (from to stop : ℕ) → eqb from 0 && eqb to 0 ≡ false → from ≤ to → checked t at from (some to) stop ≡ found (between from (some to)) stop (skip t stop)
  unfolding checked
  checked_both from to stop d e = rw (d, le-ltb to from e)

  pub closed_else : (from : ℕ) (to : Option ℕ) (x : ℕ) → (get_or t x 0 ≡ code "]" → ⊥) → closed_at t at from to x ≡ absent
  unfolding closed_at
  closed_else from to x d = simp (ne_eqb (get_or t x 0) (code "]") d)

  pub closed_at_lem : (from : ℕ) (to : Option ℕ) (x : ℕ) → get_or t x 0 ≡ code "]" → closed_at t at from to x ≡ checked t at from to (x + 1)
  unfolding closed_at
  closed_at_lem from to x d = rw d

  pub dash_else : (from x : ℕ) → (get_or t x 0 ≡ code "-" → ⊥) → dash_at t at from x ≡ absent
  unfolding dash_at
  dash_else from x d = simp (ne_eqb (get_or t x 0) (code "-") d)

  pub dash_at_lem : (from x y : ℕ) → get_or t x 0 ≡ code "-" → y ≡ skip t (x + 1) → {n : Seen ℕ} → number_at t y ≡ n → dash_at t at from x ≡ upper_at t at from y n
  unfolding dash_at
  dash_at_lem from x y d f e = rw (d, sym f, e)

  pub range_else : (get_or t at 0 ≡ code "[" → ⊥) → range_at t at ≡ absent
  unfolding range_at
  range_else d = simp (ne_eqb (get_or t at 0) (code "[") d)

  pub range_at_lem : (y : ℕ) → get_or t at 0 ≡ code "[" → y ≡ skip t (at + 1) → {n : Seen ℕ} → number_at t y ≡ n → range_at t at ≡ lower_at t at y n
  unfolding range_at
  range_at_lem y d f e = rw (d, sym f, e)

  pub lower_closed : (x n s e : ℕ) → get_or t e 0 ≡ code "]" → lower_at t at x (found n s e) ≡ checked t at n (some n) (e + 1)
  unfolding lower_at
  lower_closed x n s e d = rw d

  pub lower_dash : (x n s e : ℕ) → (get_or t e 0 ≡ code "]" → ⊥) → lower_at t at x (found n s e) ≡ dash_at t at n e
  unfolding lower_at
  lower_dash x n s e d = simp (ne_eqb (get_or t e 0) (code "]") d)

  pub leaf_not : (inside : Bool) {x : Seen Token} → not_at t at ≡ x → leaf_at t inside at ≡ (x else (hex_token (hex_at t at) else jumped inside at (range_at t at)))
  unfolding leaf_at
  leaf_not inside e = rw e

  pub byte_else : {x : Seen Hex} → hex_at t at ≡ x → (y : Seen Token) → (hex_token (hex_at t at) else y) ≡ (hex_token x else y)
  byte_else e y = rw e

module _ (at from s e : ℕ) where
  pub jumped_unbounded : (inside : Bool) → inside ≡ true → jumped inside at (found (between from none) s e) ≡ refused JumpUnboundedInAlternation at
  unfolding jumped
  jumped_unbounded inside d = rw d

  pub jumped_open : (inside : Bool) → inside ≡ false → jumped inside at (found (between from none) s e) ≡ found (Jump from none) s e
  unfolding jumped
  jumped_open inside d = rw d

  pub jumped_big : (inside : Bool) (to : ℕ) → inside && ltb inner_jump_limit to ≡ true → jumped inside at (found (between from (some to)) s e) ≡ refused JumpTooBigInAlternation at
  unfolding jumped
  jumped_big inside to d = rw d

  pub jumped_found : (inside : Bool) (to : ℕ) → inside && ltb inner_jump_limit to ≡ false → jumped inside at (found (between from (some to)) s e) ≡ found (jump_token from to) s e
  unfolding jumped
  jumped_found inside to d = rw d
