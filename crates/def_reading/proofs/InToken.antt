-- Within a token, a refusal is given exactly in its case. Assumes nothing.
use mathlib.Core.Path.{◌≡◌, refl, sym, ap, ap₂, ◌∙◌, subst}
use mathlib.Core.Bool.{Bool, true, false, cond, ◌&&◌}
use mathlib.Core.Option.{Option, none, some}
use mathlib.Core.List.{List}
use Prim.Native.Char.{code}
use Prim.Native.Nat.{ℕ, ◌+◌, ◌≤◌, ◌<◌}
use native.Mathlib.Omega.{arith}
use borrow.Author.Tests.{eqb-true, eqb-false, ltb-true, ltb-false, leb-false, lt-ltb}
use lib.Dec.{eqb, ltb, leb}
use lib.ListN.{drop, get_or}
use Rattle.base.specs.declared.Refusal.{Refusal}
use Rattle.base.specs.declared.Refusal.TheVariants.{Unexpected, NumberTooBig, JumpEmpty, JumpRangeInvalid, JumpTooBigInAlternation, CannotNegateMaskAll}
use Rattle.def_meaning.specs.Limits.{number_limit, inner_jump_limit}
use Rattle.def_meaning.specs.Tokens.{left, right, all, Token}
use Rattle.def_reading.specs.Blanks.{skip}
use Rattle.def_reading.specs.Pieces.{Seen, found, absent, refused, Hex, whole, masked, Range, between, digit, within, two_digits, byte_at, one_digit, masked_at, hex_at, negated, decimals, numeral, number_at, checked, closed_at, upper_at, dash_at, lower_at, range_at, jump_token, jumped, hex_token, leaf_at, ◌else◌, decimal}
use Rattle.def_reading.specs.Given as goal
use Rattle.def_reading.proofs.PieceLaws.{never}
use Rattle.def_reading.proofs.PieceSteps.{byte_none, masked_all, masked_no_right, hex_masked, not_else, not_hex, number_big, checked_empty, checked_wrong, checked_both, closed_at_lem, dash_at_lem, range_at_lem, lower_closed, lower_dash, leaf_not, byte_else, jumped_unbounded, jumped_big}

-- a byte that begins neither `~` token nor byte nor masked byte
pub leaf_other : (t : List ℕ) (inside : Bool) (at c : ℕ) → get_or t at 0 ≡ c → (c ≡ code "~" → ⊥) → (c ≡ code "?" → ⊥) → digit c ≡ none → leaf_at t inside at ≡ jumped inside at (range_at t at)
unfolding ◌else◌ hex_token
leaf_other t inside at c h n m d =
    let x : hex_at t at ≡ absent = hex_masked t at (byte_none t at (ap digit h ∙ d)) ∙ masked_no_right t at (λ z. m (sym h ∙ z)) (ap digit h ∙ d) in
    leaf_not t at inside (not_else t at (λ z. n (sym h ∙ z))) ∙ byte_else t at x _

leaf_jump : (t : List ℕ) (inside : Bool) (at : ℕ) → get_or t at 0 ≡ code "[" → {x : Seen Range} → range_at t at ≡ x → leaf_at t inside at ≡ jumped inside at x
unfolding digit within
leaf_jump t inside at h q = leaf_other t inside at (code "[") h (λ z. omega arith) (λ z. omega arith) refl ∙ ap (jumped inside at) q

leaf_tilde : (t : List ℕ) (inside : Bool) (at : ℕ) → get_or t at 0 ≡ code "~" → (x : Seen Hex) (r : Refusal) (p : ℕ) → hex_at t (at + 1) ≡ x → negated at x ≡ refused r p → leaf_at t inside at ≡ refused r p
unfolding ◌else◌
leaf_tilde t inside at h x r p q w = leaf_not t at inside (not_hex t at h q ∙ w)

-- a jump with its bounds is read so
from_lower : (t : List ℕ) (at from x : ℕ) → get_or t at 0 ≡ code "[" → goal.From t (skip t (at + 1)) from x → get_or t x 0 ≡ code "-" → range_at t at ≡ dash_at t at from x
unfolding lower_at
from_lower t at from x h (goal.number {s = s} q) d = range_at_lem t at (skip t (at + 1)) h refl q ∙ lower_dash t at (skip t (at + 1)) from s x (λ z. let w : code "-" ≡ code "]" = sym d ∙ z in omega arith)
from_lower t at from x h (goal.nothing q) d = range_at_lem t at (skip t (at + 1)) h refl q

pub opens : {t : List ℕ} {at from stop : ℕ} {to : Option ℕ} → goal.Jumps t at from to stop → get_or t at 0 ≡ code "["
opens (goal.single h q k) = h
opens (goal.bounded h f d q k) = h
opens (goal.unbounded h f d q k) = h

pub jumps_range : {t : List ℕ} {at from stop : ℕ} {to : Option ℕ} → goal.Jumps t at from to stop → range_at t at ≡ checked t at from to stop
unfolding upper_at
jumps_range {t} {at} (goal.single {n = n} {s = s} {x = x} h q k) = range_at_lem t at (skip t (at + 1)) h refl q ∙ lower_closed t at (skip t (at + 1)) n s x k
jumps_range {t} {at} (goal.bounded {from = from} {to = to} {s = s} {x = x} {y = y} h f d q k) = from_lower t at from x h f d ∙ dash_at_lem t at from x (skip t (x + 1)) d refl q ∙ closed_at_lem t at from (some to) y k
jumps_range {t} {at} (goal.unbounded {from = from} {x = x} h f d q k) = from_lower t at from x h f d ∙ dash_at_lem t at from x (skip t (x + 1)) d refl q ∙ closed_at_lem t at from none (skip t (x + 1)) k

both_zero : eqb 0 0 && eqb 0 0 ≡ true
both_zero = refl

-- from above to, or a to above 0: not both are 0
not_both : (from to : ℕ) → 0 < from + to → eqb from 0 && eqb to 0 ≡ false
not_both from to h = go (eqb from 0) (eqb to 0) refl refl
  where
    go : (a b : Bool) → eqb from 0 ≡ a → eqb to 0 ≡ b → a && b ≡ false
    go true true i j = let u = eqb-true from 0 i in let v = eqb-true to 0 j in absurd (omega arith)
    go true false i j = refl
    go false b i j = refl

pub in_token_refuses : {t : List ℕ} {inside : Bool} {at p : ℕ} {r : Refusal} → goal.InToken t inside at r p → leaf_at t inside at ≡ refused r p
unfolding negated jumped upper_at lower_at checked digit within
in_token_refuses {t} {inside} {at} (goal.after_tilde h q) = leaf_tilde t inside at h absent Unexpected (at + 1) q refl
in_token_refuses {t} {inside} {at} (goal.tilde_all h k l) =
    let e : at + 1 + 1 ≡ at + 2 = omega arith in
    leaf_tilde t inside at h _ CannotNegateMaskAll at (hex_masked t (at + 1) (byte_none t (at + 1) (ap digit k)) ∙ masked_all t (at + 1) k (ap (λ (i : ℕ). get_or t i 0) e ∙ l)) refl
in_token_refuses {t} {inside} {at} (goal.big_from h b) = leaf_jump t inside at h (range_at_lem t at (skip t (at + 1)) h refl (number_big t (skip t (at + 1)) b.0 b.1))
in_token_refuses {t} {inside} {at} (goal.big_to {from = from} {x = x} h f d b) = leaf_jump t inside at h (from_lower t at from x h f d ∙ dash_at_lem t at from x (skip t (x + 1)) d refl (number_big t (skip t (x + 1)) b.0 b.1))
in_token_refuses {t} {inside} {at} (goal.empty {stop = stop} j) = leaf_jump t inside at (opens j) (jumps_range j ∙ checked_empty t at 0 0 stop both_zero)
in_token_refuses {t} {inside} {at} (goal.backwards {from = from} {to = to} {stop = stop} j h) = leaf_jump t inside at (opens j) (jumps_range j ∙ checked_wrong t at from to stop (not_both from to (omega arith)) h)
in_token_refuses {t} {inside} {at} (goal.open_inside {from = from} {stop = stop} i j) = leaf_jump t inside at (opens j) (jumps_range j) ∙ jumped_unbounded at from stop (skip t stop) inside i
in_token_refuses {t} {inside} {at} (goal.long_inside {from = from} {to = to} {stop = stop} i j h k) = leaf_jump t inside at (opens j) (jumps_range j ∙ checked_both t at from to stop (not_both from to (omega arith)) h) ∙ jumped_big at from stop (skip t stop) inside to (rw (i, lt-ltb inner_jump_limit to k))

-- `??` is two question marks, and no byte is refused
unfoldable Hexed : List ℕ → ℕ → Seen Hex → Type 0
Hexed t at (found (whole v) s e) = Unit {0}
Hexed t at (found (masked v left) s e) = Unit {0}
Hexed t at (found (masked v right) s e) = Unit {0}
Hexed t at (found (masked v all) s e) = (get_or t at 0 ≡ code "?") × (get_or t (at + 1) 0 ≡ code "?")
Hexed t at absent = Unit {0}
Hexed t at (refused r p) = ⊥

module _ (t : List ℕ) (at : ℕ) where
  hexed_else : (x y : Seen Hex) → Hexed t at x → Hexed t at y → Hexed t at (x else y)
  unfolding ◌else◌ Hexed
  hexed_else (found v s e) y h k = h
  hexed_else absent y h k = k
  hexed_else (refused r p) y h k = h

  hexed_byte : (x y : Option ℕ) → Hexed t at (two_digits t at x y)
  unfolding two_digits Hexed
  hexed_byte (some h) (some l) = tt
  hexed_byte (some h) none = tt
  hexed_byte none y = tt

  hexed_left : (x : Option ℕ) → Hexed t at (one_digit t at left x)
  unfolding one_digit Hexed
  hexed_left (some v) = tt
  hexed_left none = tt

  hexed_right : (x : Option ℕ) → Hexed t at (one_digit t at right x)
  unfolding one_digit Hexed
  hexed_right (some v) = tt
  hexed_right none = tt

  hexed : Hexed t at (hex_at t at)
  unfolding hex_at byte_at masked_at Hexed
  hexed = hexed_else _ _ (hexed_byte (digit (get_or t at 0)) (digit (get_or t (at + 1) 0))) (go (eqb (get_or t at 0) (code "?")) (eqb (get_or t (at + 1) 0) (code "?")) refl refl)
    where
      go : (a b : Bool) → eqb (get_or t at 0) (code "?") ≡ a → eqb (get_or t (at + 1) 0) (code "?") ≡ b
          → Hexed t at (cond a (cond b (found (masked 0 all) (at + 2) (skip t (at + 2))) (one_digit t at left (digit (get_or t (at + 1) 0)))) (cond b (one_digit t at right (digit (get_or t at 0))) absent))
      go true true i j = (eqb-true (get_or t at 0) (code "?") i, eqb-true (get_or t (at + 1) 0) (code "?") j)
      go true false i j = hexed_left (digit (get_or t (at + 1) 0))
      go false true i j = hexed_right (digit (get_or t at 0))
      go false false i j = tt

-- a number is refused where it is too big
unfoldable Numbered : List ℕ → ℕ → Seen ℕ → Type 0
Numbered t x (found n s e) = Unit {0}
Numbered t x absent = Unit {0}
Numbered t x (refused r p) = (r ≡ NumberTooBig) × (p ≡ x) × goal.Big t x

numbered : (t : List ℕ) (x : ℕ) → Numbered t x (number_at t x)
unfolding number_at Numbered
numbered t x = go (decimal (get_or t x 0)) (leb (numeral 0 (drop x t)) number_limit) refl refl
  where
    go : (a b : Bool) → decimal (get_or t x 0) ≡ a → leb (numeral 0 (drop x t)) number_limit ≡ b → Numbered t x (cond a (cond b (found (numeral 0 (drop x t)) (x + decimals (drop x t)) (skip t (x + decimals (drop x t)))) (refused NumberTooBig x)) absent)
    go true true i j = tt
    go true false i j = (refl, refl, (i, leb-false (numeral 0 (drop x t)) number_limit j))
    go false b i j = tt

-- what reading a jump gives
unfoldable Rises : ℕ → Option ℕ → Type 0
Rises from none = Unit {0}
Rises from (some to) = from ≤ to

unfoldable Ranged : List ℕ → ℕ → Seen Range → Type 0
Ranged t at (found (between from to) s e) = goal.Jumps t at from to s × Rises from to
Ranged t at absent = Unit {0}
Ranged t at (refused r p) = (inside : Bool) → goal.InToken t inside at r p

module _ (t : List ℕ) (at : ℕ) where
  ranged_checked : (from : ℕ) (to : Option ℕ) (stop : ℕ) → goal.Jumps t at from to stop → Ranged t at (checked t at from to stop)
  unfolding checked Ranged Rises
  ranged_checked from none stop j = (j, tt)
  ranged_checked from (some to) stop j = go (eqb from 0) (eqb to 0) (ltb to from) refl refl refl
    where
      go : (a b c : Bool) → eqb from 0 ≡ a → eqb to 0 ≡ b → ltb to from ≡ c → Ranged t at (cond (a && b) (refused JumpEmpty at) (cond c (refused JumpRangeInvalid at) (found (between from (some to)) stop (skip t stop))))
      go true true c i k l = λ inside. goal.empty (subst (λ (x : ℕ). goal.Jumps t at x (some 0) stop) (eqb-true from 0 i) (subst (λ (x : ℕ). goal.Jumps t at from (some x) stop) (eqb-true to 0 k) j))
      go true false true i k l = λ inside. goal.backwards j (ltb-true to from l)
      go true false false i k l = (j, ltb-false to from l)
      go false b true i k l = λ inside. goal.backwards j (ltb-true to from l)
      go false b false i k l = (j, ltb-false to from l)

  ranged_closed : (from : ℕ) (to : Option ℕ) (x : ℕ) → (get_or t x 0 ≡ code "]" → goal.Jumps t at from to (x + 1)) → Ranged t at (closed_at t at from to x)
  unfolding closed_at Ranged
  ranged_closed from to x j = go (eqb (get_or t x 0) (code "]")) refl
    where
      go : (b : Bool) → eqb (get_or t x 0) (code "]") ≡ b → Ranged t at (cond b (checked t at from to (x + 1)) absent)
      go true i = ranged_checked from to (x + 1) (j (eqb-true (get_or t x 0) (code "]") i))
      go false i = tt

  module _ (h : get_or t at 0 ≡ code "[") where
    ranged_upper : (from x : ℕ) → goal.From t (skip t (at + 1)) from x → get_or t x 0 ≡ code "-" → (n : Seen ℕ) → number_at t (skip t (x + 1)) ≡ n → Ranged t at (upper_at t at from (skip t (x + 1)) n)
    unfolding upper_at Ranged Numbered
    ranged_upper from x f d (found to s y) q = ranged_closed from (some to) y (λ k. goal.bounded h f d q k)
    ranged_upper from x f d absent q = ranged_closed from none (skip t (x + 1)) (λ k. goal.unbounded h f d q k)
    ranged_upper from x f d (refused r p) q =
        let z : Numbered t (skip t (x + 1)) (refused r p) = subst (λ (y : Seen ℕ). Numbered t (skip t (x + 1)) y) q (numbered t (skip t (x + 1))) in
        λ inside. subst (λ (a : Refusal). goal.InToken t inside at a p) (sym z.0) (subst (λ (a : ℕ). goal.InToken t inside at NumberTooBig a) (sym z.1) (goal.big_to h f d z.2))

    ranged_dash : (from x : ℕ) → goal.From t (skip t (at + 1)) from x → Ranged t at (dash_at t at from x)
    unfolding dash_at Ranged
    ranged_dash from x f = go (eqb (get_or t x 0) (code "-")) refl
      where
        go : (b : Bool) → eqb (get_or t x 0) (code "-") ≡ b → Ranged t at (cond b (upper_at t at from (skip t (x + 1)) (number_at t (skip t (x + 1)))) absent)
        go true i = ranged_upper from x f (eqb-true (get_or t x 0) (code "-") i) (number_at t (skip t (x + 1))) refl
        go false i = tt

    ranged_lower : (n : Seen ℕ) → number_at t (skip t (at + 1)) ≡ n → Ranged t at (lower_at t at (skip t (at + 1)) n)
    unfolding lower_at Ranged Numbered
    ranged_lower (found n s x) q = go (eqb (get_or t x 0) (code "]")) refl
      where
        go : (b : Bool) → eqb (get_or t x 0) (code "]") ≡ b → Ranged t at (cond b (checked t at n (some n) (x + 1)) (dash_at t at n x))
        go true i = ranged_checked n (some n) (x + 1) (goal.single h q (eqb-true (get_or t x 0) (code "]") i))
        go false i = ranged_dash n x (goal.number q)
    ranged_lower absent q = ranged_dash 0 (skip t (at + 1)) (goal.nothing q)
    ranged_lower (refused r p) q =
        let z : Numbered t (skip t (at + 1)) (refused r p) = subst (λ (y : Seen ℕ). Numbered t (skip t (at + 1)) y) q (numbered t (skip t (at + 1))) in
        λ inside. subst (λ (a : Refusal). goal.InToken t inside at a p) (sym z.0) (subst (λ (a : ℕ). goal.InToken t inside at NumberTooBig a) (sym z.1) (goal.big_from h z.2))

  ranged : Ranged t at (range_at t at)
  unfolding range_at Ranged
  ranged = go (eqb (get_or t at 0) (code "[")) refl
    where
      go : (b : Bool) → eqb (get_or t at 0) (code "[") ≡ b → Ranged t at (cond b (lower_at t at (skip t (at + 1)) (number_at t (skip t (at + 1)))) absent)
      go true i = ranged_lower (eqb-true (get_or t at 0) (code "[") i) (number_at t (skip t (at + 1))) refl
      go false i = tt

  move : {inside : Bool} {r s : Refusal} {p q : ℕ} → s ≡ r → q ≡ p → goal.InToken t inside at s q → goal.InToken t inside at r p
  move {inside} {r} {s} {p} {q} a b g = subst (λ (x : Refusal). goal.InToken t inside at x p) a (subst (λ (x : ℕ). goal.InToken t inside at s x) b g)

  jump_case : (inside : Bool) (r : Refusal) (p : ℕ) (x : Seen Range) → Ranged t at x → jumped inside at x ≡ refused r p → goal.InToken t inside at r p
  unfolding jumped Ranged Rises
  jump_case true r p (found (between from none) s e) h q = move (cc) (cc) (goal.open_inside refl h.0)
  jump_case false r p (found (between from none) s e) h q = never (cc)
  jump_case inside r p (found (between from (some to)) s e) h q = go inside (ltb inner_jump_limit to) refl refl
    where
      long : (i b : Bool) → inside ≡ i → ltb inner_jump_limit to ≡ b → ◌≡◌ {A = Seen Token} (cond (i && b) (refused JumpTooBigInAlternation at) (found (jump_token from to) s e)) (refused r p)
      long i b u v = ap₂ (λ (a c : Bool). cond (a && c) (refused JumpTooBigInAlternation at) (found (jump_token from to) s e)) (sym u) (sym v) ∙ q

      go : (i b : Bool) → inside ≡ i → ltb inner_jump_limit to ≡ b → goal.InToken t inside at r p
      go true true u v = let z = long true true u v in move (cc) (cc) (goal.long_inside u h.0 h.1 (ltb-true inner_jump_limit to v))
      go true false u v = let z = long true false u v in never (cc)
      go false b u v = let z = long false b u v in never (cc)
  jump_case inside r p absent h q = never (cc)
  jump_case inside r p (refused s y) h q = move (cc) (cc) (h inside)

  tilde_case : (inside : Bool) (r : Refusal) (p : ℕ) → get_or t at 0 ≡ code "~" → (x : Seen Hex) → hex_at t (at + 1) ≡ x → Hexed t (at + 1) x → leaf_at t inside at ≡ refused r p → goal.InToken t inside at r p
  unfolding negated ◌else◌ Hexed
  tilde_case inside r p o (found (whole v) s e) j h q = let z = leaf_not t at inside (not_hex t at o j) in never (cc)
  tilde_case inside r p o (found (masked v left) s e) j h q = let z = leaf_not t at inside (not_hex t at o j) in never (cc)
  tilde_case inside r p o (found (masked v right) s e) j h q = let z = leaf_not t at inside (not_hex t at o j) in never (cc)
  tilde_case inside r p o (found (masked v all) s e) j h q =
      let z = leaf_not t at inside (not_hex t at o j) in
      let i : at + 2 ≡ at + 1 + 1 = omega arith in
      move (cc) (cc) (goal.tilde_all o h.0 (ap (λ (x : ℕ). get_or t x 0) i ∙ h.1))
  tilde_case inside r p o absent j h q = let z = leaf_not t at inside (not_hex t at o j) in move (cc) (cc) (goal.after_tilde o j)
  tilde_case inside r p o (refused s y) j h q = absurd h

  other_case : (inside : Bool) (r : Refusal) (p : ℕ) → (get_or t at 0 ≡ code "~" → ⊥) → (x : Seen Hex) → hex_at t at ≡ x → Hexed t at x → leaf_at t inside at ≡ refused r p → goal.InToken t inside at r p
  unfolding hex_token ◌else◌ Hexed
  other_case inside r p o (found (whole v) s e) j h q = let z = leaf_not t at inside (not_else t at o) ∙ byte_else t at j _ in never (cc)
  other_case inside r p o (found (masked v m) s e) j h q = let z = leaf_not t at inside (not_else t at o) ∙ byte_else t at j _ in never (cc)
  other_case inside r p o absent j h q = jump_case inside r p (range_at t at) ranged (sym (leaf_not t at inside (not_else t at o) ∙ byte_else t at j _) ∙ q)
  other_case inside r p o (refused s y) j h q = absurd h

  pub refused_in_token : (inside : Bool) (r : Refusal) (p : ℕ) → leaf_at t inside at ≡ refused r p → goal.InToken t inside at r p
  refused_in_token inside r p q = go (eqb (get_or t at 0) (code "~")) refl
    where
      go : (b : Bool) → eqb (get_or t at 0) (code "~") ≡ b → goal.InToken t inside at r p
      go true i = tilde_case inside r p (eqb-true (get_or t at 0) (code "~") i) (hex_at t (at + 1)) refl (hexed t (at + 1)) q
      go false i = other_case inside r p (eqb-false (get_or t at 0) (code "~") i) (hex_at t at) refl (hexed t at) q
