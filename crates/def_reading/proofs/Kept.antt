-- What holds of every token that can be spelled, and passes from tokens to lists, holds of the tokens of every accepted text.
-- Assumes nothing.
use mathlib.Core.Path.{◌≡◌, refl, subst}
use mathlib.Core.Bool.{Bool, true, false, cond, ◌&&◌}
use mathlib.Core.Option.{Option, none, some}
use mathlib.Core.List.{List}
use Prim.Native.Char.{code}
use Prim.Native.Nat.{ℕ, zero, suc, ◌+◌, ◌≤◌, ◌<◌}
use native.Mathlib.Omega.{arith}
use borrow.Author.Tests.{ltb-false}
use lib.Dec.{eqb, ltb}
use lib.ListN.{get_or}
use Rattle.def_meaning.specs.Limits.{token_limit, level_limit, inner_jump_limit}
use Rattle.def_meaning.specs.Tokens.{Mask, left, right, all, Token, Tokens, Lists, Byte, NotByte, MaskedByte, NotMaskedByte, Jump, Alternatives, nothing, ◌then◌, neither, ◌or◌}
use Rattle.def_meaning.specs.Values.{Filled}
use Rattle.def_reading.specs.Blanks.{skip}
use Rattle.def_reading.specs.Pieces.{Seen, found, absent, refused, Hex, whole, masked, Range, between, digit, two_digits, byte_at, one_digit, masked_at, hex_at, negated, not_at, number_at, checked, closed_at, upper_at, dash_at, lower_at, range_at, jump_token, jumped, hex_token, leaf_at, ◌else◌}
use Rattle.def_reading.specs.Lists.{Parsed, read, missing, stopped, token_or, as_token, bracketed, before, then_more, at_bound, list_of, beside, then_lists, token_f, more_f, list_f, lists_f, accepted, reading, enough}
use Rattle.def_reading.proofs.PieceLaws.{digit_small}
use Rattle.def_reading.proofs.TextLaws.{accepted_is}

-- what can be spelled: two digits for a byte and one for a half; a jump's from at most its to, which is not 0; alternatives with a list, none of them
-- empty
pub record Keeps (One : Token → Type 0) (All : Tokens → Type 0) (Any : Lists → Type 0) : Type 0 where
  pub byte : (v : ℕ) → v < 256 → One (Byte v)
  pub not_byte : (v : ℕ) → v < 256 → One (NotByte v)
  pub masked_byte : (v : ℕ) (m : Mask) → v < 16 → One (MaskedByte v m)
  pub not_masked : (v : ℕ) (m : Mask) → v < 16 → One (NotMaskedByte v m)
  pub open_jump : (from : ℕ) → One (Jump from none)
  pub jump : (from to : ℕ) → from ≤ to → 1 ≤ to → One (Jump from (some to))
  pub alternatives : (ls : Lists) → Any ls → One (Alternatives ls)
  pub empty : All nothing
  pub next : (tok : Token) (ts : Tokens) → One tok → All ts → All (tok then ts)
  pub last_list : (ts : Tokens) → Filled ts → All ts → Any (ts or neither)
  pub next_list : (ts : Tokens) (ls : Lists) → Filled ts → All ts → Any ls → Any (ts or ls)

-- a byte as spelled
unfoldable Small : Seen Hex → Type 0
Small (found (whole v) s e) = v < 256
Small (found (masked v m) s e) = v < 16
Small absent = Unit {0}
Small (refused r p) = Unit {0}

small_by : (b : Bool) (x y : Seen Hex) → Small x → Small y → Small (cond b x y)
small_by true x y h k = h
small_by false x y h k = k

small_one : (t : List ℕ) (at : ℕ) (m : Mask) (c : ℕ) → Small (one_digit t at m (digit c))
unfolding one_digit Small
small_one t at m c = go (digit c) refl
  where
    go : (x : Option ℕ) → digit c ≡ x → Small (one_digit t at m x)
    go (some v) e = (digit_small c v e).0
    go none e = tt

small_byte : (t : List ℕ) (at : ℕ) → Small (byte_at t at)
unfolding byte_at two_digits Small
small_byte t at = go (digit (get_or t at 0)) (digit (get_or t (at + 1) 0)) refl refl
  where
    go : (x y : Option ℕ) → digit (get_or t at 0) ≡ x → digit (get_or t (at + 1) 0) ≡ y → Small (two_digits t at x y)
    go (some h) (some l) d e = omega (arith, (digit_small (get_or t at 0) h d).0, (digit_small (get_or t (at + 1) 0) l e).0)
    go (some h) none d e = tt
    go none y d e = tt

small_else : (x y : Seen Hex) → Small x → Small y → Small (x else y)
unfolding ◌else◌ Small
small_else (found v s e) y h k = h
small_else absent y h k = k
small_else (refused r p) y h k = tt

small_hex : (t : List ℕ) (at : ℕ) → Small (hex_at t at)
unfolding hex_at masked_at Small
small_hex t at =
    small_else (byte_at t at) _ (small_byte t at)
    (small_by (eqb (get_or t at 0) (code "?")) _ _ (small_by (eqb (get_or t (at + 1) 0) (code "?")) _ _ (omega arith) (small_one t at left (get_or t (at + 1) 0)))
    (small_by (eqb (get_or t (at + 1) 0) (code "?")) _ _ (small_one t at right (get_or t at 0)) tt))

-- a jump's bounds
unfoldable Rising : Seen Range → Type 0
Rising (found (between from none) s e) = Unit {0}
Rising (found (between from (some to)) s e) = (from ≤ to) × (1 ≤ to)
Rising absent = Unit {0}
Rising (refused r p) = Unit {0}

rising_by : (b : Bool) (x y : Seen Range) → Rising x → (b ≡ false → Rising y) → Rising (cond b x y)
rising_by true x y h k = h
rising_by false x y h k = k refl

not_zeros : (from to : ℕ) → from ≤ to → (eqb from 0 && eqb to 0) ≡ false → 1 ≤ to
not_zeros zero zero l h = let y : ◌≡◌ {A = ℕ} 0 1 = cc in absurd (omega arith)
not_zeros (suc from) zero l h = absurd (omega arith)
not_zeros from (suc to) l h = omega arith

module _ (t : List ℕ) (at : ℕ) where
  rising_checked : (from : ℕ) (to : Option ℕ) (stop : ℕ) → Rising (checked t at from to stop)
  unfolding checked Rising
  rising_checked from none stop = tt
  rising_checked from (some to) stop = rising_by (eqb from 0 && eqb to 0) _ _ tt (λ z. rising_by (ltb to from) _ _ tt (λ h. (ltb-false to from h, not_zeros from to (ltb-false to from h) z)))

  rising_closed : (from : ℕ) (to : Option ℕ) (x : ℕ) → Rising (closed_at t at from to x)
  unfolding closed_at Rising
  rising_closed from to x = rising_by (eqb (get_or t x 0) (code "]")) _ _ (rising_checked from to (x + 1)) (λ z. tt)

  rising_upper : (from x : ℕ) (n : Seen ℕ) → Rising (upper_at t at from x n)
  unfolding upper_at Rising
  rising_upper from x (found n s e) = rising_closed from (some n) e
  rising_upper from x absent = rising_closed from none x
  rising_upper from x (refused r p) = tt

  rising_dash : (from x : ℕ) → Rising (dash_at t at from x)
  unfolding dash_at Rising
  rising_dash from x = rising_by (eqb (get_or t x 0) (code "-")) _ _ (rising_upper from (skip t (x + 1)) (number_at t (skip t (x + 1)))) (λ z. tt)

  rising_lower : (x : ℕ) (n : Seen ℕ) → Rising (lower_at t at x n)
  unfolding lower_at Rising
  rising_lower x (found n s e) = rising_by (eqb (get_or t e 0) (code "]")) _ _ (rising_checked n (some n) (e + 1)) (λ z. rising_dash n e)
  rising_lower x absent = rising_dash 0 x
  rising_lower x (refused r p) = tt

  rising_range : Rising (range_at t at)
  unfolding range_at Rising
  rising_range = rising_by (eqb (get_or t at 0) (code "[")) _ _ (rising_lower (skip t (at + 1)) (number_at t (skip t (at + 1)))) (λ z. tt)

module _ (One : Token → Type 0) (All : Tokens → Type 0) (Any : Lists → Type 0) (keeps : Keeps One All Any) where
  unfoldable Piece : Seen Token → Type 0
  Piece (found tok s e) = One tok
  Piece absent = Unit {0}
  Piece (refused r p) = Unit {0}

  unfoldable Is : Parsed Token → Type 0
  Is (read tok e c) = One tok
  Is missing = Unit {0}
  Is (stopped r p) = Unit {0}

  unfoldable Are : Parsed Tokens → Type 0
  Are (read ts e c) = All ts
  Are missing = Unit {0}
  Are (stopped r p) = Unit {0}

  -- a list as a whole
  unfoldable Full : Parsed Tokens → Type 0
  Full (read ts e c) = Filled ts × All ts
  Full missing = Unit {0}
  Full (stopped r p) = Unit {0}

  unfoldable May : Parsed Lists → Type 0
  May (read ls e c) = Any ls
  May missing = Unit {0}
  May (stopped r p) = Unit {0}

  piece_else : (x y : Seen Token) → Piece x → Piece y → Piece (x else y)
  unfolding ◌else◌ Piece
  piece_else (found v s e) y h k = h
  piece_else absent y h k = k
  piece_else (refused r p) y h k = tt

  piece_by : (b : Bool) (x y : Seen Token) → Piece x → Piece y → Piece (cond b x y)
  piece_by true x y h k = h
  piece_by false x y h k = k

  piece_hex_token : (x : Seen Hex) → Small x → Piece (hex_token x)
  unfolding hex_token Piece Small
  piece_hex_token (found (whole v) s e) h = keeps.byte v h
  piece_hex_token (found (masked v m) s e) h = keeps.masked_byte v m h
  piece_hex_token absent h = tt
  piece_hex_token (refused r p) h = tt

  piece_negated : (at : ℕ) (x : Seen Hex) → Small x → Piece (negated at x)
  unfolding negated Piece Small
  piece_negated at (found (whole v) s e) h = keeps.not_byte v h
  piece_negated at (found (masked v left) s e) h = keeps.not_masked v left h
  piece_negated at (found (masked v right) s e) h = keeps.not_masked v right h
  piece_negated at (found (masked v all) s e) h = tt
  piece_negated at absent h = tt
  piece_negated at (refused r p) h = tt

  one_jump : (b : Bool) (from to : ℕ) → (from ≤ to) × (1 ≤ to) → One (cond b (MaskedByte 0 all) (Jump from (some to)))
  one_jump true from to h = keeps.masked_byte 0 all (omega arith)
  one_jump false from to h = keeps.jump from to h.0 h.1

  piece_jumped : (inside : Bool) (at : ℕ) (x : Seen Range) → Rising x → Piece (jumped inside at x)
  unfolding jumped jump_token Piece Rising
  piece_jumped inside at (found (between from none) s e) h = piece_by inside _ _ tt (keeps.open_jump from)
  piece_jumped inside at (found (between from (some to)) s e) h = piece_by (inside && ltb inner_jump_limit to) _ _ tt (one_jump (eqb from 1 && eqb to 1) from to h)
  piece_jumped inside at absent h = tt
  piece_jumped inside at (refused r p) h = tt

  piece_leaf : (t : List ℕ) (inside : Bool) (at : ℕ) → Piece (leaf_at t inside at)
  unfolding leaf_at not_at Piece
  piece_leaf t inside at =
      piece_else _ _ (piece_by (eqb (get_or t at 0) (code "~")) _ _ (piece_negated at (hex_at t (at + 1)) (small_hex t (at + 1))) tt)
      (piece_else _ _ (piece_hex_token (hex_at t at) (small_hex t at)) (piece_jumped inside at (range_at t at) (rising_range t at)))

  is_by : (b : Bool) (x y : Parsed Token) → Is x → Is y → Is (cond b x y)
  is_by true x y h k = h
  is_by false x y h k = k

  is_or : (at c : ℕ) (x : Seen Token) (y : Parsed Token) → Piece x → Is y → Is (token_or at c x y)
  unfolding token_or Piece Is
  is_or at c (found tok s e) y h k = is_by (ltb c token_limit) _ _ h tt
  is_or at c absent y h k = k
  is_or at c (refused r p) y h k = tt

  is_token : (y : Parsed Lists) → May y → Is (as_token y)
  unfolding as_token Is May
  is_token (read ls e c) h = keeps.alternatives ls h
  is_token missing h = tt
  is_token (stopped r p) h = tt

  is_bracketed : (t : List ℕ) (at c : ℕ) (y : Parsed Lists) → May y → Is (bracketed t at c y)
  unfolding bracketed Is
  is_bracketed t at c y h = is_by (eqb (get_or t at 0) (code "(")) _ _ (is_by (ltb c token_limit) _ _ (is_token y h) tt) tt

  are_before : (tok : Token) (y : Parsed Tokens) → One tok → Are y → Are (before tok y)
  unfolding before Are
  are_before tok (read ts e c) h k = keeps.next tok ts h k
  are_before tok missing h k = tt
  are_before tok (stopped r p) h k = tt

  are_then : (at c : ℕ) (x : Parsed Token) (more : ℕ → ℕ → Parsed Tokens) → Is x → ((d e : ℕ) → Are (more d e)) → Are (then_more at c x more)
  unfolding then_more Is Are
  are_then at c (read tok e d) more h k = are_before tok (more d e) h (k d e)
  are_then at c missing more h k = keeps.empty
  are_then at c (stopped r p) more h k = tt

  full_by : (b : Bool) (x y : Parsed Tokens) → Full x → Full y → Full (cond b x y)
  full_by true x y h k = h
  full_by false x y h k = k

  full_list : (at : ℕ) (x : Parsed Tokens) → Are x → Full (list_of at x)
  unfolding list_of Are Full Filled
  full_list at (read nothing e c) h = tt
  full_list at (read (tok then ts) e c) h = full_by (at_bound (tok then ts)) _ _ tt (tt, h)
  full_list at missing h = tt
  full_list at (stopped r p) h = tt

  may_beside : (ts : Tokens) (y : Parsed Lists) → Filled ts → All ts → May y → May (beside ts y)
  unfolding beside May
  may_beside ts (read ls e c) f h k = keeps.next_list ts ls f h k
  may_beside ts missing f h k = tt
  may_beside ts (stopped r p) f h k = tt

  may_by : (b : Bool) (x y : Parsed Lists) → May x → May y → May (cond b x y)
  may_by true x y h k = h
  may_by false x y h k = k

  may_then : (t : List ℕ) (miss : ℕ) (x : Parsed Tokens) (more : ℕ → ℕ → ℕ → Parsed Lists) → Full x → ((d e m : ℕ) → May (more d e m)) → May (then_lists t miss x more)
  unfolding then_lists Full May
  may_then t miss (read ts e c) more h k =
      may_by (eqb (get_or t e 0) (code ")")) _ _ (keeps.last_list ts h.0 h.1) (may_by (eqb (get_or t e 0) (code "|")) _ _ (may_beside ts (more c (skip t (e + 1)) e) h.0 h.1 (k c (skip t (e + 1)) e)) tt)
  may_then t miss missing more h k = tt
  may_then t miss (stopped r p) more h k = tt

  mutual
    unfolding token_f more_f list_f lists_f Is Are Full May

    token_kept : (f : ℕ) (t : List ℕ) (l c at : ℕ) → Is (token_f f t l c at)
    token_kept zero t l c at = tt
    token_kept (suc f) t l c at = is_or at c (leaf_at t (ltb 1 l) at) _ (piece_leaf t (ltb 1 l) at) (is_bracketed t at c _ (lists_kept f t (l + 1) (c + 1) (skip t (at + 1)) (skip t (at + 1))))

    more_kept : (f : ℕ) (t : List ℕ) (l c at : ℕ) → Are (more_f f t l c at)
    more_kept zero t l c at = tt
    more_kept (suc f) t l c at = are_then at c (token_f f t l c at) (λ d x. more_f f t l d x) (token_kept f t l c at) (λ d x. more_kept f t l d x)

    list_kept : (f : ℕ) (t : List ℕ) (l c at : ℕ) → Full (list_f f t l c at)
    list_kept zero t l c at = tt
    list_kept (suc f) t l c at = full_by (ltb level_limit l) _ _ tt (full_list at (more_f f t l c at) (more_kept f t l c at))

    lists_kept : (f : ℕ) (t : List ℕ) (l c at miss : ℕ) → May (lists_f f t l c at miss)
    lists_kept zero t l c at miss = tt
    lists_kept (suc f) t l c at miss = may_then t miss (list_f f t l c at) (λ d x m. lists_f f t l d x m) (list_kept f t l c at) (λ d x m. lists_kept f t l d x m)

  pub accepted_keeps : (t : List ℕ) (e : ℕ) (ts : Tokens) → reading t ≡ accepted e ts → All ts
  unfolding Full
  accepted_keeps t e ts h =
      let a = accepted_is t e ts h in
      (subst (λ (x : Parsed Tokens). Full x) a.inner (list_kept (enough t (skip t 1)) t 1 0 (skip t 1))).1
