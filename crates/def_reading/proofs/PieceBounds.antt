-- What a small reader finds lies inside the text, and is one entry of four words. Assumes nothing.
use mathlib.Core.Path.{◌≡◌, refl}
use mathlib.Core.Bool.{Bool, true, false, cond, ◌&&◌}
use mathlib.Core.Option.{Option, none, some}
use mathlib.Core.List.{List}
use Prim.Native.Char.{code}
use Prim.Native.Nat.{ℕ, ◌+◌, ◌*◌, ◌≤◌, ◌<◌}
use native.Mathlib.Omega.{arith}
use borrow.Author.Tests.{eqb-true}
use lib.Dec.{eqb, ltb, leb}
use lib.ListN.{length, drop, get_or, length-drop}
use Rattle.def_meaning.specs.Limits.{number_limit, inner_jump_limit}
use Rattle.def_meaning.specs.Tokens.{Mask, left, right, all, Token, MaskedByte, Jump}
use Rattle.def_meaning.specs.Entries.{entries_of}
use Rattle.def_reading.specs.Blanks.{skip}
use Rattle.def_reading.specs.Pieces.{Seen, found, absent, refused, up_to, Hex, whole, masked, Range, between, digit, two_digits, byte_at, one_digit, masked_at, hex_at, negated, not_at, decimals, numeral, number_at, checked, closed_at, upper_at, dash_at, lower_at, range_at, jump_token, jumped, hex_token, leaf_at, ◌else◌, decimal}
use Rattle.def_reading.proofs.PieceLaws.{here_at, here_in, within_true, skip_from, skip_in, decimals_le, number_next, digit_small}

-- what is found begins at `at`, is not empty, and ends inside the text
unfoldable pub Inside : {A : Type 0} → List ℕ → ℕ → Seen A → Type 0
Inside t at (found v s e) = (at < s) × (s ≤ e) × (e ≤ length t)
Inside t at absent = Unit {0}
Inside t at (refused r p) = Unit {0}

up_to_lem : {A : Type 0} (t : List ℕ) (at stop : ℕ) (v : A) → at < stop → stop ≤ length t → Inside t at (up_to t v stop)
unfolding Inside
up_to_lem t at stop v h l = (h, skip_from t stop, skip_in t stop l)

in_else : {A : Type 0} (t : List ℕ) (at : ℕ) → (x : Seen A) (y : Seen A) → Inside t at x → Inside t at y → Inside t at (x else y)
unfolding ◌else◌ Inside
in_else t at (found v s e) y h k = h
in_else t at absent y h k = k
in_else t at (refused r p) y h k = tt

-- one of two, by a test that gives a fact
by : {A : Type 0} (t : List ℕ) (at : ℕ) (b : Bool) (x y : Seen A) → (b ≡ true → Inside t at x) → Inside t at y → Inside t at (cond b x y)
by t at true x y h k = h refl
by t at false x y h k = k

module _ (t : List ℕ) (at : ℕ) where
  second : (v : ℕ) → digit (get_or t (at + 1) 0) ≡ some v → at + 2 ≤ length t
  second v d = omega (arith, here_in t (at + 1) (digit_small (get_or t (at + 1) 0) v d).1)

  byte_in_lem : Inside t at (byte_at t at)
  unfolding byte_at two_digits Inside
  byte_in_lem = go (digit (get_or t at 0)) (digit (get_or t (at + 1) 0)) refl
    where
      go : (x y : Option ℕ) → digit (get_or t (at + 1) 0) ≡ y → Inside t at (two_digits t at x y)
      go (some h) (some l) e = up_to_lem t at (at + 2) (whole (16 * h + l)) (omega arith) (second l e)
      go (some h) none e = tt
      go none y e = tt

  one_in : (m : Mask) (x : Option ℕ) → at + 2 ≤ length t → Inside t at (one_digit t at m x)
  unfolding one_digit Inside
  one_in m (some v) h = up_to_lem t at (at + 2) (masked v m) (omega arith) h
  one_in m none h = tt

  left_in : (x : Option ℕ) → digit (get_or t (at + 1) 0) ≡ x → Inside t at (one_digit t at left x)
  unfolding one_digit Inside
  left_in (some v) e = up_to_lem t at (at + 2) (masked v left) (omega arith) (second v e)
  left_in none e = tt

  question : eqb (get_or t (at + 1) 0) (code "?") ≡ true → at + 2 ≤ length t
  question h = omega (arith, here_at t (at + 1) (code "?") (eqb-true (get_or t (at + 1) 0) (code "?") h) (omega arith))

  masked_in : Inside t at (masked_at t at)
  unfolding masked_at Inside
  masked_in =
      by t at (eqb (get_or t at 0) (code "?")) _ _
      (λ z. by t at (eqb (get_or t (at + 1) 0) (code "?")) _ _ (λ h. up_to_lem t at (at + 2) (masked 0 all) (omega arith) (question h)) (left_in (digit (get_or t (at + 1) 0)) refl))
      (by t at (eqb (get_or t (at + 1) 0) (code "?")) _ _ (λ h. one_in right (digit (get_or t at 0)) (question h)) tt)

  pub hex_in : Inside t at (hex_at t at)
  unfolding hex_at
  hex_in = in_else t at (byte_at t at) (masked_at t at) byte_in_lem masked_in

  hex_token_in : (x : Seen Hex) → Inside t at x → Inside t at (hex_token x)
  unfolding hex_token Inside
  hex_token_in (found (whole v) s e) h = h
  hex_token_in (found (masked v m) s e) h = h
  hex_token_in absent h = tt
  hex_token_in (refused r p) h = tt

  negated_in : (x : Seen Hex) → Inside t (at + 1) x → Inside t at (negated at x)
  unfolding negated Inside
  negated_in (found (whole v) s e) h = (omega arith, h.1, h.2)
  negated_in (found (masked v left) s e) h = (omega arith, h.1, h.2)
  negated_in (found (masked v right) s e) h = (omega arith, h.1, h.2)
  negated_in (found (masked v all) s e) h = tt
  negated_in absent h = tt
  negated_in (refused r p) h = tt

pub not_in : (t : List ℕ) (at : ℕ) → Inside t at (not_at t at)
unfolding not_at Inside
not_in t at = by t at (eqb (get_or t at 0) (code "~")) _ _ (λ z. negated_in t at (hex_at t (at + 1)) (hex_in t (at + 1))) tt

pub number_in : (t : List ℕ) (at : ℕ) → Inside t at (number_at t at)
unfolding number_at Inside
number_in t at =
    by t at (decimal (get_or t at 0)) _ _
    (λ h. by t at (leb (numeral 0 (drop at t)) number_limit) _ _
    (λ z. let d = number_next t 0 at h in
    up_to_lem t at (at + decimals (drop at t)) (numeral 0 (drop at t)) (omega arith)
    (omega (arith, decimals_le (drop at t), length-drop at t, here_in t at (omega (arith, within_true (code "0") (code "9") (get_or t at 0) h))))) tt)
    tt

module _ (t : List ℕ) (at : ℕ) where
  checked_in : (from : ℕ) (to : Option ℕ) (stop : ℕ) → at < stop → stop ≤ length t → Inside t at (checked t at from to stop)
  unfolding checked Inside
  checked_in from none stop h l = up_to_lem t at stop (between from none) h l
  checked_in from (some to) stop h l = by t at (eqb from 0 && eqb to 0) _ _ (λ z. tt) (by t at (ltb to from) _ _ (λ z. tt) (up_to_lem t at stop (between from (some to)) h l))

  closed_in : (from : ℕ) (to : Option ℕ) (x : ℕ) → at < x → Inside t at (closed_at t at from to x)
  unfolding closed_at Inside
  closed_in from to x h =
      by t at (eqb (get_or t x 0) (code "]")) _ _
      (λ z. checked_in from to (x + 1) (omega arith) (omega (arith, here_at t x (code "]") (eqb-true (get_or t x 0) (code "]") z) (omega arith)))) tt

  upper_in : (from x : ℕ) (n : Seen ℕ) → at < x → Inside t x n → Inside t at (upper_at t at from x n)
  unfolding upper_at Inside
  upper_in from x (found n s e) h k = closed_in from (some n) e (omega arith)
  upper_in from x absent h k = closed_in from none x h
  upper_in from x (refused r p) h k = tt

  dash_in : (from x : ℕ) → at < x → Inside t at (dash_at t at from x)
  unfolding dash_at Inside
  dash_in from x h =
      by t at (eqb (get_or t x 0) (code "-")) _ _
      (λ z. upper_in from (skip t (x + 1)) (number_at t (skip t (x + 1))) (omega (arith, skip_from t (x + 1))) (number_in t (skip t (x + 1)))) tt

  lower_in : (x : ℕ) (n : Seen ℕ) → at < x → Inside t x n → Inside t at (lower_at t at x n)
  unfolding lower_at Inside
  lower_in x (found n s e) h k =
      by t at (eqb (get_or t e 0) (code "]")) _ _
      (λ z. checked_in n (some n) (e + 1) (omega arith) (omega (arith, here_at t e (code "]") (eqb-true (get_or t e 0) (code "]") z) (omega arith)))) (dash_in n e (omega arith))
  lower_in x absent h k = dash_in 0 x h
  lower_in x (refused r p) h k = tt

  pub range_in : Inside t at (range_at t at)
  unfolding range_at Inside
  range_in =
      by t at (eqb (get_or t at 0) (code "[")) _ _
      (λ z. lower_in (skip t (at + 1)) (number_at t (skip t (at + 1))) (omega (arith, skip_from t (at + 1))) (number_in t (skip t (at + 1)))) tt

  jumped_in : (inside : Bool) (x : Seen Range) → Inside t at x → Inside t at (jumped inside at x)
  unfolding jumped Inside
  jumped_in inside (found (between from none) s e) h = by t at inside _ _ (λ z. tt) h
  jumped_in inside (found (between from (some to)) s e) h = by t at (inside && ltb inner_jump_limit to) _ _ (λ z. tt) h
  jumped_in inside absent h = tt
  jumped_in inside (refused r p) h = tt

  pub leaf_in : (inside : Bool) → Inside t at (leaf_at t inside at)
  unfolding leaf_at
  leaf_in inside =
      in_else t at (not_at t at) _ (not_in t at)
      (in_else t at (hex_token (hex_at t at)) _ (hex_token_in t at (hex_at t at) (hex_in t at)) (jumped_in inside (range_at t at) range_in))

-- what is found is one entry
unfoldable pub OneEntry : Seen Token → Type 0
OneEntry (found tok s e) = length (entries_of tok) ≡ 4
OneEntry absent = Unit {0}
OneEntry (refused r p) = Unit {0}

entry_else : (x y : Seen Token) → OneEntry x → OneEntry y → OneEntry (x else y)
unfolding ◌else◌ OneEntry
entry_else (found v s e) y h k = h
entry_else absent y h k = k
entry_else (refused r p) y h k = tt

entry_by : (b : Bool) (x y : Seen Token) → OneEntry x → OneEntry y → OneEntry (cond b x y)
entry_by true x y h k = h
entry_by false x y h k = k

entry_hex_token : (x : Seen Hex) → OneEntry (hex_token x)
unfolding hex_token OneEntry entries_of
entry_hex_token (found (whole v) s e) = refl
entry_hex_token (found (masked v m) s e) = refl
entry_hex_token absent = tt
entry_hex_token (refused r p) = tt

entry_negated : (at : ℕ) (x : Seen Hex) → OneEntry (negated at x)
unfolding negated OneEntry entries_of
entry_negated at (found (whole v) s e) = refl
entry_negated at (found (masked v left) s e) = refl
entry_negated at (found (masked v right) s e) = refl
entry_negated at (found (masked v all) s e) = tt
entry_negated at absent = tt
entry_negated at (refused r p) = tt

entry_not : (t : List ℕ) (at : ℕ) → OneEntry (not_at t at)
unfolding not_at OneEntry
entry_not t at = entry_by (eqb (get_or t at 0) (code "~")) _ _ (entry_negated at (hex_at t (at + 1))) tt

entry_jump : (from to s e : ℕ) → OneEntry (found (jump_token from to) s e)
unfolding jump_token OneEntry entries_of
entry_jump from to s e = go (eqb from 1 && eqb to 1)
  where
    go : (b : Bool) → length (entries_of (cond b (MaskedByte 0 all) (Jump from (some to)))) ≡ 4
    go true = refl
    go false = refl

entry_jumped : (inside : Bool) (at : ℕ) (x : Seen Range) → OneEntry (jumped inside at x)
unfolding jumped OneEntry entries_of
entry_jumped inside at (found (between from none) s e) = entry_by inside _ _ tt refl
entry_jumped inside at (found (between from (some to)) s e) = entry_by (inside && ltb inner_jump_limit to) _ _ tt (entry_jump from to s e)
entry_jumped inside at absent = tt
entry_jumped inside at (refused r p) = tt

pub leaf_entry : (t : List ℕ) (inside : Bool) (at : ℕ) → OneEntry (leaf_at t inside at)
unfolding leaf_at
leaf_entry t inside at = entry_else (not_at t at) _ (entry_not t at) (entry_else (hex_token (hex_at t at)) _ (entry_hex_token (hex_at t at)) (entry_jumped inside at (range_at t at)))
