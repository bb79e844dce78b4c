-- No blank follows what the readers of tokens read, and where they miss a token none stands. Assumes nothing.
use mathlib.Core.Path.{◌≡◌, refl, sym, subst}
use mathlib.Core.Bool.{Bool, true, false, cond, ◌&&◌}
use mathlib.Core.Option.{Option, none, some}
use mathlib.Core.List.{List}
use Prim.Native.Char.{code}
use Prim.Native.Nat.{ℕ, zero, suc, ◌+◌, ◌-◌, ◌<◌}
use native.Mathlib.Omega.{arith}
use borrow.Author.Tests.{eqb-true, eqb-false}
use lib.Dec.{eqb, ltb}
use lib.ListN.{length, drop}
use Rattle.base.specs.declared.Refusal.TheVariants.{TooManyTokens}
use Rattle.def_meaning.specs.Limits.{token_limit, inner_jump_limit}
use Rattle.def_meaning.specs.Tokens.{Mask, left, right, all, Token, Tokens, Lists}
use Rattle.def_reading.specs.Blanks.{here, skip}
use Rattle.def_reading.specs.Pieces.{Seen, found, absent, refused, up_to, ◌else◌, digit, Hex, whole, masked, two_digits, byte_at, one_digit, masked_at, hex_at, hex_token, negated, not_at, number_at, Range, between, checked, closed_at, upper_at, dash_at, lower_at, range_at, jumped, leaf_at}
use Rattle.def_reading.specs.Lists.{Parsed, read, missing, stopped, token_or, as_token, bracketed, beside, token, list, lists}
use Rattle.def_reading.proofs.PieceLaws.{skip_from}
use Rattle.def_reading.proofs.ListSteps.{list_gone, token_step, lists_closed, lists_barred, lists_else, lists_missing, lists_stopped}
use Rattle.def_grammar.proofs.Spelling.{NoBlank}
use Rattle.def_grammar.proofs.Standing.{skip_clear}

-- what a small reader finds ends after its blanks
unfoldable Ends : {A : Type 0} → List ℕ → Seen A → Type 0
Ends t (found v s e) = NoBlank (drop e t)
Ends t absent = Unit {0}
Ends t (refused r p) = Unit {0}

module _ (t : List ℕ) where
  up_to_ends : {A : Type 0} (v : A) (stop : ℕ) → Ends t (up_to t v stop)
  unfolding Ends
  up_to_ends v stop = skip_clear t stop

  else_ends : {A : Type 0} (x y : Seen A) → Ends t x → Ends t y → Ends t (x else y)
  unfolding Ends ◌else◌
  else_ends (found v s e) y h k = h
  else_ends absent y h k = k
  else_ends (refused r p) y h k = h

  cond_ends : {A : Type 0} (b : Bool) (x y : Seen A) → Ends t x → Ends t y → Ends t (cond b x y)
  cond_ends true x y h k = h
  cond_ends false x y h k = k

  two_ends : (at : ℕ) (x y : Option ℕ) → Ends t (two_digits t at x y)
  unfolding Ends two_digits
  two_ends at (some h) (some l) = skip_clear t (at + 2)
  two_ends at (some h) none = tt
  two_ends at none y = tt

  one_ends : (at : ℕ) (m : Mask) (x : Option ℕ) → Ends t (one_digit t at m x)
  unfolding Ends one_digit
  one_ends at m (some v) = skip_clear t (at + 2)
  one_ends at m none = tt

  masked_ends : (at : ℕ) → Ends t (masked_at t at)
  unfolding Ends masked_at
  masked_ends at =
      cond_ends (eqb (here t at) (code "?")) _ _
      (cond_ends (eqb (here t (at + 1)) (code "?")) _ _ (up_to_ends (masked 0 all) (at + 2)) (one_ends at left (digit (here t (at + 1)))))
      (cond_ends (eqb (here t (at + 1)) (code "?")) _ _ (one_ends at right (digit (here t at))) tt)

  hex_ends : (at : ℕ) → Ends t (hex_at t at)
  unfolding hex_at byte_at
  hex_ends at = else_ends (byte_at t at) (masked_at t at) (two_ends at (digit (here t at)) (digit (here t (at + 1)))) (masked_ends at)

  hex_token_ends : (x : Seen Hex) → Ends t x → Ends t (hex_token x)
  unfolding Ends hex_token
  hex_token_ends (found (whole v) s e) h = h
  hex_token_ends (found (masked v m) s e) h = h
  hex_token_ends absent h = tt
  hex_token_ends (refused r p) h = tt

  negated_ends : (at : ℕ) (x : Seen Hex) → Ends t x → Ends t (negated at x)
  unfolding Ends negated
  negated_ends at (found (whole v) s e) h = h
  negated_ends at (found (masked v left) s e) h = h
  negated_ends at (found (masked v right) s e) h = h
  negated_ends at (found (masked v all) s e) h = tt
  negated_ends at absent h = tt
  negated_ends at (refused r p) h = tt

  checked_ends : (at from : ℕ) (to : Option ℕ) (stop : ℕ) → Ends t (checked t at from to stop)
  unfolding Ends checked
  checked_ends at from none stop = skip_clear t stop
  checked_ends at from (some to) stop = cond_ends (eqb from 0 && eqb to 0) _ _ tt (cond_ends (ltb to from) _ _ tt (up_to_ends (between from (some to)) stop))

  closed_ends : (at from : ℕ) (to : Option ℕ) (x : ℕ) → Ends t (closed_at t at from to x)
  unfolding Ends closed_at
  closed_ends at from to x = cond_ends (eqb (here t x) (code "]")) _ _ (checked_ends at from to (x + 1)) tt

  upper_ends : (at from x : ℕ) (n : Seen ℕ) → Ends t (upper_at t at from x n)
  unfolding Ends upper_at
  upper_ends at from x (found n s e) = closed_ends at from (some n) e
  upper_ends at from x absent = closed_ends at from none x
  upper_ends at from x (refused r p) = tt

  dash_ends : (at from x : ℕ) → Ends t (dash_at t at from x)
  unfolding Ends dash_at
  dash_ends at from x = cond_ends (eqb (here t x) (code "-")) _ _ (upper_ends at from (skip t (x + 1)) (number_at t (skip t (x + 1)))) tt

  lower_ends : (at x : ℕ) (n : Seen ℕ) → Ends t (lower_at t at x n)
  unfolding Ends lower_at
  lower_ends at x (found n s e) = cond_ends (eqb (here t e) (code "]")) _ _ (checked_ends at n (some n) (e + 1)) (dash_ends at n e)
  lower_ends at x absent = dash_ends at 0 x
  lower_ends at x (refused r p) = tt

  jumped_ends : (inside : Bool) (at : ℕ) (x : Seen Range) → Ends t x → Ends t (jumped inside at x)
  unfolding Ends jumped
  jumped_ends inside at (found (between from none) s e) h = cond_ends inside _ _ tt h
  jumped_ends inside at (found (between from (some to)) s e) h = cond_ends (inside && ltb inner_jump_limit to) _ _ tt h
  jumped_ends inside at absent h = tt
  jumped_ends inside at (refused r p) h = tt

  leaf_ends : (inside : Bool) (at : ℕ) → Ends t (leaf_at t inside at)
  unfolding Ends leaf_at not_at range_at
  leaf_ends inside at =
      else_ends (cond (eqb (here t at) (code "~")) (negated at (hex_at t (at + 1))) absent) _ (cond_ends (eqb (here t at) (code "~")) _ _ (negated_ends at (hex_at t (at + 1)) (hex_ends (at + 1))) tt)
      (else_ends (hex_token (hex_at t at)) _ (hex_token_ends (hex_at t at) (hex_ends at))
      (jumped_ends inside at (cond (eqb (here t at) (code "[")) (lower_at t at (skip t (at + 1)) (number_at t (skip t (at + 1)))) absent)
      (cond_ends (eqb (here t at) (code "[")) _ _ (lower_ends at (skip t (at + 1)) (number_at t (skip t (at + 1)))) tt)))

  pub leaf_clear : (inside : Bool) (at : ℕ) (tok : Token) (s e : ℕ) → leaf_at t inside at ≡ found tok s e → NoBlank (drop e t)
  unfolding Ends
  leaf_clear inside at tok s e h = subst (λ (x : Seen Token). Ends t x) h (leaf_ends inside at)

  -- lists in brackets are not missing, and no blank follows them
  unfoldable After : Parsed Lists → Type 0
  After (read ls e d) = NoBlank (drop e t)
  After missing = ⊥
  After (stopped r p) = Unit {0}

  beside_after : (ts : Tokens) (x : Parsed Lists) → After x → After (beside ts x)
  unfolding After beside
  beside_after ts (read ls e d) h = h
  beside_after ts missing h = h
  beside_after ts (stopped r p) h = h

  lists_after_by : (level count at miss : ℕ) → ((ts : Tokens) (e d : ℕ) → list t level count at ≡ read ts e d → After (lists t level d (skip t (e + 1)) e)) → After (lists t level count at miss)
  unfolding After
  lists_after_by level count at miss later = go (list t level count at) refl
    where
      over : {x : Parsed Lists} → lists t level count at miss ≡ x → After x → After (lists t level count at miss)
      over q a = subst (λ (x : Parsed Lists). After x) (sym q) a

      then : (ts : Tokens) (e d : ℕ) → list t level count at ≡ read ts e d → (a b : Bool) → eqb (here t e) (code ")") ≡ a → eqb (here t e) (code "|") ≡ b → After (lists t level count at miss)
      then ts e d q true b i j = over (lists_closed t level count at miss q (eqb-true (here t e) (code ")") i)) (skip_clear t (e + 1))
      then ts e d q false true i j = over (lists_barred t level count at miss q (eqb-true (here t e) (code "|") j)) (beside_after ts _ (later ts e d q))
      then ts e d q false false i j = over (lists_else t level count at miss q (eqb-false (here t e) (code ")") i) (eqb-false (here t e) (code "|") j)) tt

      go : (x : Parsed Tokens) → list t level count at ≡ x → After (lists t level count at miss)
      go (read ts e d) q = then ts e d q (eqb (here t e) (code ")")) (eqb (here t e) (code "|")) refl refl
      go missing q = over (lists_missing t level count at miss q) tt
      go (stopped r p) q = over (lists_stopped t level count at miss q) tt

  lists_after : (n level count at miss : ℕ) → length t - at < n → After (lists t level count at miss)
  lists_after zero level count at miss h = absurd (omega arith)
  lists_after (suc n) level count at miss h =
      lists_after_by level count at miss (λ ts e d q.
      let g = list_gone t level count at q in
      let k = skip_from t (e + 1) in
      lists_after n level d (skip t (e + 1)) e (omega arith))

  -- a token that is read has no blank after it; one that is missing is no leaf, and no `(` stands there
  unfoldable pub TokenAfter : ℕ → ℕ → Parsed Token → Type 0
  TokenAfter level at (read tok e d) = NoBlank (drop e t)
  TokenAfter level at missing = (leaf_at t (ltb 1 level) at ≡ absent) × (here t at ≡ code "(" → ⊥)
  TokenAfter level at (stopped r p) = Unit {0}

  as_after : (level at : ℕ) (x : Parsed Lists) → After x → TokenAfter level at (as_token x)
  unfolding After as_token TokenAfter
  as_after level at (read ls e d) h = h
  as_after level at missing h = absurd h
  as_after level at (stopped r p) h = tt

  pub token_after : (level count at : ℕ) → TokenAfter level at (token t level count at)
  unfolding token_or bracketed TokenAfter
  token_after level count at = subst (λ (x : Parsed Token). TokenAfter level at x) (sym (token_step t level count at)) (go (leaf_at t (ltb 1 level) at) refl)
    where
      inner : Parsed Lists
      inner = lists t (level + 1) (count + 1) (skip t (at + 1)) (skip t (at + 1))

      opens : leaf_at t (ltb 1 level) at ≡ absent → (a b : Bool) → eqb (here t at) (code "(") ≡ a → TokenAfter level at (cond a (cond b (as_token inner) (stopped TooManyTokens at)) missing)
      opens q true true i = as_after level at inner (lists_after (suc (length t - skip t (at + 1))) (level + 1) (count + 1) (skip t (at + 1)) (skip t (at + 1)) (omega arith))
      opens q true false i = tt
      opens q false b i = (q, eqb-false (here t at) (code "(") i)

      counts : (tok : Token) (s e : ℕ) → leaf_at t (ltb 1 level) at ≡ found tok s e → (a : Bool) → TokenAfter level at (cond a (read tok e (count + 1)) (stopped TooManyTokens at))
      counts tok s e q true = leaf_clear (ltb 1 level) at tok s e q
      counts tok s e q false = tt

      go : (x : Seen Token) → leaf_at t (ltb 1 level) at ≡ x → TokenAfter level at (token_or at count x (bracketed t at count inner))
      go (found tok s e) q = counts tok s e q (ltb count token_limit)
      go absent q = opens q (eqb (here t at) (code "(")) (ltb count token_limit) refl
      go (refused r p) q = tt
