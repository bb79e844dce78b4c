-- The program of simple tokens, as a text spells them, has fields that fit. Assumes nothing.
use mathlib.Core.Path.{◌≡◌, refl}
use mathlib.Core.Bool.{Bool, true, false}
use mathlib.Core.Option.{none, some}
use Prim.Native.Nat.{ℕ, ◌+◌, ◌*◌, ◌≤◌, ◌<◌}
use native.Mathlib.Omega.{arith}
use lib.Dec.{leb, ltb}
use borrow.Author.Tests.{leb-true, le-ltb, ltb-false}
use Rattle.def_meaning.specs.Limits.{jump_limit}
use Rattle.def_meaning.specs.Tokens.{Mask, left, right, all, Token, Tokens, Lists, Byte, NotByte, MaskedByte, NotMaskedByte, Jump, Alternatives, nothing, ◌then◌, neither, ◌or◌}
use Rattle.def_meaning.specs.Values.{Filled, SpelledOne, Spelled, SpelledFirst, SpelledMore}
use Rattle.def_meaning.specs.Programs.{Item, Prog, one, jump, range, alt, end, ◌▹◌}
use Rattle.def_meaning.specs.NodeWords.{Under}
use Rattle.def_meaning.specs.Words.{is_flat, flat_prog}
use Rattle.def_meaning.proofs.ProperLaws.{OfTest}
use Rattle.def_meaning.proofs.SoundLaws.{and_left, and_right, false_true}
use Rattle.def_compiling.specs.Compiling.{jump_of, pair_by, add, item_of, added, branches_for, forward_program}
use Rattle.def_compiling.specs.Compile.{flat_token, flat_tokens, flat_branches, simple_token, simple}
use Rattle.def_compiling.proofs.MaskLaws.{low_under, high_under, byte_under}
use Rattle.def_compiling.proofs.SaidLaws.{Some, FitOf, Fit, FitFirst, FitMore}
use Rattle.def_compiling.proofs.TokenSpans.{BoundedOne, Bounded, BoundedIn}

-- what holds of two items, and of two jumps merged, holds of them added
module _ (P : Prog → Type 0) where
  pub pair_keeps : (i j : Item) → P (i ▹ j ▹ end) → ((m n : ℕ) → m + n ≤ jump_limit → P (jump m ▹ jump n ▹ end) → P (jump (m + n) ▹ end)) → P (pair_by (jump_of i) (jump_of j) i j)
  unfolding pair_by jump_of
  pair_keeps (one t) j h g = h
  pair_keeps (jump m) (one t) h g = h
  pair_keeps (jump m) (jump n) h g = go (leb (m + n) jump_limit) refl
    where
      go : (t : Bool) → leb (m + n) jump_limit ≡ t → P (pair_by (jump_of (jump m)) (jump_of (jump n)) (jump m) (jump n))
      go true e = rw e (g m n (leb-true (m + n) jump_limit e) h)
      go false e = rw e h
  pair_keeps (jump m) (range a b) h g = h
  pair_keeps (jump m) (alt bs) h g = h
  pair_keeps (range a b) j h g = h
  pair_keeps (alt bs) j h g = h

add_fit : (p : Prog) (j : Item) → Fit p → FitOf j → Fit (add p j)
unfolding Fit add
add_fit end j h g = (g, tt)
add_fit (i ▹ end) j h g = pair_keeps Fit i j (h.0, (g, tt)) (λ m n l f. ((omega (arith, f.0.0), omega arith), tt))
add_fit (i ▹ (k ▹ p)) j h g = (h.0, add_fit (k ▹ p) j h.1 g)

add_flat : (p : Prog) (j : Item) → flat_prog p ≡ true → is_flat j ≡ true → flat_prog (add p j) ≡ true
unfolding flat_prog is_flat add
add_flat end j h g = rw g
add_flat (i ▹ end) j h g = pair_keeps (λ (q : Prog). flat_prog q ≡ true) i j (rw (and_left (is_flat i) true h, g)) (λ m n l f. refl)
add_flat (i ▹ (k ▹ p)) j h g = rw (and_left (is_flat i) _ h, add_flat (k ▹ p) j (and_right (is_flat i) _ h) g)

-- a jump within the limit
jump_fits : (from to : ℕ) → from ≤ to → 1 ≤ to → leb to jump_limit ≡ true → FitOf (item_of (Jump from (some to)))
unfolding Fit item_of
jump_fits from to l s h = go (ltb from to) refl
  where
    go : (t : Bool) → ltb from to ≡ t → FitOf (item_of (Jump from (some to)))
    go true e = let m : to ≤ jump_limit = leb-true to jump_limit h in rw e (l, omega arith)
    go false e = let m : to ≤ jump_limit = leb-true to jump_limit h in let f : to ≤ from = ltb-false from to e in rw e (omega arith, omega arith)

jump_flat : (from to : ℕ) → leb to from ≡ true → is_flat (item_of (Jump from (some to))) ≡ true
unfolding item_of is_flat
jump_flat from to h = rw (le-ltb from to (leb-true to from h))

-- bytes and masks
low_fits : (v : ℕ) → v < 16 → (v < 256) × (0x0F < 256) × Under v 0x0F
low_fits v h = (omega arith, omega arith, low_under v h)

high_fits : (v : ℕ) → v < 16 → (16 * v < 256) × (0xF0 < 256) × Under (16 * v) 0xF0
high_fits v h = (omega arith, omega arith, high_under v h)

not_byte_fits : (v : ℕ) → v < 256 → (v < 256) × (0xFF < 256) × Under v 0xFF
not_byte_fits v h = (h, omega arith, byte_under v h)

mask_fits : (v : ℕ) (m : Mask) → v < 16 → FitOf (item_of (MaskedByte v m))
unfolding Fit OfTest item_of
mask_fits v left h = low_fits v h
mask_fits v right h = high_fits v h
mask_fits v all h = omega arith

not_mask_fits : (v : ℕ) (m : Mask) → v < 16 → FitOf (item_of (NotMaskedByte v m))
unfolding Fit OfTest item_of
not_mask_fits v left h = low_fits v h
not_mask_fits v right h = high_fits v h
not_mask_fits v all h = (omega arith, omega arith, refl)

mask_flat : (v : ℕ) (m : Mask) → is_flat (item_of (MaskedByte v m)) ≡ true
unfolding item_of is_flat
mask_flat v left = refl
mask_flat v right = refl
mask_flat v all = refl

not_mask_flat : (v : ℕ) (m : Mask) → is_flat (item_of (NotMaskedByte v m)) ≡ true
unfolding item_of is_flat
not_mask_flat v left = refl
not_mask_flat v right = refl
not_mask_flat v all = refl

flat_fits : (t : Token) → SpelledOne t → flat_token t ≡ true → FitOf (item_of t) × (is_flat (item_of t) ≡ true)
unfolding Fit OfTest SpelledOne flat_token is_flat item_of
flat_fits (Byte v) h g = (h, refl)
flat_fits (NotByte v) h g = (not_byte_fits v h, refl)
flat_fits (MaskedByte v m) h g = (mask_fits v m h, mask_flat v m)
flat_fits (NotMaskedByte v m) h g = (not_mask_fits v m h, not_mask_flat v m)
flat_fits (Jump from none) h g = false_true g
flat_fits (Jump from (some to)) h g = (jump_fits from to h.0 h.1 (and_left (leb to jump_limit) (leb to from) g), jump_flat from to (and_right (leb to jump_limit) (leb to from) g))
flat_fits (Alternatives ls) h g = false_true g

-- a branch
flat_added : (ts : Tokens) (p : Prog) → Spelled ts → flat_tokens ts ≡ true → Fit p → flat_prog p ≡ true → Fit (added ts p) × (flat_prog (added ts p) ≡ true)
unfolding Spelled flat_tokens added
flat_added nothing p h g f q = (f, q)
flat_added (t then ts) p h g f q =
    let r = flat_fits t h.0 (and_left (flat_token t) (flat_tokens ts) g) in
    flat_added ts (add p (item_of t)) h.1 (and_right (flat_token t) (flat_tokens ts) g) (add_fit p (item_of t) f r.0) (add_flat p (item_of t) q r.1)

-- a list that has a token adds an item
add_some : (p : Prog) (j : Item) → Some (add p j)
unfolding Some add
add_some end j = tt
add_some (i ▹ end) j = pair_keeps Some i j tt (λ m n l f. tt)
add_some (i ▹ (k ▹ p)) j = tt

added_some : (ts : Tokens) (p : Prog) → Some p → Some (added ts p)
unfolding added
added_some nothing p h = h
added_some (t then ts) p h = added_some ts (add p (item_of t)) (add_some p (item_of t))

filled_added : (ts : Tokens) → Filled ts → Some (added ts end)
unfolding Filled added
filled_added nothing h = absurd h
filled_added (t then ts) h = added_some ts (add end (item_of t)) (add_some end (item_of t))

more_fit : (ls : Lists) → SpelledMore ls → flat_branches ls ≡ true → FitMore (branches_for ls)
unfolding Spelled flat_branches branches_for Fit flat_prog
more_fit neither h g = tt
more_fit (ts or ls) h g =
    let r = flat_added ts end h.0 (and_left (flat_tokens ts) (flat_branches ls) g) tt refl in
    (r.0, r.1, filled_added ts h.2, more_fit ls h.1 (and_right (flat_tokens ts) (flat_branches ls) g))

first_fit : (ls : Lists) → SpelledFirst ls → flat_branches ls ≡ true → FitFirst (branches_for ls)
unfolding Spelled flat_branches branches_for Fit flat_prog
first_fit neither h g = h
first_fit (ts or ls) h g =
    let r = flat_added ts end h.0 (and_left (flat_tokens ts) (flat_branches ls) g) tt refl in
    (r.0, r.1, filled_added ts h.2, more_fit ls h.1 (and_right (flat_tokens ts) (flat_branches ls) g))

-- the outer list
simple_fits : (t : Token) → SpelledOne t → simple_token t ≡ true → FitOf (item_of t)
unfolding Fit OfTest SpelledOne simple_token item_of
simple_fits (Byte v) h g = h
simple_fits (NotByte v) h g = not_byte_fits v h
simple_fits (MaskedByte v m) h g = mask_fits v m h
simple_fits (NotMaskedByte v m) h g = not_mask_fits v m h
simple_fits (Jump from none) h g = false_true g
simple_fits (Jump from (some to)) h g = jump_fits from to h.0 h.1 g
simple_fits (Alternatives ls) h g = first_fit ls h g

simple_added : (ts : Tokens) (p : Prog) → Spelled ts → simple ts ≡ true → Fit p → Fit (added ts p)
unfolding Spelled simple added
simple_added nothing p h g f = f
simple_added (t then ts) p h g f =
    simple_added ts (add p (item_of t)) h.1 (and_right (simple_token t) (simple ts) g) (add_fit p (item_of t) f (simple_fits t h.0 (and_left (simple_token t) (simple ts) g)))

pub forward_fits : (ts : Tokens) → Spelled ts → simple ts ≡ true → Fit (forward_program ts)
unfolding forward_program Fit
forward_fits ts h g = simple_added ts end h g tt

-- simple tokens have no unbounded jump
flat_bounded_one : (t : Token) → flat_token t ≡ true → BoundedOne t
unfolding BoundedOne flat_token
flat_bounded_one (Byte v) g = tt
flat_bounded_one (NotByte v) g = tt
flat_bounded_one (MaskedByte v m) g = tt
flat_bounded_one (NotMaskedByte v m) g = tt
flat_bounded_one (Jump from none) g = false_true g
flat_bounded_one (Jump from (some to)) g = tt
flat_bounded_one (Alternatives ls) g = false_true g

flat_bounded : (ts : Tokens) → flat_tokens ts ≡ true → Bounded ts
unfolding Bounded flat_tokens
flat_bounded nothing g = tt
flat_bounded (t then ts) g = (flat_bounded_one t (and_left (flat_token t) (flat_tokens ts) g), flat_bounded ts (and_right (flat_token t) (flat_tokens ts) g))

lists_bounded : (ls : Lists) → flat_branches ls ≡ true → BoundedIn ls
unfolding Bounded flat_branches
lists_bounded neither g = tt
lists_bounded (ts or ls) g = (flat_bounded ts (and_left (flat_tokens ts) (flat_branches ls) g), lists_bounded ls (and_right (flat_tokens ts) (flat_branches ls) g))

simple_bounded_one : (t : Token) → simple_token t ≡ true → BoundedOne t
unfolding BoundedOne simple_token
simple_bounded_one (Byte v) g = tt
simple_bounded_one (NotByte v) g = tt
simple_bounded_one (MaskedByte v m) g = tt
simple_bounded_one (NotMaskedByte v m) g = tt
simple_bounded_one (Jump from none) g = false_true g
simple_bounded_one (Jump from (some to)) g = tt
simple_bounded_one (Alternatives ls) g = lists_bounded ls g

pub simple_bounded : (ts : Tokens) → simple ts ≡ true → Bounded ts
unfolding Bounded simple
simple_bounded nothing g = tt
simple_bounded (t then ts) g = (simple_bounded_one t (and_left (simple_token t) (simple ts) g), simple_bounded ts (and_right (simple_token t) (simple ts) g))
