-- Digits and numbers: the tests of the reader and what the grammar says. Assumes nothing.
use mathlib.Core.Path.{◌≡◌, refl, ap, ◌∙◌}
use mathlib.Core.Bool.{Bool, true, false, cond, and-false}
use mathlib.Core.Option.{none, some}
use mathlib.Core.List.{List, [], ◌∷◌, ◌++◌}
use Prim.Native.Char.{code}
use Prim.Native.Nat.{ℕ, suc, ◌+◌, ◌-◌, ◌*◌, ◌^◌, ◌<◌, ◌≤◌}
use native.Mathlib.Nat.{pow-suc}
use native.Mathlib.Omega.{arith}
use borrow.Author.Tests.{le-leb, lt-leb}
use lib.Dec.{leb}
use lib.ListN.{length}
use Rattle.def_reading.specs.Pieces.{within, digit, decimals, numeral}
use Rattle.def_reading.proofs.PieceLaws.{never, within_true}
use Rattle.def_grammar.proofs.Spelling.{Digit, decimal, upper, lower, Decimals, value}

pub in_within : (a b c : ℕ) → a ≤ c → c ≤ b → within a b c ≡ true
unfolding within
in_within a b c h k = rw (le-leb a c h, le-leb c b k) refl

pub below_within : (a b c : ℕ) → c < a → within a b c ≡ false
unfolding within
below_within a b c h = rw (lt-leb a c h) refl

pub above_within : (a b c : ℕ) → b < c → within a b c ≡ false
unfolding within
above_within a b c h = rw (lt-leb c b h) (and-false (leb a c))

-- a digit's value is below 16, and the digit is not 0
pub digit_sound : (c v : ℕ) → digit c ≡ some v → Digit c v × (0 < c)
unfolding digit
digit_sound c v h = go (within (code "0") (code "9") c) (within (code "A") (code "F") c) (within (code "a") (code "f") c) refl refl refl h
  where
    go : (x y z : Bool) → within (code "0") (code "9") c ≡ x → within (code "A") (code "F") c ≡ y → within (code "a") (code "f") c ≡ z
        → cond x (some (c - code "0")) (cond y (some (c - (code "A" - 10))) (cond z (some (c - (code "a" - 10))) none)) ≡ some v → Digit c v × (0 < c)
    go true y z d e f h = let w = within_true (code "0") (code "9") c d in let q : c - code "0" ≡ v = cc in (decimal (omega arith) (omega arith), omega arith)
    go false true z d e f h = let w = within_true (code "A") (code "F") c e in let q : c - (code "A" - 10) ≡ v = cc in (upper (omega arith) (omega arith) (omega arith), omega arith)
    go false false true d e f h = let w = within_true (code "a") (code "f") c f in let q : c - (code "a" - 10) ≡ v = cc in (lower (omega arith) (omega arith) (omega arith), omega arith)
    go false false false d e f h = never (cc)

pub digit_complete : (c v : ℕ) → Digit c v → digit c ≡ some v
unfolding digit
digit_complete c v (decimal l e) = let q : c - code "0" ≡ v = omega arith in rw (in_within (code "0") (code "9") c (omega arith) (omega arith)) (ap some q)
digit_complete c v (upper k l e) =
    let q : c - (code "A" - 10) ≡ v = omega arith in
    rw (above_within (code "0") (code "9") c (omega arith), in_within (code "A") (code "F") c (omega arith) (omega arith)) (ap some q)
digit_complete c v (lower k l e) =
    let q : c - (code "a" - 10) ≡ v = omega arith in
    rw (above_within (code "0") (code "9") c (omega arith), above_within (code "A") (code "F") c (omega arith), in_within (code "a") (code "f") c (omega arith) (omega arith)) (ap some q)

-- the digits at the front of a string, and the number that they spell after n
pub digits_split : (n : ℕ) (s : List ℕ) → (d : List ℕ) × (r : List ℕ) × (s ≡ d ++ r) × Decimals d × (decimals s ≡ length d) × (numeral n s ≡ n * 10 ^ length d + value d)
unfolding decimals numeral Decimals value
digits_split n [] = ([], [], refl, tt, refl, omega arith)
digits_split n (c ∷ s) = go (within (code "0") (code "9") c) refl (digits_split (10 * n + (c - code "0")) s)
  where
    go : (b : Bool) → within (code "0") (code "9") c ≡ b
        → ((d : List ℕ) × (r : List ℕ) × (s ≡ d ++ r) × Decimals d × (decimals s ≡ length d) × (numeral (10 * n + (c - code "0")) s ≡ (10 * n + (c - code "0")) * 10 ^ length d + value d))
        → (d : List ℕ) × (r : List ℕ) × (c ∷ s ≡ d ++ r) × Decimals d × (cond (within (code "0") (code "9") c) (suc (decimals s)) 0 ≡ length d)
        × (cond (within (code "0") (code "9") c) (numeral (10 * n + (c - code "0")) s) n ≡ n * 10 ^ length d + value d)
    go true e p =
        let w = within_true (code "0") (code "9") c e in
        let q : 10 ^ suc (length p.0) ≡ 10 ^ length p.0 * 10 = pow-suc 10 (length p.0) in
        let z : numeral (10 * n + (c - code "0")) s ≡ (10 * n + (c - code "0")) * 10 ^ length p.0 + value p.0 = p.5 in
        let y : numeral (10 * n + (c - code "0")) s ≡ n * 10 ^ suc (length p.0) + ((c - code "0") * 10 ^ length p.0 + value p.0) = z ∙ rw q (omega arith) in
        (c ∷ p.0, p.1, ap (λ (u : List ℕ). c ∷ u) p.2, (w.0, w.1, p.3), rw e (ap suc p.4), rw e y)
    go false e p = ([], c ∷ s, refl, tt, rw e refl, rw e (omega arith))

-- digits before what is none
pub digits_count : (d r : List ℕ) (c : ℕ) → within (code "0") (code "9") c ≡ false → Decimals d → decimals (d ++ (c ∷ r)) ≡ length d
unfolding decimals Decimals
digits_count [] r c h p = rw h refl
digits_count (x ∷ d) r c h p = rw (in_within (code "0") (code "9") x p.0 p.1) (ap suc (digits_count d r c h p.2))

pub digits_value : (n : ℕ) (d r : List ℕ) (c : ℕ) → within (code "0") (code "9") c ≡ false → Decimals d → numeral n (d ++ (c ∷ r)) ≡ n * 10 ^ length d + value d
unfolding numeral Decimals value
digits_value n [] r c h p = rw h (omega arith)
digits_value n (x ∷ d) r c h p =
    let q : 10 ^ suc (length d) ≡ 10 ^ length d * 10 = pow-suc 10 (length d) in
    rw (in_within (code "0") (code "9") x p.0 p.1) (digits_value (10 * n + (x - code "0")) d r c h p.2 ∙ rw q (omega arith))
