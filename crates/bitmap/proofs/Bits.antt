-- The bits of a number, over any width.
use Rattle.std.proofs.Common.{◌≡◌, refl, sym, ap, ◌∙◌, false, not, ◌||◌, ℕ, zero, suc, ◌-◌, ◌*◌, ◌/◌, ◌%◌, ◌^◌, ◌≤◌, ◌<◌, max, arith, div-one, pow-suc, mod-eq_of_lt, one-add, bit_or, eqb, shr-shr}
use native.Mathlib.Nat.{zero-div, max-le, zero-max}
use lib.Arith.{digits_mod}
use lib.Bits.{or_step, or_shr}
use lib.Dec.{eqb-zero-suc, eqb-suc-zero, eqb-suc-suc}
use lib.Pow.{pow-lt}
use Rattle.bitmap.specs.Bitmap.{bit}

pub bit_zero : (j : ℕ) → bit 0 j ≡ false
unfolding bit
bit_zero j = rw zero-div

pub bit_low : (w : ℕ) → bit w 0 ≡ eqb (w % 2) 1
unfolding bit
bit_low w = rw div-one

pub bit_next : (w j : ℕ) → bit w (suc j) ≡ bit (w / 2) j
unfolding bit
bit_next w j = ap (λ (x : ℕ). eqb (x % 2) 1) (ap (λ (x : ℕ). w / 2 ^ x) (sym (one-add j)) ∙ sym (shr-shr w 1 j))

-- ---- or

max_digit : (x y : ℕ) → x < 2 → y < 2 → eqb (max x y) 1 ≡ (eqb x 1 || eqb y 1)
max_digit zero y h g = rw zero-max
max_digit (suc zero) zero h g = refl
max_digit (suc zero) (suc zero) h g = refl
max_digit (suc zero) (suc (suc y)) h g = absurd (omega arith)
max_digit (suc (suc x)) y h g = absurd (omega arith)

low_or : (x y : ℕ) → eqb (bit_or x y % 2) 1 ≡ (eqb (x % 2) 1 || eqb (y % 2) 1)
low_or x y =
    let h : x % 2 < 2 = omega arith in
    let g : y % 2 < 2 = omega arith in
    let h1 : x % 2 ≤ 1 = omega arith in
    let g1 : y % 2 ≤ 1 = omega arith in
    let l : max (x % 2) (y % 2) < 2 = omega (arith, max-le h1 g1) in
    ap (λ (z : ℕ). eqb (z % 2) 1) (or_step x y) ∙ ap (λ (z : ℕ). eqb z 1) (digits_mod (bit_or (x / 2) (y / 2)) l) ∙ max_digit (x % 2) (y % 2) h g

pub bit_or_lem : (a b j : ℕ) → bit (bit_or a b) j ≡ (bit a j || bit b j)
unfolding bit
bit_or_lem a b j = ap (λ (x : ℕ). eqb (x % 2) 1) (or_shr a b j) ∙ low_or (a / 2 ^ j) (b / 2 ^ j)

-- ---- a single one

pub bit_pow : (k j : ℕ) → bit (2 ^ k) j ≡ eqb j k
bit_pow zero zero = bit_low 1
bit_pow zero (suc j) = bit_next 1 j ∙ bit_zero j ∙ sym (eqb-suc-zero j)
bit_pow (suc k) zero =
    let e : 2 ^ suc k ≡ 2 ^ k * 2 = pow-suc 2 k in
    let z : 2 ^ suc k % 2 ≡ 0 = omega arith in
    bit_low (2 ^ suc k) ∙ ap (λ (x : ℕ). eqb x 1) z ∙ sym (eqb-zero-suc k)
bit_pow (suc k) (suc j) =
    let e : 2 ^ suc k ≡ 2 ^ k * 2 = pow-suc 2 k in
    let z : 2 ^ suc k / 2 ≡ 2 ^ k = omega arith in
    bit_next (2 ^ suc k) j ∙ ap (λ (x : ℕ). bit x j) z ∙ bit_pow k j ∙ sym (eqb-suc-suc j k)

-- 1 << k, in a word of n bits
pub shifted : (k n : ℕ) → k < n → (1 * 2 ^ k) % 2 ^ n ≡ 2 ^ k
shifted k n h =
    let l : 2 ^ k < 2 ^ n = pow-lt h in
    let e : 1 * 2 ^ k ≡ 2 ^ k = omega arith in
    rw e (mod-eq_of_lt l)

-- ---- not

flip : (x y : ℕ) → x < 2 → y ≡ 1 - x → eqb y 1 ≡ not (eqb x 1)
flip zero y h e = rw e
flip (suc zero) y h e = rw e
flip (suc (suc x)) y h e = absurd (omega arith)

-- the other number of k bits
pub bit_not : (k w j : ℕ) → w < 2 ^ k → j < k → bit ((2 ^ k - 1) - w) j ≡ not (bit w j)
bit_not zero w j h g = absurd (omega arith)
bit_not (suc k) w zero h g =
    let e : 2 ^ suc k ≡ 2 ^ k * 2 = pow-suc 2 k in
    let z : ((2 ^ suc k - 1) - w) % 2 ≡ 1 - w % 2 = omega arith in
    bit_low ((2 ^ suc k - 1) - w) ∙ flip (w % 2) (((2 ^ suc k - 1) - w) % 2) (omega arith) z ∙ ap not (sym (bit_low w))
bit_not (suc k) w (suc j) h g =
    let e : 2 ^ suc k ≡ 2 ^ k * 2 = pow-suc 2 k in
    let z : ((2 ^ suc k - 1) - w) / 2 ≡ (2 ^ k - 1) - w / 2 = omega arith in
    bit_next ((2 ^ suc k - 1) - w) j ∙ ap (λ (x : ℕ). bit x j) z ∙ bit_not k (w / 2) j (omega arith) (omega arith) ∙ ap not (sym (bit_next w j))
