-- A bitmap's members by its four words.
use mathlib.Core.Bool.{or_comm}
use Rattle.std.specs.List.{fold}
use Rattle.std.proofs.Common.{map, ◌≡◌, refl, sym, ap, ap₂, ◌∙◌, Bool, true, false, ◌||◌, List, [], ◌∷◌, ℕ, zero, suc, ◌+◌, ◌*◌, ◌/◌, ◌%◌, ◌^◌, ◌≤◌, ◌<◌, ⊎_elim, eq-or-lt_of_le, arith, mul-suc, zero-add, bit_or, eqb, length, get_or, set, get_or-set_same, get_or-set_other, eqb-true, ne_eqb}
use borrow.Author.Tests.{eqb-false}
use Rattle.bitmap.specs.declared.Bitmap.{Bitmap}
use Rattle.bitmap.specs.Bitmap.{bit, has, tally, size}
use Rattle.bitmap.proofs.Bits.{bit_or_lem, bit_pow, shifted}
use Rattle.bitmap.proofs.Table.{eqb_iff}
use Rattle.bitmap.proofs.Tally.{tally_nil, tally_same, tally_add}

-- four words, given one by one
pub each : (f : ℕ → ℕ) (i : ℕ) → i < 4 → get_or (f 0 ∷ f 1 ∷ f 2 ∷ f 3 ∷ []) i 0 ≡ f i
each f zero h = refl
each f (suc zero) h = refl
each f (suc (suc zero)) h = refl
each f (suc (suc (suc zero))) h = refl
each f (suc (suc (suc (suc i)))) h = absurd (omega arith)

pub four : (f : ℕ → ℕ) (v : ℕ) → v < 256 → bit (get_or (f 0 ∷ f 1 ∷ f 2 ∷ f 3 ∷ []) (v / 64) 0) (v % 64) ≡ bit (f (v / 64)) (v % 64)
four f v h = ap (λ (w : ℕ). bit w (v % 64)) (each f (v / 64) (omega arith))

-- ---- a word with one bit more

same_place : (v b : ℕ) → v / 64 ≡ b / 64 → eqb (v % 64) (b % 64) ≡ eqb v b
same_place v b e = eqb_iff (v % 64) (b % 64) v b (λ g. omega arith) (λ g. omega arith)

pub set_one : (ws : List ℕ) (b v : ℕ) → b / 64 < length ws
    → bit (get_or (set ws (b / 64) (bit_or (get_or ws (b / 64) 0) ((1 * 2 ^ (b % 64)) % 2 ^ 64))) (v / 64) 0) (v % 64) ≡ (eqb v b || bit (get_or ws (v / 64) 0) (v % 64))
set_one ws b v h = by (eqb (v / 64) (b / 64)) refl
  where
    by : (t : Bool) → eqb (v / 64) (b / 64) ≡ t
        → bit (get_or (set ws (b / 64) (bit_or (get_or ws (b / 64) 0) ((1 * 2 ^ (b % 64)) % 2 ^ 64))) (v / 64) 0) (v % 64) ≡ (eqb v b || bit (get_or ws (v / 64) 0) (v % 64))
    by true g =
        let e : v / 64 ≡ b / 64 = eqb-true (v / 64) (b / 64) g in
        let old : ℕ = get_or ws (b / 64) 0 in
        let one : ℕ = (1 * 2 ^ (b % 64)) % 2 ^ 64 in
        let l : b % 64 < 64 = omega arith in
        let at_one : bit one (v % 64) ≡ eqb v b = ap (λ (x : ℕ). bit x (v % 64)) (shifted (b % 64) 64 l) ∙ bit_pow (b % 64) (v % 64) ∙ same_place v b e in
        ap (λ (i : ℕ). bit (get_or (set ws (b / 64) (bit_or old one)) i 0) (v % 64)) e
        ∙ ap (λ (x : ℕ). bit x (v % 64)) (get_or-set_same ws (b / 64) (bit_or old one) 0 h)
        ∙ bit_or_lem old one (v % 64) ∙ or_comm (bit old (v % 64)) (bit one (v % 64))
        ∙ ap₂ (λ (t : Bool) (i : ℕ). t || bit (get_or ws i 0) (v % 64)) at_one (sym e)
    by false g =
        let n : v / 64 ≡ b / 64 → ⊥ = eqb-false (v / 64) (b / 64) g in
        rw (
          get_or-set_other ws (b / 64) (v / 64) (bit_or (get_or ws (b / 64) 0) ((1 * 2 ^ (b % 64)) % 2 ^ 64)) 0 n,
          ne_eqb v b (λ e. n (ap (λ (x : ℕ). x / 64) e)),
        )

-- ---- the count, word by word

in_words : Bitmap → ℕ → ℕ
in_words m zero = 0
in_words m (suc n) = in_words m n + tally (bit (get_or m.words n 0)) 64

in_word : (m : Bitmap) (n j : ℕ) → j < 64 → has m (64 * n + j) ≡ bit (get_or m.words n 0) j
unfolding has
in_word m n j h =
    let d : (64 * n + j) / 64 ≡ n = omega arith in
    let r : (64 * n + j) % 64 ≡ j = omega arith in
    rw (d, r)

words_tally : (m : Bitmap) (n : ℕ) → tally (has m) (64 * n) ≡ in_words m n
unfolding in_words
words_tally m zero = tally_nil (has m)
words_tally m (suc n) =
    ap (tally (has m)) (mul-suc 64 n) ∙ tally_add (has m) (64 * n) 64
    ∙ ap₂ (λ (x y : ℕ). x + y) (words_tally m n) (tally_same (λ j. has m (64 * n + j)) (bit (get_or m.words n 0)) 64 (in_word m n))

pub size_words : (m : Bitmap) (a b c d : ℕ) → a ≡ tally (bit (get_or m.words 0 0)) 64 → b ≡ tally (bit (get_or m.words 1 0)) 64
    → c ≡ tally (bit (get_or m.words 2 0)) 64 → d ≡ tally (bit (get_or m.words 3 0)) 64 → a + b + c + d ≡ size m
unfolding size in_words
size_words m a b c d ha hb hc hd = rw (ha, hb, hc, hd) (sym (words_tally m 4 ∙ omega arith))

-- the sum of the words' counts: of all four words, each once
pub words_sum : (xs ws : List ℕ) → length xs ≡ 4 → get_or xs 0 0 ≡ get_or ws 0 0 → get_or xs 1 0 ≡ get_or ws 1 0 → get_or xs 2 0 ≡ get_or ws 2 0 → get_or xs 3 0 ≡ get_or ws 3 0
    → fold (λ (a x : ℕ). a + x) 0 (map (λ w. tally (bit w) 64) xs) ≡ size (record { words = ws })
words_sum [] ws l e f g h = absurd (omega arith)
words_sum (a ∷ []) ws l e f g h = absurd (omega arith)
words_sum (a ∷ b ∷ []) ws l e f g h = absurd (omega arith)
words_sum (a ∷ b ∷ c ∷ []) ws l e f g h = absurd (omega arith)
words_sum (a ∷ b ∷ c ∷ d ∷ []) ws l e f g h =
    let t : ℕ → ℕ = λ w. tally (bit w) 64 in
    rw zero-add (size_words (record { words = ws }) _ _ _ _ (ap t e) (ap t f) (ap t g) (ap t h))
words_sum (a ∷ b ∷ c ∷ d ∷ x ∷ xs) ws l e f g h = absurd (omega arith)

pub passed : (m : Bitmap) (v b : ℕ) → ((u : ℕ) → v ≤ u → u < b → has m u ≡ false) → has m b ≡ false
    → (u : ℕ) → v ≤ u → u < b + 1 → has m u ≡ false
passed m v b h e u l g = ⊎_elim (λ (k : u ≡ b). ap (has m) k ∙ e) (λ (k : u < b). h u l k) (eq-or-lt_of_le (let r : u ≤ b = omega arith in r))
