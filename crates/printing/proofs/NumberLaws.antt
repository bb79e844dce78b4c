-- Laws of numbers as text: what the decimal digits say, and how many there are. Assumes nothing.
use Rattle.std.proofs.Common.{◌≡◌, refl, sym, ap, ◌∙◌, Bool, true, false, List, [], ◌∷◌, ◌++◌, ℕ, zero, suc, ◌+◌, ◌-◌, ◌*◌, ◌/◌, ◌%◌, ◌^◌, ◌≤◌, ◌<◌, arith, pow-suc, ltb, ltb-true, ltb-false, lt-ltb, le-ltb, length, take, get_or, length-append, get_or-take, take-suc, take_all, length-take-le}
use mathlib.Core.List.{flat_map}
use Prim.Native.Char.{code}
use Rattle.std.proofs.Math.ListN.{get_or-append}
use Rattle.std.proofs.Math.Seq.{get_or_at}
use Rattle.printing.specs.Numbers.{digit, hex_of, digits_in, decimal_of, value_after, Decimal}

one_digit_lem : (f n : ℕ) → n < 10 → digits_in (suc f) n ≡ digit n ∷ []
unfolding digits_in
one_digit_lem f n h = rw (lt-ltb n 10 h)

more_digits : (f n : ℕ) → 10 ≤ n → digits_in (suc f) n ≡ digits_in f (n / 10) ++ (digit (n % 10) ∷ [])
unfolding digits_in
more_digits f n h = rw (le-ltb n 10 h)

-- any bound that is large enough gives the same digits
digits_same : (f g n : ℕ) → n < f → n < g → digits_in f n ≡ digits_in g n
digits_same zero g n h k = absurd (omega arith)
digits_same (suc f) zero n h k = absurd (omega arith)
digits_same (suc f) (suc g) n h k = go (ltb n 10) refl (λ l. digits_same f g (n / 10) (omega arith) (omega arith))
  where
    go : (t : Bool) → ltb n 10 ≡ t → (10 ≤ n → digits_in f (n / 10) ≡ digits_in g (n / 10)) → digits_in (suc f) n ≡ digits_in (suc g) n
    go true e r = one_digit_lem f n (ltb-true n 10 e) ∙ sym (one_digit_lem g n (ltb-true n 10 e))
    go false e r =
        let l : 10 ≤ n = ltb-false n 10 e in
        more_digits f n l ∙ ap (λ (x : List ℕ). x ++ (digit (n % 10) ∷ [])) (r l) ∙ sym (more_digits g n l)

pub decimal_one : (n : ℕ) → n < 10 → decimal_of n ≡ digit n ∷ []
unfolding decimal_of
decimal_one n h = one_digit_lem n n h

pub decimal_more : (n : ℕ) → 10 ≤ n → decimal_of n ≡ decimal_of (n / 10) ++ (digit (n % 10) ∷ [])
unfolding decimal_of
decimal_more n h = more_digits n n h ∙ ap (λ (x : List ℕ). x ++ (digit (n % 10) ∷ [])) (digits_same n (suc (n / 10)) (n / 10) (omega arith) (omega arith))

-- a number below 10 ^ k has at most k digits
digits_length : (f k n : ℕ) → n < 10 ^ suc k → length (digits_in f n) ≤ suc k
unfolding digits_in
digits_length zero k n h = omega arith
digits_length (suc f) zero n h = rw (lt-ltb n 10 h) (omega arith)
digits_length (suc f) (suc k) n h =
    let p : 10 ^ suc (suc k) ≡ 10 ^ suc k * 10 = pow-suc 10 (suc k) in
    go (ltb n 10) refl (digits_length f k (n / 10) (omega arith))
  where
    go : (t : Bool) → ltb n 10 ≡ t → length (digits_in f (n / 10)) ≤ suc k → length (digits_in (suc f) n) ≤ suc (suc k)
    go true e l = rw e (omega arith)
    go false e l = rw e (rw (length-append (digits_in f (n / 10)) (digit (n % 10) ∷ [])) (omega arith))

pub decimal_length : (k n : ℕ) → n < 10 ^ suc k → length (decimal_of n) ≤ suc k
unfolding decimal_of
decimal_length k n h = digits_length (suc n) k n h

pub length_hex : (b : ℕ) → length (hex_of b) ≡ 2
unfolding hex_of
length_hex b = refl

pub length_hexes : (s : List ℕ) → length (flat_map hex_of s) ≡ 2 * length s
unfolding flat_map
length_hexes [] = refl
length_hexes (b ∷ s) = length-append (hex_of b) (flat_map hex_of s) ∙ rw (length_hex b, length_hexes s) (omega arith)

-- The decimal digits say the number.
digit_ten : (d : ℕ) → d < 10 → digit d ≡ code "0" + d
unfolding digit
digit_ten d h = rw (lt-ltb d 10 h)

value_last : (a : ℕ) (ds : List ℕ) (d : ℕ) → value_after a (ds ++ (d ∷ [])) ≡ 10 * value_after a ds + (d - code "0")
unfolding value_after
value_last a [] d = refl
value_last a (x ∷ ds) d = value_last (10 * a + (x - code "0")) ds d

one_right : (n : ℕ) → n < 10 → Decimal n (digit n ∷ [])
unfolding value_after
one_right n h =
    let e : digit n ≡ code "0" + n = digit_ten n h in record {
      says = omega arith;
      digits = λ i l. (let z : i ≡ 0 = omega arith in rw z (omega arith, omega arith));
      nonempty = omega arith;
      front = λ l. absurd (omega arith);
    }

-- the first digit of what is not 0 is not 0
first_right : (m : ℕ) (ds : List ℕ) → 1 ≤ m → Decimal m ds → code "1" ≤ get_or ds 0 (code "0")
unfolding value_after
first_right m [] p a = let l : 1 ≤ 0 = a.nonempty in absurd (omega arith)
first_right m (x ∷ []) p a = let v : 10 * 0 + (x - code "0") ≡ m = a.says in omega arith
first_right m (x ∷ y ∷ ds) p a = a.front (omega arith)

-- one digit more, after digits that do not say 0
more_right : (m d : ℕ) (ds : List ℕ) → 1 ≤ m → d < 10 → Decimal m ds → Decimal (10 * m + d) (ds ++ (digit d ∷ []))
more_right m d ds p h a =
    let n : length (ds ++ (digit d ∷ [])) ≡ length ds + 1 = length-append ds (digit d ∷ []) in
    let e : digit d ≡ code "0" + d = digit_ten d h in record {
      says = value_last 0 ds (digit d) ∙ (let v : value_after 0 ds ≡ m = a.says in omega arith);
      digits = λ i l. at i (ltb i (length ds)) refl l;
      nonempty = omega arith;
      front = λ l. rw (get_or-append ds (digit d ∷ []) (code "0") 0 a.nonempty) (first_right m ds p a);
    }
  where
    at : (i : ℕ) (t : Bool) → ltb i (length ds) ≡ t → i < length (ds ++ (digit d ∷ [])) → (code "0" ≤ get_or (ds ++ (digit d ∷ [])) i (code "0")) × (get_or (ds ++ (digit d ∷ [])) i (code "0") ≤ code "9")
    at i true t l = let b : i < length ds = ltb-true i (length ds) t in rw (get_or-append ds (digit d ∷ []) (code "0") i b) (a.digits i b)
    at i false t l =
        let b : length ds ≤ i = ltb-false i (length ds) t in
        let n : length (ds ++ (digit d ∷ [])) ≡ length ds + 1 = length-append ds (digit d ∷ []) in
        let e : digit d ≡ code "0" + d = digit_ten d h in
        rw (get_or_at ds (digit d) [] (code "0") i (omega arith)) (omega arith, omega arith)

digits_right : (f n : ℕ) → n < f → Decimal n (digits_in f n)
digits_right zero n h = absurd (omega arith)
digits_right (suc f) n h = go (ltb n 10) refl (λ l. digits_right f (n / 10) (omega arith))
  where
    go : (t : Bool) → ltb n 10 ≡ t → (10 ≤ n → Decimal (n / 10) (digits_in f (n / 10))) → Decimal n (digits_in (suc f) n)
    go true e r = let l : n < 10 = ltb-true n 10 e in rw (one_digit_lem f n l) (one_right n l)
    go false e r =
        let l : 10 ≤ n = ltb-false n 10 e in
        let w : 10 * (n / 10) + n % 10 ≡ n = omega arith in
        rw (more_digits f n l) (rw w at (more_right (n / 10) (n % 10) (digits_in f (n / 10)) (omega arith) (omega arith) (r l)))

pub decimal_right : (n : ℕ) → Decimal n (decimal_of n)
unfolding decimal_of
decimal_right n = digits_right (suc n) n (omega arith)

-- And no other digits do.
value_grows : (a : ℕ) (ds : List ℕ) → a ≤ value_after a ds
unfolding value_after
value_grows a [] = omega arith
value_grows a (d ∷ ds) = let l : 10 * a + (d - code "0") ≤ value_after (10 * a + (d - code "0")) ds = value_grows (10 * a + (d - code "0")) ds in omega arith

value_first : (ds : List ℕ) → code "1" ≤ get_or ds 0 (code "0") → 1 ≤ value_after 0 ds
unfolding value_after
value_first [] h = absurd (omega arith)
value_first (d ∷ ds) h = let l : 10 * 0 + (d - code "0") ≤ value_after (10 * 0 + (d - code "0")) ds = value_grows (10 * 0 + (d - code "0")) ds in omega arith

-- all but the last of two or more digits are the digits of what they say
shorter_right : (k n : ℕ) (ds : List ℕ) → length ds ≡ suc (suc k) → Decimal n ds → Decimal (value_after 0 (take (suc k) ds)) (take (suc k) ds)
shorter_right k n ds l a =
    let e : length (take (suc k) ds) ≡ suc k = length-take-le (suc k) ds (omega arith) in record {
      says = refl;
      digits = λ i h. (let b : i < suc k = omega arith in rw (get_or-take (suc k) ds i (code "0") b) (a.digits i (omega arith)));
      nonempty = omega arith;
      front = λ h. (let z : 0 < suc k = omega arith in rw (get_or-take (suc k) ds 0 (code "0") z) (a.front (omega arith)));
    }

-- the digits are those before the last, and the last
last_digit : (k : ℕ) (ds : List ℕ) → length ds ≡ suc k → ds ≡ take k ds ++ (get_or ds k (code "0") ∷ [])
last_digit k ds l = sym (take_all (suc k) ds (omega arith)) ∙ take-suc ds k (code "0") (omega arith)

last_value : (k n : ℕ) (ds : List ℕ) → length ds ≡ suc k → Decimal n ds → n ≡ 10 * value_after 0 (take k ds) + (get_or ds k (code "0") - code "0")
last_value k n ds l a = sym a.says ∙ ap (value_after 0) (last_digit k ds l) ∙ value_last 0 (take k ds) (get_or ds k (code "0"))

only : (k n : ℕ) (ds : List ℕ) → length ds ≡ suc k → Decimal n ds → ds ≡ decimal_of n
unfolding value_after
only zero n ds l a =
    let d : (code "0" ≤ get_or ds 0 (code "0")) × (get_or ds 0 (code "0") ≤ code "9") = a.digits 0 (omega arith) in
    let v : n ≡ 10 * 0 + (get_or ds 0 (code "0") - code "0") = last_value 0 n ds l a in
    let b : n < 10 = omega arith in
    let e : get_or ds 0 (code "0") ≡ digit n = (let f : digit n ≡ code "0" + n = digit_ten n b in omega arith) in
    last_digit 0 ds l ∙ ap (λ (x : ℕ). x ∷ []) e ∙ sym (decimal_one n b)
only (suc k) n ds l a =
    let d : (code "0" ≤ get_or ds (suc k) (code "0")) × (get_or ds (suc k) (code "0") ≤ code "9") = a.digits (suc k) (omega arith) in
    let v : n ≡ 10 * value_after 0 (take (suc k) ds) + (get_or ds (suc k) (code "0") - code "0") = last_value (suc k) n ds l a in
    let z : 0 < suc k = omega arith in
    let p : 1 ≤ value_after 0 (take (suc k) ds) = value_first (take (suc k) ds) (rw (get_or-take (suc k) ds 0 (code "0") z) (a.front (omega arith))) in
    let q : n / 10 ≡ value_after 0 (take (suc k) ds) = omega arith in
    let e : get_or ds (suc k) (code "0") ≡ digit (n % 10) = (let f : digit (n % 10) ≡ code "0" + n % 10 = digit_ten (n % 10) (omega arith) in omega arith) in
    let i : take (suc k) ds ≡ decimal_of (value_after 0 (take (suc k) ds)) = only k (value_after 0 (take (suc k) ds)) (take (suc k) ds) (length-take-le (suc k) ds (omega arith)) (shorter_right k n ds l a) in
    last_digit (suc k) ds l
    ∙ ap (λ (x : List ℕ). x ++ (get_or ds (suc k) (code "0") ∷ [])) (i ∙ ap decimal_of (sym q))
    ∙ ap (λ (x : ℕ). decimal_of (n / 10) ++ (x ∷ [])) e
    ∙ sym (decimal_more n (omega arith))

pub decimal_only : (n : ℕ) (ds : List ℕ) → Decimal n ds → ds ≡ decimal_of n
decimal_only n ds a = let l : length ds ≡ suc (length ds - 1) = (let p : 1 ≤ length ds = a.nonempty in omega arith) in only (length ds - 1) n ds l a
