-- The functions by which picking is defined do what their names say. Assumes nothing.
use Rattle.std.proofs.Common.{◌≡◌, refl, sym, ap, ap₂, ◌∙◌, subst, Bool, true, false, ⊎_elim, ◌↔◌, List, [], ◌∷◌, ◌++◌, append-nil, append_assoc, ℕ, zero, suc, ◌+◌, ◌≤◌, ◌<◌, min, arith, le_refl, le_trans, leb, leb-true, leb-false}
use mathlib.Core.List.{Memᴰ}
use Rattle.std.proofs.Math.Nat.{min-le_left, min-le_right, min-eq_left, min-eq_right}
use mathlib.Core.List.Memᴰ
use Rattle.def_meaning.specs.Tokens.{Mask, left, right, all, Token, Tokens, Lists, Byte, NotByte, MaskedByte, NotMaskedByte, Jump, Alternatives, nothing, ◌then◌, Matches}
use Rattle.def_meaning.specs.Values.{Bytes, SpelledOne}
use Rattle.def_meaning.proofs.SoundLaws.{and_both, false_true}
use Rattle.def_meaning.proofs.TokenLaws.{one_span, span_one}
use Rattle.def_picking.specs.Literals.{kept, passing, taken, is_byte, is_plain, plain_lists, before, ◌⊗◌, singles, spelt, literals, listable}
use Rattle.def_picking.proofs.MatchLaws.{in_singles, literals_are_spans, singles_in}
use Rattle.def_picking.specs.Runs.{is_alternatives, plain_inside}
use Rattle.def_picking.specs.Candidates.{lowest, least, byte_of, bytes_of}
use Rattle.def_promise.specs.Literals.{Plain, Rising, Members, Least}
use Rattle.def_promise.specs.Literals as table
use Rattle.def_promise.specs.Parts.{OnlyBytes}
use Rattle.def_promise.specs.Parts as part

-- what a token is
pub is_byte_lem : (t : Token) → (is_byte t ≡ true) ↔ ((v : ℕ) × (t ≡ Byte v))
unfolding is_byte
is_byte_lem t = (go t, λ (v, e). ap is_byte e)
  where
    go : (x : Token) → is_byte x ≡ true → (v : ℕ) × (x ≡ Byte v)
    go (Byte v) h = (v, refl)
    go (NotByte v) h = false_true h
    go (MaskedByte v m) h = false_true h
    go (NotMaskedByte v m) h = false_true h
    go (Jump from to) h = false_true h
    go (Alternatives ls) h = false_true h

pub is_alternatives_lem : (t : Token) → (is_alternatives t ≡ true) ↔ ((ls : Lists) × (t ≡ Alternatives ls))
unfolding is_alternatives
is_alternatives_lem t = (go t, λ (ls, e). ap is_alternatives e)
  where
    go : (x : Token) → is_alternatives x ≡ true → (ls : Lists) × (x ≡ Alternatives ls)
    go (Byte v) h = false_true h
    go (NotByte v) h = false_true h
    go (MaskedByte v m) h = false_true h
    go (NotMaskedByte v m) h = false_true h
    go (Jump from to) h = false_true h
    go (Alternatives ls) h = (ls, refl)

pub is_plain_inside : (t : Token) → (plain_inside t ≡ true) ↔ ((ls : Lists) → t ≡ Alternatives ls → plain_lists ls ≡ true)
unfolding plain_inside
is_plain_inside t = (λ h ls e. sym (ap plain_inside e) ∙ h, go t)
  where
    go : (x : Token) → ((ls : Lists) → x ≡ Alternatives ls → plain_lists ls ≡ true) → plain_inside x ≡ true
    go (Byte v) h = refl
    go (NotByte v) h = refl
    go (MaskedByte v m) h = refl
    go (NotMaskedByte v m) h = refl
    go (Jump from to) h = refl
    go (Alternatives ls) h = h ls refl

left_some : left ≡ all → ⊥
left_some e = cc

right_some : right ≡ all → ⊥
right_some e = cc

open_mask : (m : Mask) → (m ≡ all → ⊥) → (P : Mask → Type 0) → P left → P right → P m
open_mask left h P a b = a
open_mask right h P a b = b
open_mask all h P a b = absurd (h refl)

pub is_plain_lem : (t : Token) → (is_plain t ≡ true) ↔ Plain t
unfolding is_plain
is_plain_lem t = (go t, back)
  where
    go : (x : Token) → is_plain x ≡ true → Plain x
    go (Byte v) h = table.byte
    go (NotByte v) h = table.not_byte
    go (MaskedByte v left) h = table.half left_some
    go (MaskedByte v right) h = table.half right_some
    go (MaskedByte v all) h = false_true h
    go (NotMaskedByte v left) h = table.not_half left_some
    go (NotMaskedByte v right) h = table.not_half right_some
    go (NotMaskedByte v all) h = false_true h
    go (Jump from to) h = false_true h
    go (Alternatives ls) h = false_true h

    back : {x : Token} → Plain x → is_plain x ≡ true
    back table.byte = refl
    back table.not_byte = refl
    back (table.half {v = v} {m = m} h) = open_mask m h (λ (k : Mask). is_plain (MaskedByte v k) ≡ true) refl refl
    back (table.not_half {v = v} {m = m} h) = open_mask m h (λ (k : Mask). is_plain (NotMaskedByte v k) ≡ true) refl refl

-- the bytes of a list of bytes are its one literal
spelt_bytes : {ts : Tokens} (p : List ℕ) → OnlyBytes ts → spelt ts (p ∷ []) ≡ (p ++ bytes_of ts) ∷ []
unfolding spelt ◌⊗◌ before singles taken bytes_of byte_of
spelt_bytes p part.none = ap (λ (x : List ℕ). x ∷ []) (sym (append-nil p))
spelt_bytes p (part.more {v = v} {ts = ts} h) = spelt_bytes (p ++ (v ∷ [])) h ∙ ap (λ (x : List ℕ). x ∷ []) (append_assoc p (v ∷ []) (bytes_of ts))

pub bytes_literal : {ts : Tokens} → OnlyBytes ts → literals ts ≡ bytes_of ts ∷ []
bytes_literal h = spelt_bytes [] h

-- the least of a measure, by computing
module _ (f : List ℕ → ℕ) where
  abbrev fold : List (List ℕ) → ℕ → ℕ
  fold [] n = n
  fold (l ∷ ls) n = fold ls (min n (f l))

  fold_start : (ls : List (List ℕ)) (n : ℕ) → fold ls n ≤ n
  fold_start [] n = le_refl n
  fold_start (l ∷ ls) n = le_trans (fold_start ls (min n (f l))) (min-le_left n (f l))

  fold_below : (ls : List (List ℕ)) (n : ℕ) (l : List ℕ) → Memᴰ l ls → fold ls n ≤ f l
  fold_below [] n l m = absurd (Memᴰ.not-nil m)
  fold_below (x ∷ ls) n l m = ⊎_elim
      (λ e. subst (λ (y : List ℕ). fold ls (min n (f x)) ≤ f y) (sym e) (le_trans (fold_start ls (min n (f x))) (min-le_right n (f x))))
      (λ q. fold_below ls (min n (f x)) l q)
      (Memᴰ.cases_cons m)

  -- it is the start, or reached
  fold_reached : (ls : List (List ℕ)) (x : List ℕ) → (l : List ℕ) × Memᴰ l (x ∷ ls) × (f l ≡ fold ls (f x))
  fold_reached [] x = (x, Memᴰ.head refl, refl)
  fold_reached (y ∷ ls) x = go (fold_reached ls x) (fold_reached ls y) (leb (f x) (f y)) refl
    where
      wider : (l : List ℕ) → Memᴰ l (x ∷ ls) → Memᴰ l (x ∷ (y ∷ ls))
      wider l m = ⊎_elim (λ e. Memᴰ.head e) (λ q. Memᴰ.tail (Memᴰ.tail q)) (Memᴰ.cases_cons m)

      go : (l : List ℕ) × Memᴰ l (x ∷ ls) × (f l ≡ fold ls (f x)) → (l : List ℕ) × Memᴰ l (y ∷ ls) × (f l ≡ fold ls (f y)) → (b : Bool) → leb (f x) (f y) ≡ b → (l : List ℕ) × Memᴰ l (x ∷ (y ∷ ls)) × (f l ≡ fold ls (min (f x) (f y)))
      go (l, m, e) u true h = (l, wider l m, e ∙ ap (fold ls) (sym (min-eq_left (leb-true (f x) (f y) h))))
      go u (l, m, e) false h = let g : f y < f x = leb-false (f x) (f y) h in (l, Memᴰ.tail m, e ∙ ap (fold ls) (sym (min-eq_right (omega arith))))

  fold_least : (x : List ℕ) (ls : List (List ℕ)) → Least f (x ∷ ls) (fold ls (f x))
  fold_least x ls = record {
    reached = fold_reached ls x;
    none_below = λ l m. ⊎_elim
        (λ e. subst (λ (y : List ℕ). fold ls (f x) ≤ f y) (sym e) (fold_start ls (f x)))
        (λ q. fold_below ls (f x) l q)
        (Memᴰ.cases_cons m);
  }

  pub least_one : (ls : List (List ℕ)) (n m : ℕ) → Least f ls n → Least f ls m → n ≡ m
  least_one ls n m a b =
      let (l, i, e) = a.reached in
      let (k, j, g) = b.reached in
      let x : m ≤ f l = b.none_below l i in
      let y : n ≤ f k = a.none_below k j in
      omega arith

lowest_fold : (f : List ℕ → ℕ) (ls : List (List ℕ)) (n : ℕ) → fold f ls n ≡ lowest f ls n
unfolding lowest
lowest_fold f [] n = refl
lowest_fold f (l ∷ ls) n = lowest_fold f ls (min n (f l))

-- of some literals, the least score and the least length are computed
pub least_is : (f : List ℕ → ℕ) (l : List ℕ) (ls : List (List ℕ)) → Least f (l ∷ ls) (least f (l ∷ ls))
unfolding least
least_is f l ls = subst (Least f (l ∷ ls)) (lowest_fold f ls (f l)) (fold_least f l ls)

-- there are some where one is among them
pub some_least : (f : List ℕ → ℕ) {l : List ℕ} (ls : List (List ℕ)) → Memᴰ l ls → Least f ls (least f ls)
some_least f [] m = absurd (Memᴰ.not-nil m)
some_least f (l ∷ ls) m = least_is f l ls

-- the bytes that a class takes rise
above : ℕ → List ℕ → Type 0
above a l = (b : ℕ) → Memᴰ b l → a < b

none_above : (a : ℕ) → above a []
unfolding above
none_above a b m = absurd (Memᴰ.not-nil m)

rising_before : (a : ℕ) (l : List ℕ) → Rising l → above a l → Rising (a ∷ l)
unfolding above
rising_before a [] r h = table.single
rising_before a (b ∷ l) r h = table.more (h b (Memᴰ.head refl)) r

rising_kept : (b : Bool) (v : ℕ) (l : List ℕ) → Rising l → above v l → Rising (kept b v l)
unfolding kept
rising_kept true v l r h = rising_before v l r h
rising_kept false v l r h = r

kept_above : (b : Bool) (a v : ℕ) (l : List ℕ) → a < v → above v l → above a (kept b v l)
unfolding kept above
kept_above true a v l h g b m = ⊎_elim (λ e. subst (λ (x : ℕ). a < x) (sym e) h) (λ q. let k = g b q in omega arith) (Memᴰ.cases_cons m)
kept_above false a v l h g b m = let k = g b m in omega arith

passing_above : (p : ℕ → Bool) (a v n : ℕ) → a < v → above a (passing p v n)
unfolding passing
passing_above p a v zero h = none_above a
passing_above p a v (suc n) h = kept_above (p v) a v (passing p (v + 1) n) h (passing_above p v (v + 1) n (omega arith))

passing_rises : (p : ℕ → Bool) (v n : ℕ) → Rising (passing p v n)
unfolding passing
passing_rises p v zero = table.none
passing_rises p v (suc n) = rising_kept (p v) v (passing p (v + 1) n) (passing_rises p (v + 1) n) (passing_above p v (v + 1) n (omega arith))

taken_rises : (t : Token) → Rising (taken t)
unfolding taken
taken_rises (Byte v) = table.single
taken_rises (NotByte v) = passing_rises _ 0 256
taken_rises (MaskedByte v left) = passing_rises _ 0 256
taken_rises (MaskedByte v right) = passing_rises _ 0 256
taken_rises (MaskedByte v all) = table.none
taken_rises (NotMaskedByte v left) = passing_rises _ 0 256
taken_rises (NotMaskedByte v right) = passing_rises _ 0 256
taken_rises (NotMaskedByte v all) = table.none
taken_rises (Jump from to) = table.none
taken_rises (Alternatives ls) = table.none

-- they are bytes
kept_below : (b : Bool) (v n x : ℕ) (l : List ℕ) → ((y : ℕ) → Memᴰ y l → y < v + 1 + n) → Memᴰ x (kept b v l) → x < v + suc n
unfolding kept
kept_below true v n x l h m = ⊎_elim (λ e. omega arith) (λ q. let k = h x q in omega arith) (Memᴰ.cases_cons m)
kept_below false v n x l h m = let k = h x m in omega arith

passing_below : (p : ℕ → Bool) (v n x : ℕ) → Memᴰ x (passing p v n) → x < v + n
unfolding passing
passing_below p v zero x m = absurd (Memᴰ.not-nil m)
passing_below p v (suc n) x m = kept_below (p v) v n x (passing p (v + 1) n) (λ y q. passing_below p (v + 1) n y q) m

taken_below : (t : Token) (x : ℕ) → SpelledOne t → Memᴰ x (taken t) → x < 256
unfolding taken SpelledOne
taken_below (Byte v) x h m = ⊎_elim (λ e. omega arith) (λ q. absurd (Memᴰ.not-nil q)) (Memᴰ.cases_cons m)
taken_below (NotByte v) x h m = passing_below _ 0 256 x m
taken_below (MaskedByte v left) x h m = passing_below _ 0 256 x m
taken_below (MaskedByte v right) x h m = passing_below _ 0 256 x m
taken_below (MaskedByte v all) x h m = absurd (Memᴰ.not-nil m)
taken_below (NotMaskedByte v left) x h m = passing_below _ 0 256 x m
taken_below (NotMaskedByte v right) x h m = passing_below _ 0 256 x m
taken_below (NotMaskedByte v all) x h m = absurd (Memᴰ.not-nil m)
taken_below (Jump from to) x h m = absurd (Memᴰ.not-nil m)
taken_below (Alternatives ls) x h m = absurd (Memᴰ.not-nil m)

-- and exactly those that the token matches, as its literals of one token are
before_nothing : (ls : List (List ℕ)) → before [] ls ≡ ls
unfolding before
before_nothing [] = refl
before_nothing (l ∷ ls) = ap (λ (x : List (List ℕ)). l ∷ x) (before_nothing ls)

whole : (ls : List (List ℕ)) → ([] ∷ []) ⊗ ls ≡ ls
unfolding ◌⊗◌
whole ls = append-nil (before [] ls) ∙ before_nothing ls

one_literals : (t : Token) → is_plain t ≡ true → literals (t then nothing) ≡ singles (taken t)
unfolding is_plain spelt
one_literals (Byte v) k = whole (singles (taken (Byte v)))
one_literals (NotByte v) k = whole (singles (taken (NotByte v)))
one_literals (MaskedByte v m) k = whole (singles (taken (MaskedByte v m)))
one_literals (NotMaskedByte v m) k = whole (singles (taken (NotMaskedByte v m)))
one_literals (Jump from to) k = false_true k
one_literals (Alternatives ls) k = false_true k

one_listable : (t : Token) → is_plain t ≡ true → listable (t then nothing) ≡ true
unfolding is_plain listable
one_listable (Byte v) k = refl
one_listable (NotByte v) k = refl
one_listable (MaskedByte v m) k = and_both k refl
one_listable (NotMaskedByte v m) k = and_both k refl
one_listable (Jump from to) k = false_true k
one_listable (Alternatives ls) k = false_true k

one_byte : (b : ℕ) → b < 256 → Bytes (b ∷ [])
unfolding Bytes
one_byte b h = (h, tt)

pub taken_members : (t : Token) → is_plain t ≡ true → SpelledOne t → Members t (taken t)
taken_members t k w = record { rising = taken_rises t; matched = λ b. (to b, from b) }
  where
    to : (b : ℕ) → Memᴰ b (taken t) → (b < 256) × Matches t (b ∷ [])
    to b m =
        let h = taken_below t b w m in
        let q = subst (λ (x : List (List ℕ)). Memᴰ (b ∷ []) x) (sym (one_literals t k)) (singles_in (taken t) b m) in
        (h, span_one t (b ∷ []) ((literals_are_spans (t then nothing) (b ∷ []) (one_listable t k) (one_byte b h)).0 q))

    from : (b : ℕ) → (b < 256) × Matches t (b ∷ []) → Memᴰ b (taken t)
    from b (h, m) =
        let q = (literals_are_spans (t then nothing) (b ∷ []) (one_listable t k) (one_byte b h)).1 (one_span t (b ∷ []) m) in
        let (c, e, i) = in_singles (taken t) (b ∷ []) (subst (λ (x : List (List ℕ)). Memᴰ (b ∷ []) x) (one_literals t k) q) in
        let g : c ≡ b = cc in
        subst (λ (x : ℕ). Memᴰ x (taken t)) g i

-- there is one such list
rising_rest : {a : ℕ} {l : List ℕ} → Rising (a ∷ l) → Rising l
rising_rest table.single = table.none
rising_rest (table.more h r) = r

rising_above : (a : ℕ) (l : List ℕ) → Rising (a ∷ l) → (b : ℕ) → Memᴰ b l → a < b
rising_above a [] r b m = absurd (Memᴰ.not-nil m)
rising_above a (c ∷ l) (table.more h r) b m = ⊎_elim (λ e. omega arith) (λ q. let k = rising_above c l r b q in omega arith) (Memᴰ.cases_cons m)

rising_one : (l k : List ℕ) → Rising l → Rising k → ((b : ℕ) → Memᴰ b l → Memᴰ b k) → ((b : ℕ) → Memᴰ b k → Memᴰ b l) → l ≡ k
rising_one [] [] r q f g = refl
rising_one [] (y ∷ k) r q f g = absurd (Memᴰ.not-nil (g y (Memᴰ.head refl)))
rising_one (x ∷ l) [] r q f g = absurd (Memᴰ.not-nil (f x (Memᴰ.head refl)))
rising_one (x ∷ l) (y ∷ k) r q f g = ap₂ (λ (a : ℕ) (b : List ℕ). a ∷ b) same (rising_one l k (rising_rest r) (rising_rest q) forth back)
  where
    same : x ≡ y
    same = ⊎_elim
        (λ e. e)
        (λ m. ⊎_elim (λ e. sym e) (λ n. absurd (let a = rising_above y k q x m in let b = rising_above x l r y n in omega arith)) (Memᴰ.cases_cons (g y (Memᴰ.head refl))))
        (Memᴰ.cases_cons (f x (Memᴰ.head refl)))

    forth : (b : ℕ) → Memᴰ b l → Memᴰ b k
    forth b m = ⊎_elim (λ e. absurd (let a = rising_above x l r b m in let s = same in omega arith)) (λ n. n) (Memᴰ.cases_cons (f b (Memᴰ.tail m)))

    back : (b : ℕ) → Memᴰ b k → Memᴰ b l
    back b m = ⊎_elim (λ e. absurd (let a = rising_above y k q b m in let s = same in omega arith)) (λ n. n) (Memᴰ.cases_cons (g b (Memᴰ.tail m)))

pub members_one : (t : Token) (l k : List ℕ) → Members t l → Members t k → l ≡ k
members_one t l k a b = rising_one l k a.rising b.rising (λ x m. (b.matched x).1 ((a.matched x).0 m)) (λ x m. (a.matched x).1 ((b.matched x).0 m))
