-- The shortest literal of tokens is as long as they tell, where they are spelled by a text and hold neither `??` nor a jump; so it is of what is
-- chosen in a segment. Assumes nothing.
use mathlib.Core.Path.{◌≡◌, refl, sym, ap, ap₂, ◌∙◌, subst}
use mathlib.Core.Bool.{Bool, true, false}
use mathlib.Core.Logic.{◌⊎◌, inl, inr, ⊎_elim}
use mathlib.Core.List.Memᴰ
use mathlib.Core.List.{List, [], ◌∷◌, ◌++◌, Memᴰ}
use Prim.Native.Nat.{ℕ, ◌+◌, ◌*◌, ◌/◌, ◌%◌, ◌≤◌, ◌<◌, min}
use native.Mathlib.Omega.{arith}
use native.Mathlib.Nat.{min-eq_left, min-eq_right}
use lib.Dec.{leb}
use borrow.Author.Tests.{leb-true, leb-false}
use lib.ListN.{length, length-append}
use Rattle.def_meaning.specs.Tokens.{left, right, all, Token, Tokens, Lists, Byte, NotByte, MaskedByte, NotMaskedByte, Jump, Alternatives, nothing, ◌then◌, neither, ◌or◌, ◌⊕◌, Agrees, Matches, Spans, MatchesOne}
use Rattle.def_meaning.specs.Values.{Bytes, SpelledOne, Spelled, SpelledFirst, SpelledMore}
use Rattle.def_meaning.proofs.ValueLaws.{bytes_join}
use Rattle.def_meaning.proofs.SoundLaws.{and_left, and_right, and_both, false_true}
use Rattle.def_picking.specs.Literals.{is_plain, literals, listable_of, listable, listable_in, length_of, length_in, shortest, shorter}
use Rattle.def_picking.specs.Runs.{closes, plain_inside, plain_alternatives, at_front, segmented, segments, runs}
use Rattle.def_picking.specs.Candidates.{lowest, least, chosen, in_run}
use Rattle.def_picking.proofs.MatchLaws.{literals_are_spans}
use Rattle.def_picking.proofs.LengthLaws.{literal_lengths}
use Rattle.def_picking.proofs.KeepLaws.{Every, every_map, Holds}
use Rattle.def_picking.proofs.FactorLaws.{Factor, Open, open_left, open_right, runs_every, Inside, run_inside}
use Rattle.def_picking.proofs.ChosenLaws.{plain_left, plain_right, open_listable}

-- ---- some literal has that length

-- some bytes of a length that the tokens match
record Reached (P : List ℕ → Type 0) (n : ℕ) : Type 0 where
  bytes : List ℕ
  matched : P bytes
  proper : Bytes bytes
  long : length bytes ≡ n

one_byte : (P : List ℕ → Type 0) (b : ℕ) → b < 256 → P (b ∷ []) → Reached P 1
unfolding Bytes
one_byte P b h m = record { bytes = b ∷ []; matched = m; proper = (h, tt); long = refl }

-- a half that is not v
other : ℕ → ℕ
other v = (v + 1) % 16

other_half : (v : ℕ) → v < 16 → (other v ≡ v → ⊥) × (other v < 16)
unfolding other
other_half v h = (λ e. omega arith, omega arith)

reach_byte : (t : Token) → is_plain t ≡ true → SpelledOne t → Reached (Matches t) 1
unfolding is_plain SpelledOne Matches Agrees
reach_byte (Byte v) k w = one_byte (Matches (Byte v)) v w (v, refl, refl)
reach_byte (NotByte v) k w =
    let n : (v + 1) % 256 ≡ v → ⊥ = λ e. omega arith in
    one_byte (Matches (NotByte v)) ((v + 1) % 256) (omega arith) ((v + 1) % 256, refl, n)
reach_byte (MaskedByte v left) k w = let e : v % 16 ≡ v = omega arith in one_byte (Matches (MaskedByte v left)) v (omega arith) (v, refl, e)
reach_byte (MaskedByte v right) k w = let e : 16 * v / 16 ≡ v = omega arith in one_byte (Matches (MaskedByte v right)) (16 * v) (omega arith) (16 * v, refl, e)
reach_byte (MaskedByte v all) k w = false_true k
reach_byte (NotMaskedByte v left) k w =
    let (n, l) = other_half v w in
    let e : other v % 16 ≡ other v = omega arith in
    one_byte (Matches (NotMaskedByte v left)) (other v) (omega arith) (other v, refl, λ g. n (sym e ∙ g))
reach_byte (NotMaskedByte v right) k w =
    let (n, l) = other_half v w in
    let e : 16 * other v / 16 ≡ other v = omega arith in
    one_byte (Matches (NotMaskedByte v right)) (16 * other v) (omega arith) (16 * other v, refl, λ g. n (sym e ∙ g))
reach_byte (NotMaskedByte v all) k w = false_true k
reach_byte (Jump from to) k w = false_true k
reach_byte (Alternatives ls) k w = false_true k

spans_nothing : Reached (Spans nothing) 0
unfolding Spans Bytes
spans_nothing = record { bytes = []; matched = refl; proper = tt; long = refl }

spans_next : (t : Token) (ts : Tokens) (n m : ℕ) → Reached (Matches t) n → Reached (Spans ts) m → Reached (Spans (t then ts)) (n + m)
unfolding Spans
spans_next t ts n m a b = record {
  bytes = a.bytes ++ b.bytes;
  matched = (a.bytes, b.bytes, refl, a.matched, b.matched);
  proper = bytes_join a.bytes b.bytes a.proper b.proper;
  long = length-append a.bytes b.bytes ∙ ap₂ (λ (x y : ℕ). x + y) a.long b.long;
}

this_list : (ts : Tokens) (ls : Lists) (n : ℕ) → Reached (Spans ts) n → Reached (MatchesOne (ts or ls)) n
unfolding MatchesOne
this_list ts ls n a = record { bytes = a.bytes; matched = inl a.matched; proper = a.proper; long = a.long }

other_list : (ts : Tokens) (ls : Lists) (n : ℕ) → Reached (MatchesOne ls) n → Reached (MatchesOne (ts or ls)) n
unfolding MatchesOne
other_list ts ls n a = record { bytes = a.bytes; matched = inr a.matched; proper = a.proper; long = a.long }

of_alternatives : (ls : Lists) (n : ℕ) → Reached (MatchesOne ls) n → Reached (Matches (Alternatives ls)) n
unfolding Matches
of_alternatives ls n a = record { bytes = a.bytes; matched = a.matched; proper = a.proper; long = a.long }

-- of lists, the length that was there, or one of theirs
step : (ts : Tokens) (ls : Lists) (n : ℕ) → Reached (Spans ts) (length_in ts) → ((k : ℕ) → (shorter ls k ≡ k) ⊎ Reached (MatchesOne ls) (shorter ls k))
    → (shorter (ts or ls) n ≡ n) ⊎ Reached (MatchesOne (ts or ls)) (shorter (ts or ls) n)
unfolding shorter
step ts ls n a f = go (f (min n (length_in ts))) (leb n (length_in ts)) refl
  where
    go : (shorter ls (min n (length_in ts)) ≡ min n (length_in ts)) ⊎ Reached (MatchesOne ls) (shorter ls (min n (length_in ts))) → (b : Bool) → leb n (length_in ts) ≡ b
        → (shorter ls (min n (length_in ts)) ≡ n) ⊎ Reached (MatchesOne (ts or ls)) (shorter ls (min n (length_in ts)))
    go (inl e) true h = inl (e ∙ min-eq_left (leb-true n (length_in ts) h))
    go (inl e) false h =
        let g : length_in ts < n = leb-false n (length_in ts) h in
        inr (subst (Reached (MatchesOne (ts or ls))) (sym (e ∙ min-eq_right (omega arith))) (this_list ts ls (length_in ts) a))
    go (inr r) b h = inr (other_list ts ls (shorter ls (min n (length_in ts))) r)

first_or : (ts : Tokens) (ls : Lists) → Reached (Spans ts) (length_in ts) → (shorter ls (length_in ts) ≡ length_in ts) ⊎ Reached (MatchesOne ls) (shorter ls (length_in ts))
    → Reached (MatchesOne (ts or ls)) (shorter ls (length_in ts))
first_or ts ls a (inl e) = subst (Reached (MatchesOne (ts or ls))) (sym e) (this_list ts ls (length_in ts) a)
first_or ts ls a (inr r) = other_list ts ls (shorter ls (length_in ts)) r

plain_byte : (v : ℕ) → is_plain (Byte v) ≡ true
unfolding is_plain
plain_byte v = refl

plain_not : (v : ℕ) → is_plain (NotByte v) ≡ true
unfolding is_plain
plain_not v = refl

mutual
  unfolding listable Spelled length_in SpelledOne

  reach_one : (t : Token) → listable_of t ≡ true → SpelledOne t → Reached (Matches t) (length_of t)
  reach_one (Byte v) k w = reach_byte (Byte v) (plain_byte v) w
  reach_one (NotByte v) k w = reach_byte (NotByte v) (plain_not v) w
  reach_one (MaskedByte v m) k w = reach_byte (MaskedByte v m) k w
  reach_one (NotMaskedByte v m) k w = reach_byte (NotMaskedByte v m) k w
  reach_one (Jump from to) k w = false_true k
  reach_one (Alternatives ls) k w = of_alternatives ls (shortest ls) (reach_first ls k w)

  reach : (ts : Tokens) → listable ts ≡ true → Spelled ts → Reached (Spans ts) (length_in ts)
  reach nothing k w = spans_nothing
  reach (t then ts) k w =
      spans_next t ts (length_of t) (length_in ts)
      (reach_one t (and_left (listable_of t) (listable ts) k) w.0)
      (reach ts (and_right (listable_of t) (listable ts) k) w.1)

  reach_first : (ls : Lists) → listable_in ls ≡ true → SpelledFirst ls → Reached (MatchesOne ls) (shortest ls)
  reach_first neither k w = absurd w
  reach_first (ts or ls) k w =
      first_or ts ls (reach ts (and_left (listable ts) (listable_in ls) k) w.0)
      (reach_more ls (length_in ts) (and_right (listable ts) (listable_in ls) k) w.1)

  reach_more : (ls : Lists) (n : ℕ) → listable_in ls ≡ true → SpelledMore ls → (shorter ls n ≡ n) ⊎ Reached (MatchesOne ls) (shorter ls n)
  reach_more neither n k w = inl refl
  reach_more (ts or ls) n k w =
      step ts ls n (reach ts (and_left (listable ts) (listable_in ls) k) w.0)
      (λ m. reach_more ls m (and_right (listable ts) (listable_in ls) k) w.1)

-- a literal of that length
pub shortest_reached : (ts : Tokens) → listable ts ≡ true → Spelled ts → (l : List ℕ) × Memᴰ l (literals ts) × (length l ≡ length_in ts)
shortest_reached ts k w = let r = reach ts k w in (r.bytes, (literals_are_spans ts r.bytes k r.proper).1 r.matched, r.long)

-- ---- none is shorter

module _ (f : List ℕ → ℕ) where
  -- the least of some is not above any
  lowest_start : (ls : List (List ℕ)) (n : ℕ) → lowest f ls n ≤ n
  unfolding lowest
  lowest_start [] n = omega arith
  lowest_start (l ∷ ls) n = let h = lowest_start ls (min n (f l)) in omega arith

  lowest_each : (ls : List (List ℕ)) (n : ℕ) (l : List ℕ) → Memᴰ l ls → lowest f ls n ≤ f l
  unfolding lowest
  lowest_each [] n l m = absurd (Memᴰ.not-nil m)
  lowest_each (x ∷ ls) n l m =
      ⊎_elim (λ (e : l ≡ x). let h = lowest_start ls (min n (f x)) in let g : f l ≡ f x = ap f e in omega arith) (λ (q : Memᴰ l ls). lowest_each ls (min n (f x)) l q) (Memᴰ.cases_cons m)

  -- nor below what all are not below
  lowest_bound : (ls : List (List ℕ)) (n k : ℕ) → k ≤ n → ((l : List ℕ) → Memᴰ l ls → k ≤ f l) → k ≤ lowest f ls n
  unfolding lowest
  lowest_bound [] n k h b = h
  lowest_bound (x ∷ ls) n k h b = let g = b x (Memᴰ.head refl) in lowest_bound ls (min n (f x)) k (omega arith) (λ l m. b l (Memᴰ.tail m))

  -- so one that is not above any is the least
  least_reached : (ls : List (List ℕ)) (n : ℕ) (l : List ℕ) → Memᴰ l ls → f l ≡ n → ((s : List ℕ) → Memᴰ s ls → n ≤ f s) → least f ls ≡ n
  unfolding least
  least_reached [] n l m e b = absurd (Memᴰ.not-nil m)
  least_reached (x ∷ ls) n l m e b =
      let g = lowest_bound ls (f x) n (b x (Memᴰ.head refl)) (λ s q. b s (Memᴰ.tail q)) in
      let h : lowest f ls (f x) ≤ f l =
      ⊎_elim (λ (q : l ≡ x). let a = lowest_start ls (f x) in let c : f l ≡ f x = ap f q in omega arith) (λ (q : Memᴰ l ls). lowest_each ls (f x) l q) (Memᴰ.cases_cons m) in
      omega arith

pub shortest_is : (ts : Tokens) → listable ts ≡ true → Spelled ts → least length (literals ts) ≡ length_in ts
shortest_is ts k w = let (l, m, e) = shortest_reached ts k w in least_reached length (literals ts) (length_in ts) l m e (λ s q. (literal_lengths ts s q).0)

-- ---- what is chosen in a segment

spelled_left : (ts us : Tokens) → Spelled (ts ⊕ us) → Spelled ts
unfolding Spelled ◌⊕◌
spelled_left nothing us h = tt
spelled_left (t then ts) us h = (h.0, spelled_left ts us h.1)

spelled_right : (ts us : Tokens) → Spelled (ts ⊕ us) → Spelled us
unfolding Spelled ◌⊕◌
spelled_right nothing us h = h
spelled_right (t then ts) us h = spelled_right ts us h.1

-- tokens of which none closes a run, with plain alternatives, as a text spells them
abbrev pub Able : Tokens → Type 0
Able s = Open s × (plain_alternatives s ≡ true) × Spelled s

pub able_left : (ts us : Tokens) → Able (ts ⊕ us) → Able ts
able_left ts us (o, p, w) = (open_left ts us o, plain_left ts us p, spelled_left ts us w)

pub able_right : (ts us : Tokens) → Able (ts ⊕ us) → Able us
able_right ts us (o, p, w) = (open_right ts us o, plain_right ts us p, spelled_right ts us w)

-- and so are those that stand in them
pub able_within : (us ts : Tokens) → Factor us ts → Able ts → Able us
able_within us ts (a, b, e) h = able_left us b (able_right a (us ⊕ b) (subst Able e h))

able_on : (b : Bool) (t : Token) (ss : List Tokens) → closes t ≡ b → plain_inside t ≡ true → SpelledOne t → Every Able ss → Every Able (segmented b t ss)
unfolding segmented at_front Every Open plain_alternatives Spelled
able_on true t ss e p w h = ((tt, refl, tt), h)
able_on false t [] e p w h = (((e, tt), and_both p refl, (w, tt)), tt)
able_on false t (s ∷ ss) e p w h = (((e, h.0.0), and_both p h.0.1, (w, h.0.2)), h.1)

segments_able : (ts : Tokens) → plain_alternatives ts ≡ true → Spelled ts → Every Able (segments ts)
unfolding segments Every Open plain_alternatives Spelled
segments_able nothing p w = ((tt, refl, tt), tt)
segments_able (t then ts) p w = able_on (closes t) t (segments ts) refl (and_left (plain_inside t) _ p) w.0 (segments_able ts (and_right (plain_inside t) _ p) w.1)

pub runs_able : (ts : Tokens) → plain_alternatives ts ≡ true → Spelled ts → Every Able (runs ts)
runs_able ts p w = runs_every Able ts (segments_able ts p w)

-- and so is what is chosen in one
pub chosen_able : (run : Tokens) → Able run → (n : ℕ) (us : Tokens) → in_run run ≡ chosen n us → Able us
unfolding Holds
chosen_able run h n us e = able_within us run (subst (Holds (Inside run)) e (run_inside run)).0 h

able_told : (s : Tokens) → Able s → (n : ℕ) (us : Tokens) → in_run s ≡ chosen n us → least length (literals us) ≡ length_in us
able_told s h n us e = let (o, p, w) = chosen_able s h n us e in shortest_is us (open_listable us o p) w

-- what is chosen in any segment has a shortest literal that is as long as its tokens tell
pub segments_told : (ts : Tokens) → plain_alternatives ts ≡ true → Spelled ts
    → Every (λ s. (n : ℕ) (us : Tokens) → in_run s ≡ chosen n us → least length (literals us) ≡ length_in us) (segments ts)
segments_told ts p w = every_map Able _ able_told (segments ts) (segments_able ts p w)
