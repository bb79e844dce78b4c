-- Adding an item to a program adds its spans at the end, whether jumps merge or not. Assumes nothing.
use mathlib.Core.Path.{◌≡◌, refl, sym, ap, ◌∙◌, subst}
use mathlib.Core.Bool.{Bool, true, false}
use mathlib.Core.List.{List, [], ◌++◌, append-nil, append_assoc}
use Prim.Native.Nat.{ℕ, ◌+◌}
use native.Mathlib.Omega.{arith}
use lib.Dec.{leb}
use lib.ListN.{length, take, drop, length-append, length-drop, take-append-drop}
use lib.Seq.{length-take-le}
use Rattle.def_meaning.specs.Limits.{jump_limit}
use Rattle.def_meaning.specs.Programs.{Item, Prog, one, jump, range, alt, end, ◌▹◌, SpanOf, Span}
use Rattle.def_compiling.specs.Compiling.{jump_of, pair_by, add}

-- a span of p, and after it a span of i
abbrev pub Then : Prog → Item → List ℕ → Type 0
Then p i s = (a : List ℕ) × (b : List ℕ) × (s ≡ a ++ b) × Span p a × SpanOf i b

one_item : (i : Item) (s : List ℕ) → SpanOf i s → Span (i ▹ end) s
unfolding Span
one_item i s h = (s, [], sym (append-nil s), h, refl)

item_one : (i : Item) (s : List ℕ) → Span (i ▹ end) s → SpanOf i s
unfolding Span
item_one i s (a, b, e, h, n) = subst (SpanOf i) (sym (e ∙ ap (λ (l : List ℕ). a ++ l) n ∙ append-nil a)) h

two_items : (i j : Item) (a b : List ℕ) → SpanOf i a → SpanOf j b → Span (i ▹ j ▹ end) (a ++ b)
unfolding Span
two_items i j a b h g = (a, b, refl, h, one_item j b g)

items_two : (i j : Item) (s : List ℕ) → Span (i ▹ j ▹ end) s → Then (i ▹ end) j s
unfolding Span
items_two i j s (a, b, e, h, g) = (a, b, e, one_item i a h, item_one j b g)

-- two jumps are one jump of their sum
merged : (m n : ℕ) (a b : List ℕ) → SpanOf (jump m) a → SpanOf (jump n) b → Span (jump (m + n) ▹ end) (a ++ b)
unfolding Span
merged m n a b h g = one_item (jump (m + n)) (a ++ b) (omega (arith, length-append a b))

parted : (m n : ℕ) (s : List ℕ) → Span (jump (m + n) ▹ end) s → Then (jump m ▹ end) (jump n) s
unfolding Span
parted m n s h =
    let l : length s ≡ m + n = item_one (jump (m + n)) s h in
    (take m s, drop m s, sym (take-append-drop m s), one_item (jump m) (take m s) (length-take-le m s (omega arith)), omega (arith, length-drop m s))

jumps_pair : (m n : ℕ) (a b : List ℕ) → SpanOf (jump m) a → SpanOf (jump n) b → Span (pair_by (jump_of (jump m)) (jump_of (jump n)) (jump m) (jump n)) (a ++ b)
unfolding pair_by jump_of
jumps_pair m n a b h g = go (leb (m + n) jump_limit) refl
  where
    go : (t : Bool) → leb (m + n) jump_limit ≡ t → Span (pair_by (jump_of (jump m)) (jump_of (jump n)) (jump m) (jump n)) (a ++ b)
    go true e = rw e (merged m n a b h g)
    go false e = rw e (two_items (jump m) (jump n) a b h g)

pair_jumps : (m n : ℕ) (s : List ℕ) → Span (pair_by (jump_of (jump m)) (jump_of (jump n)) (jump m) (jump n)) s → Then (jump m ▹ end) (jump n) s
unfolding pair_by jump_of
pair_jumps m n s h = go (leb (m + n) jump_limit) refl
  where
    go : (t : Bool) → leb (m + n) jump_limit ≡ t → Then (jump m ▹ end) (jump n) s
    go true e = parted m n s (rw e at h)
    go false e = items_two (jump m) (jump n) s (rw e at h)

pair_span : (i j : Item) (a b : List ℕ) → SpanOf i a → SpanOf j b → Span (pair_by (jump_of i) (jump_of j) i j) (a ++ b)
unfolding pair_by jump_of
pair_span (one t) j a b h g = two_items (one t) j a b h g
pair_span (jump m) (one t) a b h g = two_items (jump m) (one t) a b h g
pair_span (jump m) (jump n) a b h g = jumps_pair m n a b h g
pair_span (jump m) (range x y) a b h g = two_items (jump m) (range x y) a b h g
pair_span (jump m) (alt bs) a b h g = two_items (jump m) (alt bs) a b h g
pair_span (range x y) j a b h g = two_items (range x y) j a b h g
pair_span (alt bs) j a b h g = two_items (alt bs) j a b h g

span_pair : (i j : Item) (s : List ℕ) → Span (pair_by (jump_of i) (jump_of j) i j) s → Then (i ▹ end) j s
unfolding pair_by jump_of
span_pair (one t) j s h = items_two (one t) j s h
span_pair (jump m) (one t) s h = items_two (jump m) (one t) s h
span_pair (jump m) (jump n) s h = pair_jumps m n s h
span_pair (jump m) (range x y) s h = items_two (jump m) (range x y) s h
span_pair (jump m) (alt bs) s h = items_two (jump m) (alt bs) s h
span_pair (range x y) j s h = items_two (range x y) j s h
span_pair (alt bs) j s h = items_two (alt bs) j s h

pub add_span : (p : Prog) (j : Item) (a b : List ℕ) → Span p a → SpanOf j b → Span (add p j) (a ++ b)
unfolding Span add
add_span end j a b e g = one_item j (a ++ b) (subst (SpanOf j) (ap (λ (l : List ℕ). l ++ b) (sym e)) g)
add_span (i ▹ end) j a b h g = pair_span i j a b (item_one i a h) g
add_span (i ▹ (k ▹ p)) j a b (c, d, e, f, h) g = (c, d ++ b, ap (λ (l : List ℕ). l ++ b) e ∙ append_assoc c d b, f, add_span (k ▹ p) j d b h g)

pub span_add : (p : Prog) (j : Item) (s : List ℕ) → Span (add p j) s → Then p j s
unfolding Span add
span_add end j s h = ([], s, refl, refl, item_one j s h)
span_add (i ▹ end) j s h = span_pair i j s h
span_add (i ▹ (k ▹ p)) j s (c, d, e, f, h) =
    let q = span_add (k ▹ p) j d h in
    (c ++ q.0, q.1, e ∙ ap (λ (l : List ℕ). c ++ l) q.2 ∙ sym (append_assoc c q.0 q.1), (c, q.0, refl, f, q.3), q.4)
