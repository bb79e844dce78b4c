-- The program of tokens has exactly their spans. Assumes nothing.
use mathlib.Core.Path.{◌≡◌, refl, sym, ap, ◌∙◌, subst}
use mathlib.Core.Bool.{Bool, true, false}
use mathlib.Core.Logic.{inl, inr, ◌↔◌}
use mathlib.Core.Option.{none, some}
use mathlib.Core.List.{List, [], ◌∷◌, ◌++◌, append-nil, append_assoc}
use Prim.Native.Nat.{ℕ, ◌*◌, ◌≤◌, ◌<◌}
use native.Mathlib.Omega.{arith}
use lib.Dec.{ltb}
use lib.ListN.{length}
use borrow.Author.Tests.{ltb-false}
use Rattle.def_meaning.specs.Tokens.{left, right, all, Token, Tokens, Lists, Byte, NotByte, MaskedByte, NotMaskedByte, Jump, Alternatives, nothing, ◌then◌, neither, ◌or◌, Agrees, One, Within, Matches, Spans, MatchesOne}
use Rattle.def_meaning.proofs.ValueLaws.{any_spelled, bytes_left_lem, bytes_right}
use Rattle.def_meaning.specs.Values.{Bytes, SpelledOne, Spelled, SpelledMore}
use Rattle.def_meaning.specs.Programs.{Test, byte, mask, negated_mask, pass, Prog, one, end, SpanOf, Span, SpanIn}
use Rattle.def_compiling.specs.Compiling.{item_of, added, branches_for, add, forward_program}
use Rattle.def_compiling.proofs.AddLaws.{add_span, span_add}
use Rattle.def_compiling.proofs.MaskLaws.{byte_pass, not_byte_pass, left_pass, right_pass, not_left_pass, not_right_pass, not_all_pass}

-- every jump has an upper bound
unfoldable mutual
  pub BoundedOne : Token → Type 0
  BoundedOne (Byte v) = Unit {0}
  BoundedOne (NotByte v) = Unit {0}
  BoundedOne (MaskedByte v m) = Unit {0}
  BoundedOne (NotMaskedByte v m) = Unit {0}
  BoundedOne (Jump from none) = ⊥
  BoundedOne (Jump from (some to)) = Unit {0}
  BoundedOne (Alternatives ls) = BoundedIn ls

  pub Bounded : Tokens → Type 0
  Bounded nothing = Unit {0}
  Bounded (t then ts) = BoundedOne t × Bounded ts

  pub BoundedIn : Lists → Type 0
  BoundedIn neither = Unit {0}
  BoundedIn (ts or ls) = Bounded ts × BoundedIn ls

the_byte : (b : ℕ) → Bytes (b ∷ []) → b < 256
unfolding Bytes
the_byte b h = h.0

-- one byte, asked in two ways that agree on bytes
one_test : (t : Test) (P : ℕ → Type 0) (s : List ℕ) → Bytes s → ((b : ℕ) → b < 256 → (pass t b ≡ true) ↔ P b) → SpanOf (one t) s ↔ One P s
unfolding Span
one_test t P s y f = (
  λ (b, e, h). (b, e, (f b (the_byte b (subst Bytes e y))).0 h),
  λ (b, e, h). (b, e, (f b (the_byte b (subst Bytes e y))).1 h),
)

one_long : (s : List ℕ) → (length s ≡ 1) ↔ One (λ b. Unit {0}) s
one_long [] = (λ h. absurd (omega arith), λ (b, e, u). ap length e)
one_long (b ∷ []) = (λ h. (b, refl, tt), λ q. refl)
one_long (b ∷ (c ∷ s)) = (λ h. absurd (omega arith), λ (x, e, u). ap length e)

jump_item_lem : (from to : ℕ) (s : List ℕ) → from ≤ to → SpanOf (item_of (Jump from (some to))) s ↔ Within from (some to) (length s)
unfolding Span item_of Within
jump_item_lem from to s l = go (ltb from to) refl
  where
    go : (t : Bool) → ltb from to ≡ t → SpanOf (item_of (Jump from (some to))) s ↔ Within from (some to) (length s)
    go true e = rw e (λ h. h, λ h. h)
    go false e = let g : to ≤ from = ltb-false from to e in rw e (λ h. omega arith, λ h. omega arith)

-- nothing stood before
from_end : (P : List ℕ → Type 0) (s : List ℕ) → (a : List ℕ) × (b : List ℕ) × (s ≡ a ++ b) × Span end a × P b → P s
unfolding Span
from_end P s (a, b, e, n, h) = subst P (sym (e ∙ ap (λ (l : List ℕ). l ++ b) n)) h

-- what a token matches its item fits, on bytes; what tokens span, their program does after what stood before
mutual
  unfolding Spans Span SpelledOne BoundedOne item_of

  token_span : (t : Token) (s : List ℕ) → Bytes s → SpelledOne t → BoundedOne t → Matches t s → SpanOf (item_of t) s
  token_span (Byte v) s y h g m = (one_test (byte v) (λ b. b ≡ v) s y (λ b l. byte_pass v b l)).1 m
  token_span (NotByte v) s y h g m = (one_test (negated_mask v 0xFF) (λ b. b ≡ v → ⊥) s y (λ b l. not_byte_pass v b l)).1 m
  token_span (MaskedByte v left) s y h g m = (one_test (mask v 0x0F) (Agrees left v) s y (λ b l. left_pass v b l)).1 m
  token_span (MaskedByte v right) s y h g m = (one_test (mask (16 * v) 0xF0) (Agrees right v) s y (λ b l. right_pass v b l)).1 m
  token_span (MaskedByte v all) s y h g (b, e, u) = ap length e
  token_span (NotMaskedByte v left) s y h g m = (one_test (negated_mask v 0x0F) (λ b. Agrees left v b → ⊥) s y (λ b l. not_left_pass v b l)).1 m
  token_span (NotMaskedByte v right) s y h g m = (one_test (negated_mask (16 * v) 0xF0) (λ b. Agrees right v b → ⊥) s y (λ b l. not_right_pass v b l)).1 m
  token_span (NotMaskedByte v all) s y h g m = (one_test (negated_mask 0 0) (λ b. Agrees all v b → ⊥) s y (λ b l. not_all_pass v b l)).1 m
  token_span (Jump from none) s y h g m = absurd g
  token_span (Jump from (some to)) s y h g m = (jump_item_lem from to s h.0).1 m
  token_span (Alternatives ls) s y h g m = lists_span ls s y (any_spelled ls h) g m

  tokens_span : (ts : Tokens) (p : Prog) (a b : List ℕ) → Bytes b → Spelled ts → Bounded ts → Span p a → Spans ts b → Span (added ts p) (a ++ b)
  tokens_span nothing p a b y h g q m = subst (Span p) (sym (ap (λ (l : List ℕ). a ++ l) m ∙ append-nil a)) q
  tokens_span (t then ts) p a b y h g q (c, d, e, m, n) =
      let z : Bytes (c ++ d) = subst Bytes e y in
      subst (Span (added ts (add p (item_of t)))) (append_assoc a c d ∙ ap (λ (l : List ℕ). a ++ l) (sym e))
      (tokens_span ts (add p (item_of t)) (a ++ c) d (bytes_right c d z) h.1 g.1 (add_span p (item_of t) a c q (token_span t c (bytes_left_lem c d z) h.0 g.0 m)) n)

  lists_span : (ls : Lists) (s : List ℕ) → Bytes s → SpelledMore ls → BoundedIn ls → MatchesOne ls s → SpanIn (branches_for ls) s
  lists_span neither s y h g m = m
  lists_span (ts or ls) s y h g (inl m) = inl (tokens_span ts end [] s y h.0 g.0 refl m)
  lists_span (ts or ls) s y h g (inr m) = inr (lists_span ls s y h.1 g.1 m)

-- and nothing else
mutual
  unfolding Spans Span SpelledOne BoundedOne item_of Agrees

  span_token : (t : Token) (s : List ℕ) → Bytes s → SpelledOne t → BoundedOne t → SpanOf (item_of t) s → Matches t s
  span_token (Byte v) s y h g m = (one_test (byte v) (λ b. b ≡ v) s y (λ b l. byte_pass v b l)).0 m
  span_token (NotByte v) s y h g m = (one_test (negated_mask v 0xFF) (λ b. b ≡ v → ⊥) s y (λ b l. not_byte_pass v b l)).0 m
  span_token (MaskedByte v left) s y h g m = (one_test (mask v 0x0F) (Agrees left v) s y (λ b l. left_pass v b l)).0 m
  span_token (MaskedByte v right) s y h g m = (one_test (mask (16 * v) 0xF0) (Agrees right v) s y (λ b l. right_pass v b l)).0 m
  span_token (MaskedByte v all) s y h g m = (one_long s).0 m
  span_token (NotMaskedByte v left) s y h g m = (one_test (negated_mask v 0x0F) (λ b. Agrees left v b → ⊥) s y (λ b l. not_left_pass v b l)).0 m
  span_token (NotMaskedByte v right) s y h g m = (one_test (negated_mask (16 * v) 0xF0) (λ b. Agrees right v b → ⊥) s y (λ b l. not_right_pass v b l)).0 m
  span_token (NotMaskedByte v all) s y h g m = (one_test (negated_mask 0 0) (λ b. Agrees all v b → ⊥) s y (λ b l. not_all_pass v b l)).0 m
  span_token (Jump from none) s y h g m = absurd g
  span_token (Jump from (some to)) s y h g m = (jump_item_lem from to s h.0).0 m
  span_token (Alternatives ls) s y h g m = span_lists ls s y (any_spelled ls h) g m

  span_tokens : (ts : Tokens) (p : Prog) (s : List ℕ) → Bytes s → Spelled ts → Bounded ts → Span (added ts p) s → (a : List ℕ) × (b : List ℕ) × (s ≡ a ++ b) × Span p a × Spans ts b
  span_tokens nothing p s y h g m = (s, [], sym (append-nil s), m, refl)
  span_tokens (t then ts) p s y h g m =
      let q = span_tokens ts (add p (item_of t)) s y h.1 g.1 m in
      let r = span_add p (item_of t) q.0 q.3 in
      let z : Bytes q.0 = bytes_left_lem q.0 q.1 (subst Bytes q.2 y) in
      let w : Bytes r.1 = bytes_right r.0 r.1 (subst Bytes r.2 z) in
      (r.0, r.1 ++ q.1, q.2 ∙ ap (λ (l : List ℕ). l ++ q.1) r.2 ∙ append_assoc r.0 r.1 q.1, r.3, (r.1, q.1, refl, span_token t r.1 w h.0 g.0 r.4, q.4))

  span_lists : (ls : Lists) (s : List ℕ) → Bytes s → SpelledMore ls → BoundedIn ls → SpanIn (branches_for ls) s → MatchesOne ls s
  span_lists neither s y h g m = m
  span_lists (ts or ls) s y h g (inl m) = inl (from_end (Spans ts) s (span_tokens ts end s y h.0 g.0 m))
  span_lists (ts or ls) s y h g (inr m) = inr (span_lists ls s y h.1 g.1 m)

-- the forward program has exactly the tokens' spans
pub forward_spans : (ts : Tokens) (s : List ℕ) → Bytes s → Spelled ts → Bounded ts → Spans ts s ↔ Span (forward_program ts) s
unfolding forward_program Span
forward_spans ts s y h g = (λ m. tokens_span ts end [] s y h g refl m, λ m. from_end (Spans ts) s (span_tokens ts end s y h g m))
