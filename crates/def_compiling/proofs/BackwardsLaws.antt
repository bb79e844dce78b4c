-- Lists read backwards: their spans are the spans read from their other side. Assumes nothing.
use mathlib.Core.Path.{◌≡◌, refl, sym, ap, ap₂, ◌∙◌, subst, subst₂}
use mathlib.Core.Bool.{true}
use mathlib.Core.Logic.{inl, inr, ◌↔◌}
use mathlib.Core.List.{List, [], ◌∷◌, reverse, reverse-append, reverse-reverse}
use Prim.Native.Nat.{ℕ}
use lib.ListN.{length-reverse}
use Rattle.def_meaning.specs.Tokens.{Token, Tokens, Lists, Byte, NotByte, MaskedByte, NotMaskedByte, Jump, Alternatives, nothing, ◌then◌, neither, ◌or◌, One, Within, Matches, Spans, MatchesOne, ◌⊕◌}
use Rattle.def_meaning.specs.Values.{Bytes, Filled, SpelledOne, Spelled, SpelledFirst, SpelledMore}
use Rattle.def_meaning.proofs.SoundLaws.{and_left, and_right, false_true}
use Rattle.def_meaning.proofs.ValueLaws.{bytes_join}
use Rattle.def_meaning.proofs.TokenLaws.{one_span, join_spans, nothing_after, after_assoc}
use Rattle.def_compiling.specs.Compiling.{backwards_of, backwards, backwards_in}
use Rattle.def_compiling.specs.Compile.{flat_token, flat_tokens, flat_branches, simple_token, simple}

backwards_join : (ts us : Tokens) → backwards (ts ⊕ us) ≡ backwards us ⊕ backwards ts
unfolding backwards ◌⊕◌
backwards_join nothing us = sym (nothing_after (backwards us))
backwards_join (t then ts) us = ap (λ (vs : Tokens). vs ⊕ (backwards_of t then nothing)) (backwards_join ts us) ∙ after_assoc (backwards us) (backwards ts) (backwards_of t then nothing)

-- twice backwards is forwards
mutual
  unfolding backwards ◌⊕◌

  twice_of : (t : Token) → backwards_of (backwards_of t) ≡ t
  twice_of (Byte v) = refl
  twice_of (NotByte v) = refl
  twice_of (MaskedByte v m) = refl
  twice_of (NotMaskedByte v m) = refl
  twice_of (Jump from to) = refl
  twice_of (Alternatives ls) = ap Alternatives (twice_in ls)

  pub twice : (ts : Tokens) → backwards (backwards ts) ≡ ts
  twice nothing = refl
  twice (t then ts) = backwards_join (backwards ts) (backwards_of t then nothing) ∙ ap₂ ◌then◌ (twice_of t) (twice ts)

  twice_in : (ls : Lists) → backwards_in (backwards_in ls) ≡ ls
  twice_in neither = refl
  twice_in (ts or ls) = ap₂ ◌or◌ (twice ts) (twice_in ls)

one_reversed : (P : ℕ → Type 0) (s : List ℕ) → One P s → One P (reverse s)
one_reversed P s (b, e, h) = (b, ap reverse e, h)

mutual
  unfolding backwards Spans

  token_backwards : (t : Token) (s : List ℕ) → Matches t s → Matches (backwards_of t) (reverse s)
  token_backwards (Byte v) s h = one_reversed _ s h
  token_backwards (NotByte v) s h = one_reversed _ s h
  token_backwards (MaskedByte v m) s h = one_reversed _ s h
  token_backwards (NotMaskedByte v m) s h = one_reversed _ s h
  token_backwards (Jump from to) s h = subst (Within from to) (sym (length-reverse s)) h
  token_backwards (Alternatives ls) s h = lists_backwards ls s h

  tokens_backwards : (ts : Tokens) (s : List ℕ) → Spans ts s → Spans (backwards ts) (reverse s)
  tokens_backwards nothing s e = ap reverse e
  tokens_backwards (t then ts) s (a, b, e, f, g) =
      subst (Spans (backwards ts ⊕ (backwards_of t then nothing))) (sym (ap reverse e ∙ reverse-append a b))
      (join_spans (backwards ts) (backwards_of t then nothing) (reverse b) (reverse a) (tokens_backwards ts b g) (one_span (backwards_of t) (reverse a) (token_backwards t a f)))

  lists_backwards : (ls : Lists) (s : List ℕ) → MatchesOne ls s → MatchesOne (backwards_in ls) (reverse s)
  lists_backwards neither s h = h
  lists_backwards (ts or ls) s (inl h) = inl (tokens_backwards ts s h)
  lists_backwards (ts or ls) s (inr h) = inr (lists_backwards ls s h)

pub backwards_spans : (ts : Tokens) (s : List ℕ) → Spans ts s ↔ Spans (backwards ts) (reverse s)
backwards_spans ts s = (λ h. tokens_backwards ts s h, λ h. subst₂ Spans (twice ts) (reverse-reverse s) (tokens_backwards (backwards ts) (reverse s) h))

-- what holds of each token holds of the tokens backwards
spelled_join : (ts us : Tokens) → Spelled ts → Spelled us → Spelled (ts ⊕ us)
unfolding Spelled ◌⊕◌
spelled_join nothing us h g = g
spelled_join (t then ts) us h g = (h.0, spelled_join ts us h.1 g)

-- a list with a token has one read backwards
filled_join : (ts us : Tokens) → Filled us → Filled (ts ⊕ us)
unfolding Filled ◌⊕◌
filled_join nothing us h = h
filled_join (t then ts) us h = tt

filled_backwards : (ts : Tokens) → Filled ts → Filled (backwards ts)
unfolding backwards Filled
filled_backwards nothing h = h
filled_backwards (t then ts) h = filled_join (backwards ts) (backwards_of t then nothing) tt

mutual
  unfolding backwards Spelled

  spelled_one : (t : Token) → SpelledOne t → SpelledOne (backwards_of t)
  spelled_one (Byte v) h = h
  spelled_one (NotByte v) h = h
  spelled_one (MaskedByte v m) h = h
  spelled_one (NotMaskedByte v m) h = h
  spelled_one (Jump from to) h = h
  spelled_one (Alternatives ls) h = spelled_first ls h

  pub spelled_backwards : (ts : Tokens) → Spelled ts → Spelled (backwards ts)
  spelled_backwards nothing h = h
  spelled_backwards (t then ts) h = spelled_join (backwards ts) (backwards_of t then nothing) (spelled_backwards ts h.1) (spelled_one t h.0, tt)

  spelled_first : (ls : Lists) → SpelledFirst ls → SpelledFirst (backwards_in ls)
  spelled_first neither h = h
  spelled_first (ts or ls) h = (spelled_backwards ts h.0, spelled_more ls h.1, filled_backwards ts h.2)

  spelled_more : (ls : Lists) → SpelledMore ls → SpelledMore (backwards_in ls)
  spelled_more neither h = h
  spelled_more (ts or ls) h = (spelled_backwards ts h.0, spelled_more ls h.1, filled_backwards ts h.2)

flat_join : (ts us : Tokens) → flat_tokens ts ≡ true → flat_tokens us ≡ true → flat_tokens (ts ⊕ us) ≡ true
unfolding flat_tokens ◌⊕◌
flat_join nothing us h g = g
flat_join (t then ts) us h g = rw (and_left (flat_token t) _ h, flat_join ts us (and_right (flat_token t) _ h) g)

flat_one : (t : Token) → flat_token t ≡ true → flat_token (backwards_of t) ≡ true
unfolding backwards flat_token
flat_one (Byte v) h = h
flat_one (NotByte v) h = h
flat_one (MaskedByte v m) h = h
flat_one (NotMaskedByte v m) h = h
flat_one (Jump from to) h = h
flat_one (Alternatives ls) h = false_true h

flat_backwards : (ts : Tokens) → flat_tokens ts ≡ true → flat_tokens (backwards ts) ≡ true
unfolding backwards flat_tokens
flat_backwards nothing h = h
flat_backwards (t then ts) h = flat_join (backwards ts) (backwards_of t then nothing) (flat_backwards ts (and_right (flat_token t) _ h)) (rw (flat_one t (and_left (flat_token t) _ h)))

flat_lists_backwards : (ls : Lists) → flat_branches ls ≡ true → flat_branches (backwards_in ls) ≡ true
unfolding backwards flat_branches
flat_lists_backwards neither h = h
flat_lists_backwards (ts or ls) h = rw (flat_backwards ts (and_left (flat_tokens ts) _ h), flat_lists_backwards ls (and_right (flat_tokens ts) _ h))

simple_join : (ts us : Tokens) → simple ts ≡ true → simple us ≡ true → simple (ts ⊕ us) ≡ true
unfolding simple ◌⊕◌
simple_join nothing us h g = g
simple_join (t then ts) us h g = rw (and_left (simple_token t) _ h, simple_join ts us (and_right (simple_token t) _ h) g)

simple_one : (t : Token) → simple_token t ≡ true → simple_token (backwards_of t) ≡ true
unfolding backwards simple_token
simple_one (Byte v) h = h
simple_one (NotByte v) h = h
simple_one (MaskedByte v m) h = h
simple_one (NotMaskedByte v m) h = h
simple_one (Jump from to) h = h
simple_one (Alternatives ls) h = flat_lists_backwards ls h

pub simple_backwards : (ts : Tokens) → simple ts ≡ true → simple (backwards ts) ≡ true
unfolding backwards simple
simple_backwards nothing h = h
simple_backwards (t then ts) h = simple_join (backwards ts) (backwards_of t then nothing) (simple_backwards ts (and_right (simple_token t) _ h)) (rw (simple_one t (and_left (simple_token t) _ h)))

-- reversed bytes are bytes
pub bytes_reverse : (s : List ℕ) → Bytes s → Bytes (reverse s)
unfolding Bytes
bytes_reverse [] h = h
bytes_reverse (b ∷ s) h = subst Bytes (sym (reverse-append (b ∷ []) s)) (bytes_join (reverse s) (b ∷ []) (bytes_reverse s h.1) (h.0, tt))
