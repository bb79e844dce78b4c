-- The laws of token lists: spans and entries, end to end. Assumes nothing.
use mathlib.Core.Path.{◌≡◌, refl, sym, ap, ◌∙◌, subst}
use mathlib.Core.Option.{none, some}
use mathlib.Core.List.{List, [], ◌++◌, append-nil, append_assoc}
use Prim.Native.Nat.{ℕ, ◌*◌, ◌/◌, ◌≤◌}
use native.Mathlib.Omega.{arith}
use lib.ListN.{length, length-append}
use Rattle.def_meaning.specs.Tokens.{Token, Tokens, Lists, Byte, NotByte, MaskedByte, NotMaskedByte, Jump, Alternatives, nothing, ◌then◌, neither, ◌or◌, Matches, Spans, ◌⊕◌}
use Rattle.def_meaning.specs.Entries.{token_count, entries_of, entries, list_entries}

-- a token alone has the spans that it matches
pub one_span : (t : Token) (s : List ℕ) → Matches t s → Spans (t then nothing) s
unfolding Spans
one_span t s h = (s, [], sym (append-nil s), h, refl)

pub span_one : (t : Token) (s : List ℕ) → Spans (t then nothing) s → Matches t s
unfolding Spans
span_one t s (a, b, e, h, n) = subst (Matches t) (sym (e ∙ ap (λ (l : List ℕ). a ++ l) n ∙ append-nil a)) h

-- laying one list after another joins their spans end to end, and nothing else
pub join_spans : (ts us : Tokens) (s t : List ℕ) → Spans ts s → Spans us t → Spans (ts ⊕ us) (s ++ t)
unfolding Spans ◌⊕◌
join_spans nothing us s t e h = subst (Spans us) (ap (λ (l : List ℕ). l ++ t) (sym e)) h
join_spans (k then ts) us s t (a, b, e, f, g) h = (a, b ++ t, ap (λ (l : List ℕ). l ++ t) e ∙ append_assoc a b t, f, join_spans ts us b t g h)

pub spans_join : (ts us : Tokens) (s : List ℕ) → Spans (ts ⊕ us) s → (a : List ℕ) × (b : List ℕ) × (s ≡ a ++ b) × Spans ts a × Spans us b
unfolding Spans ◌⊕◌
spans_join nothing us s h = ([], s, refl, refl, h)
spans_join (k then ts) us s (a, b, e, f, g) =
    let r = spans_join ts us b g in
    (a ++ r.0, r.1, e ∙ ap (λ (l : List ℕ). a ++ l) r.2 ∙ sym (append_assoc a r.0 r.1), (a, r.0, refl, f, r.3), r.4)

-- lists, end to end
pub nothing_after : (ts : Tokens) → ts ⊕ nothing ≡ ts
unfolding ◌⊕◌
nothing_after nothing = refl
nothing_after (k then ts) = ap (λ (us : Tokens). k then us) (nothing_after ts)

pub after_assoc : (ts us vs : Tokens) → (ts ⊕ us) ⊕ vs ≡ ts ⊕ (us ⊕ vs)
unfolding ◌⊕◌
after_assoc nothing us vs = refl
after_assoc (k then ts) us vs = ap (λ (ws : Tokens). k then ws) (after_assoc ts us vs)

-- and their entries
pub entries_join : (ts us : Tokens) → entries (ts ⊕ us) ≡ entries ts ++ entries us
unfolding entries ◌⊕◌
entries_join nothing us = refl
entries_join (t then ts) us = ap (λ (l : List ℕ). entries_of t ++ l) (entries_join ts us) ∙ sym (append_assoc (entries_of t) (entries ts) (entries us))

-- a token has an entry at least
pub some_entry : (t : Token) → 4 ≤ length (entries_of t)
unfolding entries_of
some_entry (Byte v) = omega arith
some_entry (NotByte v) = omega arith
some_entry (MaskedByte v m) = omega arith
some_entry (NotMaskedByte v m) = omega arith
some_entry (Jump from none) = omega arith
some_entry (Jump from (some to)) = omega arith
some_entry (Alternatives ls) = omega arith

-- so there are no more tokens than entries
pub count_few : (ts : Tokens) → 4 * token_count ts ≤ length (entries ts)
unfolding token_count entries
count_few nothing = omega arith
count_few (t then ts) = omega (arith, count_few ts, some_entry t, length-append (entries_of t) (entries ts))

-- entries are of four words each
mutual
  unfolding entries_of entries list_entries

  fours_of : (t : Token) → 4 * (length (entries_of t) / 4) ≡ length (entries_of t)
  fours_of (Byte v) = refl
  fours_of (NotByte v) = refl
  fours_of (MaskedByte v m) = refl
  fours_of (NotMaskedByte v m) = refl
  fours_of (Jump from none) = refl
  fours_of (Jump from (some to)) = refl
  fours_of (Alternatives ls) = let h = fours_in ls in omega arith

  pub fours : (ts : Tokens) → 4 * (length (entries ts) / 4) ≡ length (entries ts)
  fours nothing = refl
  fours (t then ts) = let a = fours_of t in let b = fours ts in let c = length-append (entries_of t) (entries ts) in omega arith

  pub fours_in : (ls : Lists) → 4 * (length (list_entries ls) / 4) ≡ length (list_entries ls)
  fours_in neither = refl
  fours_in (ts or ls) = let a = fours ts in let b = fours_in ls in let c = length-append (entries ts) (list_entries ls) in omega arith
