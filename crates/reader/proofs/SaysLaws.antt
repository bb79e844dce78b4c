-- What is known of what was read, once the answer is. Assumes nothing.
use Prim.Native.Char.{code}
use Rattle.std.proofs.Common.{◌≡◌, ℕ, ◌+◌, ◌≤◌, ◌<◌, Bool, cond, ltb, List, length, get_or, refl, sym, ap, ap₂, ◌∙◌, subst, lt-ltb, le-ltb, ne_eqb}
use Rattle.base.specs.declared.Refused.{Refused}
use Rattle.reader.specs.declared.TokenRead.{TokenRead}
use Rattle.reader.specs.declared.ListRead.{ListRead}
use Rattle.base.specs.declared.Refusal.{Refusal}
use Rattle.base.specs.declared.Refusal.TheVariants.{TooManyTokens}
use Rattle.def_meaning.specs.Limits.{token_limit}
use Rattle.def_meaning.specs.Tokens.{Token, Tokens, Lists}
use Rattle.def_meaning.specs.Entries.{entries_of, entries, token_count}
use Rattle.def_reading.specs.Blanks.{skip}
use Rattle.def_reading.specs.Pieces.{Seen, found, absent, refused, leaf_at}
use Rattle.def_reading.specs.Lists.{Parsed, read, missing, stopped, is_jump, token_or, as_token, bracketed, token, lists}
use Rattle.def_reading.proofs.PieceLaws.{never}
use Rattle.def_reading.proofs.PieceBounds.{OneEntry, leaf_entry}
use Rattle.def_reading.proofs.ListSteps.{token_step}
use Rattle.reader.specs.Written.{written}
use Rattle.reader.specs.Says.{TokenGot, token_to, no_token, token_refusal, ListGot, list_to, no_list, list_refusal, TokenSays, ListSays, alternatives}

module _ (n : ℕ) (g : TokenGot) (p q : List ℕ) where
  pub token_read : (x : Parsed Token) (e u d : ℕ) (j : Bool) → g ≡ token_to e u d j → TokenSays x n g p q
      → (tok : Token) × (x ≡ read tok e d) × (u ≡ n + length (entries_of tok)) × (j ≡ is_jump tok) × (q ≡ written p n (entries_of tok))
  unfolding TokenSays
  token_read (read tok e' d') e u d j h s =
      let z : record { to = record { at = e; count = d; words = u }; jump = j } ≡ record { to = record { at = e'; count = d'; words = n + length (entries_of tok) }; jump = is_jump tok } = cc in
      let a : e ≡ e' = ap (λ (x : TokenRead). x.to.at) z in
      let b : d ≡ d' = ap (λ (x : TokenRead). x.to.count) z in
      (tok, ap₂ (read tok) (sym a) (sym b), ap (λ (x : TokenRead). x.to.words) z, ap (λ (x : TokenRead). x.jump) z, s.1)
  token_read missing e u d j h s = never (cc)
  token_read (stopped r y) e u d j h s = never (cc)

  pub token_absent : (x : Parsed Token) → g ≡ no_token → TokenSays x n g p q → (x ≡ missing) × (q ≡ p)
  unfolding TokenSays
  token_absent (read tok e d) h s = never (cc)
  token_absent missing h s = (refl, s.1)
  token_absent (stopped r y) h s = never (cc)

  pub token_refused : (x : Parsed Token) (r : Refusal) (y : ℕ) → g ≡ token_refusal r y → TokenSays x n g p q → x ≡ stopped r y
  unfolding TokenSays
  token_refused (read tok e d) r y h s = never (cc)
  token_refused missing r y h s = never (cc)
  token_refused (stopped r' y') r y h s =
      let z : record { why = r'; place = y' } ≡ record { why = r; place = y } = cc in
      ap₂ stopped (ap (λ (x : Refused). x.why) z) (ap (λ (x : Refused). x.place) z)

module _ (n : ℕ) (g : ListGot) (p q : List ℕ) where
  pub list_read : (x : Parsed Tokens) (e u d k : ℕ) → g ≡ list_to e u d k → ListSays x n g p q
      → (ts : Tokens) × (x ≡ read ts e d) × (u ≡ n + length (entries ts)) × (k ≡ token_count ts) × (q ≡ written p n (entries ts))
  unfolding ListSays
  list_read (read ts e' d') e u d k h s =
      let z : record { to = record { at = e; count = d; words = u }; tokens = k } ≡ record { to = record { at = e'; count = d'; words = n + length (entries ts) }; tokens = token_count ts } = cc in
      let a : e ≡ e' = ap (λ (x : ListRead). x.to.at) z in
      let b : d ≡ d' = ap (λ (x : ListRead). x.to.count) z in
      (ts, ap₂ (read ts) (sym a) (sym b), ap (λ (x : ListRead). x.to.words) z, ap (λ (x : ListRead). x.tokens) z, s.1)
  list_read missing e u d k h s = never (cc)
  list_read (stopped r y) e u d k h s = never (cc)

  pub list_absent : (x : Parsed Tokens) → g ≡ no_list → ListSays x n g p q → (x ≡ missing) × (q ≡ p)
  unfolding ListSays
  list_absent (read ts e d) h s = never (cc)
  list_absent missing h s = (refl, s.1)
  list_absent (stopped r y) h s = never (cc)

  pub list_refused : (x : Parsed Tokens) (r : Refusal) (y : ℕ) → g ≡ list_refusal r y → ListSays x n g p q → x ≡ stopped r y
  unfolding ListSays
  list_refused (read ts e d) r y h s = never (cc)
  list_refused missing r y h s = never (cc)
  list_refused (stopped r' y') r y h s =
      let z : record { why = r'; place = y' } ≡ record { why = r; place = y } = cc in
      ap₂ stopped (ap (λ (x : Refused). x.why) z) (ap (λ (x : Refused). x.place) z)

-- and what is to be said of it
pub says_read : (x : Parsed Token) (n : ℕ) (p q : List ℕ) (tok : Token) (e d u : ℕ) (j : Bool) → x ≡ read tok e d → u ≡ n + length (entries_of tok) → j ≡ is_jump tok → q ≡ written p n (entries_of tok) → TokenSays x n (token_to e u d j) p q
unfolding TokenSays
says_read x n p q tok e d u j h a b w = rw h (ap₂ (λ (i : ℕ) (k : Bool). token_to e i d k) a b, w)

pub says_absent : (x : Parsed Token) (n : ℕ) (p : List ℕ) → x ≡ missing → TokenSays x n no_token p p
unfolding TokenSays
says_absent x n p h = rw h (refl, refl)

pub says_refused : (x : Parsed Token) (n : ℕ) (p q : List ℕ) (r : Refusal) (y : ℕ) → x ≡ stopped r y → TokenSays x n (token_refusal r y) p q
unfolding TokenSays
says_refused x n p q r y h = rw h refl

pub list_says_refused : (x : Parsed Tokens) (n : ℕ) (p q : List ℕ) (r : Refusal) (y : ℕ) → x ≡ stopped r y → ListSays x n (list_refusal r y) p q
unfolding ListSays
list_says_refused x n p q r y h = rw h refl

pub says_same : (x y : Parsed Token) (n : ℕ) (r : TokenGot) (p q : List ℕ) → x ≡ y → TokenSays y n r p q → TokenSays x n r p q
says_same x y n r p q e h = rw e h

-- one token
module _ (t : List ℕ) (l c at : ℕ) where
  token_of_lem : {x : Seen Token} → leaf_at t (ltb 1 l) at ≡ x → token t l c at ≡ token_or at c x (alternatives t l c at)
  token_of_lem e = token_step t l c at ∙ ap (λ (y : Seen Token). token_or at c y (alternatives t l c at)) e

  pub token_full : {tok : Token} {s e : ℕ} → leaf_at t (ltb 1 l) at ≡ found tok s e → token_limit ≤ c → token t l c at ≡ stopped TooManyTokens at
  unfolding token_or
  token_full {tok} {s} {e} h k = token_of_lem h ∙ ap (λ (b : Bool). cond b (read tok e (c + 1)) (stopped TooManyTokens at)) (le-ltb c token_limit k)

  pub token_found : {tok : Token} {s e : ℕ} → leaf_at t (ltb 1 l) at ≡ found tok s e → c < token_limit → token t l c at ≡ read tok e (c + 1)
  unfolding token_or
  token_found {tok} {s} {e} h k = token_of_lem h ∙ ap (λ (b : Bool). cond b (read tok e (c + 1)) (stopped TooManyTokens at)) (lt-ltb c token_limit k)

  pub token_other : leaf_at t (ltb 1 l) at ≡ absent → token t l c at ≡ alternatives t l c at
  unfolding token_or
  token_other h = token_of_lem h

  pub token_refuses : {r : Refusal} {p : ℕ} → leaf_at t (ltb 1 l) at ≡ refused r p → token t l c at ≡ stopped r p
  unfolding token_or
  token_refuses h = token_of_lem h

  pub one_entry : {tok : Token} {s e : ℕ} → leaf_at t (ltb 1 l) at ≡ found tok s e → length (entries_of tok) ≡ 4
  unfolding OneEntry
  one_entry h = subst (λ (x : Seen Token). OneEntry x) h (leaf_entry t (ltb 1 l) at)

  -- alternatives
  pub no_bracket : (get_or t at 0 ≡ code "(" → ⊥) → alternatives t l c at ≡ missing
  unfolding bracketed
  no_bracket h = simp (ne_eqb (get_or t at 0) (code "(") h)

  pub bracket_full : get_or t at 0 ≡ code "(" → token_limit ≤ c → alternatives t l c at ≡ stopped TooManyTokens at
  unfolding bracketed
  bracket_full h k = rw (h, le-ltb c token_limit k)

  pub bracket_open : get_or t at 0 ≡ code "(" → c < token_limit → {y : Parsed Lists} → lists t (l + 1) (c + 1) (skip t (at + 1)) (skip t (at + 1)) ≡ y → alternatives t l c at ≡ as_token y
  unfolding bracketed
  bracket_open h k e = rw (h, lt-ltb c token_limit k, e)
