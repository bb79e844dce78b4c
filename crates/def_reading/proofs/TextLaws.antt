-- Whole texts: what each test decides, and what an accepted text needs. Assumes nothing.
use Prim.Native.Char.{code}
use Prim.Native.Nat.{ℕ, ◌+◌, ◌≤◌, ◌<◌}
use mathlib.Core.Path.{◌≡◌, refl, sym, ap, ◌∙◌}
use mathlib.Core.Bool.{Bool, true, false, cond}
use mathlib.Core.List.{List}
use native.Mathlib.Omega.{arith}
use borrow.Author.Tests.{eqb-true, leb-true, ne_eqb, le-leb, lt-leb}
use lib.Dec.{eqb, leb}
use lib.ListN.{length, get_or}
use Rattle.base.specs.declared.Refusal.TheVariants.{TextTooLong, Unexpected}
use Rattle.def_meaning.specs.Limits.{text_limit}
use Rattle.def_meaning.specs.Tokens.{Tokens}
use Rattle.def_meaning.specs.Entries.{entries}
use Rattle.def_reading.specs.Blanks.{skip}
use Rattle.def_reading.specs.Lists.{Parsed, read, missing, stopped, list, Verdict, accepted, rejected, closing, reading}
use Rattle.def_reading.proofs.PieceLaws.{never, here_at, skip_in}
use Rattle.def_reading.proofs.ListSteps.{list_gone}

module _ (t : List ℕ) where
  pub text_long : text_limit < length t → reading t ≡ rejected TextTooLong 0
  unfolding reading
  text_long h = rw (lt-leb (length t) text_limit h)

  pub text_unopened : length t ≤ text_limit → (get_or t 0 0 ≡ code "{" → ⊥) → reading t ≡ rejected Unexpected 0
  unfolding reading
  text_unopened h k = simp (le-leb (length t) text_limit h, ne_eqb (get_or t 0 0) (code "{") k)

  pub text_opened : length t ≤ text_limit → get_or t 0 0 ≡ code "{" → (at : ℕ) → at ≡ skip t 1 → {x : Parsed Tokens} → list t 1 0 at ≡ x → reading t ≡ closing t at x
  unfolding reading
  text_opened h k at s q = rw (le-leb (length t) text_limit h, k, sym s, q)

  module _ (at : ℕ) (ts : Tokens) (e c : ℕ) where
    pub text_closed : get_or t e 0 ≡ code "}" → closing t at (read ts e c) ≡ accepted (skip t (e + 1)) ts
    unfolding closing
    text_closed h = rw h

    pub text_unclosed : (get_or t e 0 ≡ code "}" → ⊥) → closing t at (read ts e c) ≡ rejected Unexpected e
    unfolding closing
    text_unclosed h = simp (ne_eqb (get_or t e 0) (code "}") h)

-- an accepted text is at most 4,096 bytes long, is opened, and its outer list is read up to a `}`
pub record Accepted (t : List ℕ) (e : ℕ) (ts : Tokens) : Type 0 where
  pub short : length t ≤ text_limit
  pub opened : get_or t 0 0 ≡ code "{"
  pub stop : ℕ
  pub count : ℕ
  pub inner : list t 1 0 (skip t 1) ≡ read ts stop count
  pub closed : get_or t stop 0 ≡ code "}"
  pub reached : e ≡ skip t (stop + 1)

closes : (t : List ℕ) (e : ℕ) (ts us : Tokens) (s c : ℕ) (d : Bool) → length t ≤ text_limit → get_or t 0 0 ≡ code "{" → list t 1 0 (skip t 1) ≡ read us s c → eqb (get_or t s 0) (code "}") ≡ d
    → ◌≡◌ {A = Verdict} (cond d (accepted (skip t (s + 1)) us) (rejected Unexpected s)) (accepted e ts) → Accepted t e ts
closes t e ts us s c true a b i w h =
    let q : us ≡ ts = cc in
    let r : skip t (s + 1) ≡ e = cc in
    record { short = a; opened = b; stop = s; count = c; inner = i ∙ ap (λ (u : Tokens). read u s c) q; closed = eqb-true (get_or t s 0) (code "}") w; reached = sym r }
closes t e ts us s c false a b i w h = never (cc)

pub accepted_is : (t : List ℕ) (e : ℕ) (ts : Tokens) → reading t ≡ accepted e ts → Accepted t e ts
unfolding reading closing
accepted_is t e ts h = go (leb (length t) text_limit) (eqb (get_or t 0 0) (code "{")) (list t 1 0 (skip t 1)) refl refl refl h
  where
    go : (a b : Bool) (x : Parsed Tokens) → leb (length t) text_limit ≡ a → eqb (get_or t 0 0) (code "{") ≡ b → list t 1 0 (skip t 1) ≡ x → cond a (cond b (closing t (skip t 1) x) (rejected Unexpected 0)) (rejected TextTooLong 0) ≡ accepted e ts → Accepted t e ts
    go true true (read us s c) q r i h = closes t e ts us s c (eqb (get_or t s 0) (code "}")) (leb-true (length t) text_limit q) (eqb-true (get_or t 0 0) (code "{") r) i refl h
    go true true missing q r i h = never (cc)
    go true true (stopped u v) q r i h = never (cc)
    go true false x q r i h = never (cc)
    go false b x q r i h = never (cc)

-- an accepted text uses at most 4,092 words
pub accepted_words : (t : List ℕ) (e : ℕ) (ts : Tokens) → reading t ≡ accepted e ts → length (entries ts) ≤ 4092
accepted_words t e ts h =
    let a = accepted_is t e ts h in
    let g = list_gone t 1 0 (skip t 1) a.inner in
    omega arith

-- the offset reached lies inside the text
pub accepted_end : (t : List ℕ) (e : ℕ) (ts : Tokens) → reading t ≡ accepted e ts → e ≤ length t
accepted_end t e ts h =
    let a = accepted_is t e ts h in
    let i = here_at t a.stop (code "}") a.closed (omega arith) in
    omega (arith, a.reached, skip_in t (a.stop + 1) (omega arith))
