-- A text that is spelled within the limits is accepted; so the reader and the grammar have the same texts. Assumes nothing.
use mathlib.Core.Path.{◌≡◌, refl, sym, ap, ◌∙◌}
use mathlib.Core.Logic.{◌↔◌}
use mathlib.Core.List.{List, ◌++◌}
use Prim.Native.Char.{code}
use Prim.Native.Nat.{ℕ, ◌+◌, ◌≤◌}
use native.Mathlib.Omega.{arith}
use borrow.Author.Tests.{le-leb}
use lib.ListN.{length, drop}
use Rattle.def_meaning.specs.Limits.{text_limit, token_limit, level_limit}
use Rattle.def_meaning.specs.Tokens.{Tokens, total}
use Rattle.def_reading.specs.Blanks.{here, skip}
use Rattle.def_reading.specs.Lists.{read, list, accepted, rejected, closing, reading}
use Rattle.base.specs.declared.Refusal.{Refusal}
use Rattle.def_reading.proofs.PieceLaws.{never}
use Rattle.def_grammar.proofs.Spelling.{◌⨾◌, NoBlank, SpellsString, SpellsText, Spelled, depth}
use Rattle.def_grammar.proofs.Standing.{cut}
use Rattle.def_grammar.proofs.Fronts.{marked_form, mark_seen}
use Rattle.def_grammar.proofs.TextSpelled.{accepted_spelled}
use Rattle.def_grammar.proofs.ListsRead.{outer_clear, outer_is_read}

text_steps : (t : List ℕ) (x : ℕ) (ts : Tokens) (y c e : ℕ) → length t ≤ text_limit → here t 0 ≡ code "{" → skip t 1 ≡ x → list t 1 0 x ≡ read ts y c → here t y ≡ code "}" → skip t (y + 1) ≡ e
    → reading t ≡ accepted e ts
unfolding reading closing
text_steps t x ts y c e l h s k i j = rw (le-leb (length t) text_limit l, h, s, k, i, j) refl

string_read : (t : List ℕ) (ts : Tokens) (w r : List ℕ) → drop 0 t ≡ w ++ r → SpellsString ts w → NoBlank r → depth ts ≤ level_limit → total ts ≤ token_limit → length t ≤ text_limit
    → reading t ≡ accepted (length w) ts
unfolding SpellsString ◌⨾◌
string_read t ts w r h p q d n l =
    let m = p.0 in
    let u = p.4.0 in
    let k = p.4.1 in
    let c1 = cut t 0 w m p.1 r h p.2 in
    let c2 = cut t (0 + length m) p.1 u k r c1.1 p.4.2 in
    let s1 = mark_seen t 0 (code "{") m (p.1 ++ r) c1.0 p.3 (outer_clear ts p.1 r p.4) in
    let f = marked_form (code "}") k p.4.4 in
    let s2 = outer_is_read ts t (0 + length m) u (f.0 ++ r) (c2.0 ∙ ap (λ (s : List ℕ). u ++ (s ++ r)) f.1) p.4.3.1 p.4.3.0 d n in
    let s3 = mark_seen t (0 + length m + length u) (code "}") k r c2.1 p.4.4 q in
    let i : length w ≡ length m + length p.1 = c1.2 in
    let j : length p.1 ≡ length u + length k = c2.2 in
    let v : skip t (0 + length m + length u + 1) ≡ 0 + length m + length u + length k = s3.1 in
    let e : skip t (0 + length m + length u + 1) ≡ length w = omega arith in
    text_steps t (0 + length m) ts (0 + length m + length u) (0 + total ts) (length w) l s1.0 s1.1 s2 s3.0 e

-- a text that spells tokens up to an offset, within the limits, is accepted with just these
pub spelled_accepted : (t : List ℕ) (e : ℕ) (ts : Tokens) → SpellsText t e ts → depth ts ≤ level_limit → total ts ≤ token_limit → length t ≤ text_limit → reading t ≡ accepted e ts
unfolding SpellsText
spelled_accepted t e ts p d n l = string_read t ts p.0 p.1 p.2 p.3 p.4 d n l ∙ ap (λ (x : ℕ). accepted x ts) (sym p.5)

-- the two join: the texts that are accepted, with offset and tokens, are those that are spelled within the limits
pub reading_spells : (t : List ℕ) (e : ℕ) (ts : Tokens) → (reading t ≡ accepted e ts) ↔ Spelled t e ts
reading_spells t e ts = (accepted_spelled t e ts, λ p. spelled_accepted t e ts p.0 p.1 p.2 p.3)

-- and a text that is refused spells nothing within them
pub rejected_unspelled : (t : List ℕ) (x : Refusal) (p e : ℕ) (ts : Tokens) → reading t ≡ rejected x p → Spelled t e ts → ⊥
rejected_unspelled t x p e ts h s = never (cc (h, (reading_spells t e ts).1 s))
