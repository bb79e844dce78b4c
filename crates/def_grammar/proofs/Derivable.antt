-- The reader accepts exactly what the grammar derives, with the same tokens and the same offset; a text has one meaning at most; and one that has
-- none has a fault. Assumes nothing.
use mathlib.Core.Path.{◌≡◌, refl, sym, subst, subst₂}
use mathlib.Core.Logic.{◌↔◌, ◌⊎◌, inl, inr}
use mathlib.Core.List.{List, ◌++◌}
use Prim.Native.Nat.{ℕ, ◌≤◌}
use lib.ListN.{length}
use Rattle.base.specs.declared.Refusal.{Refusal}
use Rattle.def_meaning.specs.Limits.{text_limit, level_limit}
use Rattle.def_meaning.specs.Tokens.{Tokens}
use Rattle.def_reading.specs.Lists.{Verdict, accepted, rejected, reading}
use Rattle.def_grammar.specs.Grammar as rule
use Rattle.def_grammar.specs.Grammar.{Derives}
use Rattle.def_grammar.specs.Faults.{Fault}
use Rattle.def_grammar.proofs.Spelling.{◌⨾◌, SpellsString, SpellsText, Spelled, depth}
use Rattle.def_grammar.proofs.RulesSpell.{mark_spells, outer_spells}
use Rattle.def_grammar.proofs.SpellingDerived.{parts, clear_spells, clear_derived, mark_derived, outer_derived}
use Rattle.def_grammar.proofs.TextRead.{reading_spells, rejected_unspelled}
use Rattle.def_grammar.proofs.OneSpelling.{spelled_once}
use Rattle.def_grammar.proofs.FaultLaws.{fault_exactly}

pattern_spells : {ts : Tokens} {s : List ℕ} → rule.Pattern ts s → SpellsString ts s × (depth ts ≤ level_limit)
unfolding SpellsString ◌⨾◌
pattern_spells (rule.pattern {a = a} {b = b} {c = c} p q r) = let l = outer_spells q in ((a, b ++ c, refl, mark_spells p, (b, c, refl, l.0, mark_spells r)), l.1)

pattern_derived : (ts : Tokens) (s : List ℕ) → SpellsString ts s → depth ts ≤ level_limit → rule.Pattern ts s
unfolding SpellsString ◌⨾◌
pattern_derived ts s p d =
    let q = p.4 in
    subst (rule.Pattern ts) (sym (parts p.0 p.2 q.2)) (rule.pattern (mark_derived "{" p.0 p.3) (outer_derived ts q.0 q.3 d) (mark_derived "}" q.1 q.4))

derives_spelled : {t : List ℕ} {e : ℕ} {ts : Tokens} → Derives t e ts → Spelled t e ts
unfolding SpellsText
derives_spelled (rule.derives {s = s} {r = r} p n k l) = let q = pattern_spells p in ((s, r, refl, q.0, clear_spells n, refl), q.1, k, l)

spelled_derives : (t : List ℕ) (e : ℕ) (ts : Tokens) → Spelled t e ts → Derives t e ts
unfolding SpellsText
spelled_derives t e ts p =
    let q = p.0 in
    let d = rule.derives (pattern_derived ts q.0 q.3 p.1) (clear_derived q.1 q.4) p.2 (subst (λ (x : List ℕ). length x ≤ text_limit) q.2 p.3) in
    subst₂ (λ (x : List ℕ) (n : ℕ). Derives x n ts) (sym q.2) (sym q.5) d

-- accepted is derivable: with these tokens and this offset, both ways
pub accepted_derived : (t : List ℕ) (e : ℕ) (ts : Tokens) → reading t ≡ accepted e ts → Derives t e ts
accepted_derived t e ts h = spelled_derives t e ts ((reading_spells t e ts).0 h)

pub derived_accepted : (t : List ℕ) (e : ℕ) (ts : Tokens) → Derives t e ts → reading t ≡ accepted e ts
derived_accepted t e ts d = (reading_spells t e ts).1 (derives_spelled d)

pub accepted_is_derived : (t : List ℕ) (e : ℕ) (ts : Tokens) → (reading t ≡ accepted e ts) ↔ Derives t e ts
accepted_is_derived t e ts = (accepted_derived t e ts, derived_accepted t e ts)

-- one text, one list of tokens, one offset
pub derived_once : (t : List ℕ) (e e' : ℕ) (ts ts' : Tokens) → Derives t e ts → Derives t e' ts' → (e ≡ e') × (ts ≡ ts')
derived_once t e e' ts ts' d d' = spelled_once t e e' ts ts' (derives_spelled d).0 (derives_spelled d').0

-- a text that is refused is not derivable
pub rejected_underivable : (t : List ℕ) (r : Refusal) (p : ℕ) → reading t ≡ rejected r p → (e : ℕ) (ts : Tokens) → Derives t e ts → ⊥
rejected_underivable t r p h e ts d = rejected_unspelled t r p e ts h (derives_spelled d)

-- each text is derivable, or has a fault
pub derived_or_fault : (t : List ℕ) → ((e : ℕ) × (ts : Tokens) × Derives t e ts) ⊎ ((r : Refusal) × (p : ℕ) × Fault t r p)
derived_or_fault t = go (reading t) refl
  where
    go : (o : Verdict) → reading t ≡ o → ((e : ℕ) × (ts : Tokens) × Derives t e ts) ⊎ ((r : Refusal) × (p : ℕ) × Fault t r p)
    go (accepted e ts) h = inl (e, ts, accepted_derived t e ts h)
    go (rejected r p) h = inr (r, p, (fault_exactly t r p).0 h)

-- and not both
pub fault_underivable : (t : List ℕ) (r : Refusal) (p : ℕ) → Fault t r p → (e : ℕ) (ts : Tokens) → Derives t e ts → ⊥
fault_underivable t r p f = rejected_underivable t r p ((fault_exactly t r p).1 f)
