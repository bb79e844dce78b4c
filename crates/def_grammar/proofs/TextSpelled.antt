-- An accepted text is spelled as the grammar says, within the limits. Assumes nothing.
use mathlib.Core.Path.{◌≡◌, refl, subst}
use mathlib.Core.Bool.{Bool, true, false, cond}
use mathlib.Core.List.{List}
use Prim.Native.Char.{code}
use Prim.Native.Nat.{ℕ, ◌+◌, ◌≤◌}
use native.Mathlib.Omega.{arith}
use borrow.Author.Tests.{leb-true, eqb-true}
use lib.Dec.{eqb, leb}
use lib.ListN.{length, drop}
use Rattle.base.specs.declared.Refusal.TheVariants.{Unexpected, TextTooLong}
use Rattle.def_meaning.specs.Limits.{text_limit, token_limit}
use Rattle.def_meaning.specs.Tokens.{Tokens, total}
use Rattle.def_reading.specs.Blanks.{here, skip}
use Rattle.def_reading.specs.Lists.{Parsed, read, missing, stopped, list, enough, Verdict, accepted, rejected, closing, reading}
use Rattle.def_grammar.proofs.Spelling.{Marked, SpellsString, SpellsText, Spelled}
use Rattle.def_grammar.proofs.Standing.{Stands, seq, skip_clear, mark_stands}
use Rattle.def_grammar.proofs.ListsSpelled.{Right, ListRight, list_right_all}

abbrev VerdictRight : List ℕ → Verdict → Type 0
VerdictRight t (accepted e ts) = Spelled t e ts
VerdictRight t (rejected r p) = Unit {0}

closing_right : (t : List ℕ) (at : ℕ) (x : Parsed Tokens) → length t ≤ text_limit → Stands (Marked (code "{")) t 0 at → ListRight t 1 0 at x → VerdictRight t (closing t at x)
unfolding Right closing SpellsString SpellsText
closing_right t at (read ts e c) l m p = go (eqb (here t e) (code "}")) refl
  where
    go : (a : Bool) → eqb (here t e) (code "}") ≡ a → VerdictRight t (cond a (accepted (skip t (e + 1)) ts) (rejected Unexpected e))
    go true d =
        let s = seq m (seq p.0 (mark_stands t e (code "}") (eqb-true (here t e) (code "}") d) (omega arith))) in
        let q : skip t (e + 1) ≡ 0 + length s.string = s.reach in
        let i : c ≡ 0 + total ts = p.1 in
        let k : c ≤ token_limit = p.2 in
        ((s.string, drop (skip t (e + 1)) t, s.split, s.spelled, skip_clear t (e + 1), omega arith), p.3, omega arith, l)
    go false d = tt
closing_right t at missing l m p = tt
closing_right t at (stopped r z) l m p = tt

reading_right : (t : List ℕ) → VerdictRight t (reading t)
unfolding reading
reading_right t = go (leb (length t) text_limit) (eqb (here t 0) (code "{")) refl refl
  where
    go : (a b : Bool) → leb (length t) text_limit ≡ a → eqb (here t 0) (code "{") ≡ b
        → VerdictRight t (cond a (cond b (closing t (skip t 1) (list t 1 0 (skip t 1))) (rejected Unexpected 0)) (rejected TextTooLong 0))
    go true true d e =
        closing_right t (skip t 1) (list t 1 0 (skip t 1)) (leb-true (length t) text_limit d) (mark_stands t 0 (code "{") (eqb-true (here t 0) (code "{") e) (omega arith))
        (list_right_all (enough t (skip t 1)) t 1 0 (skip t 1) (omega arith) (omega arith))
    go true false d e = tt
    go false b d e = tt

-- an accepted text spells the tokens read, up to the offset reached, within the limits
pub accepted_spelled : (t : List ℕ) (e : ℕ) (ts : Tokens) → reading t ≡ accepted e ts → Spelled t e ts
accepted_spelled t e ts h = subst (λ (o : Verdict). VerdictRight t o) h (reading_right t)
