-- A list is read exactly as the grammar has it: its tokens stand there, and no token follows. Assumes nothing.
use mathlib.Core.Path.{◌≡◌, refl, sym, ap, ap₂, ◌∙◌, subst}
use mathlib.Core.Bool.{Bool, true, false, cond}
use mathlib.Core.Logic.{◌↔◌}
use mathlib.Core.List.{List}
use Prim.Native.Nat.{ℕ, zero, suc, ◌+◌, ◌-◌, ◌≤◌, ◌<◌}
use native.Mathlib.Omega.{arith}
use borrow.Author.Tests.{ltb-true, ltb-false}
use lib.Dec.{ltb}
use lib.ListN.{length, drop}
use Rattle.base.specs.declared.Refusal.TheVariants.{JumpAtBound, HexStringTooDeep}
use Rattle.def_meaning.specs.Limits.{token_limit, level_limit}
use Rattle.def_meaning.specs.Tokens.{Token, Tokens, nothing, ◌then◌, total}
use Rattle.def_reading.specs.Lists.{Parsed, read, missing, stopped, before, at_bound, list_of, token, more, list, enough}
use Rattle.def_reading.proofs.PieceLaws.{never}
use Rattle.def_reading.proofs.ListSteps.{token_gone, more_read, more_none, more_stopped, list_deep, list_of_lem}
use Rattle.def_grammar.specs.Grammar.{TokenList}
use Rattle.def_grammar.specs.Faults as fault
use Rattle.def_grammar.specs.Faults.{Missing, ListEnds}
use Rattle.def_grammar.proofs.Spelling.{NoBlank, SpellsList, depth}
use Rattle.def_grammar.proofs.ListsSpelled.{Right, list_right_all}
use Rattle.def_grammar.proofs.ListsRead.{more_is_read, list_bounded}
use Rattle.def_grammar.proofs.Ends.{TokenAfter, token_after}
use Rattle.def_grammar.proofs.RulesSpell.{list_spells}
use Rattle.def_grammar.proofs.SpellingDerived.{list_derived}
use Rattle.def_grammar.proofs.FaultPieces.{stood, stand}
use Rattle.def_grammar.proofs.FaultTokens.{missing_there, missing_here}

module _ (t : List ℕ) (level : ℕ) where
  -- tokens that were read: none, where one is missing; or a token, and those after it
  unfoldable pub Chain : ℕ → ℕ → Tokens → ℕ → ℕ → Type 0
  Chain count at nothing e d = (token t level count at ≡ missing) × (e ≡ at) × (d ≡ count)
  Chain count at (tok then ts) e d = (x : ℕ) × (c : ℕ) × (token t level count at ≡ read tok x c) × (more t level c x ≡ read ts e d)

  pub chain : (count at : ℕ) (ts : Tokens) (e d : ℕ) → more t level count at ≡ read ts e d → Chain count at ts e d
  unfolding Chain before
  chain count at ts e d q = go (token t level count at) refl ts q
    where
      after : (tok : Token) (x c : ℕ) → token t level count at ≡ read tok x c → (y : Parsed Tokens) → more t level c x ≡ y → (ts : Tokens) → before tok y ≡ read ts e d → Chain count at ts e d
      after tok x c i (read us z b) j nothing h = never (cc)
      after tok x c i (read us z b) j (tok' then ts) h =
          let k : token t level count at ≡ read tok' x c = cc in
          let l : more t level c x ≡ read ts e d = cc in
          (x, c, k, l)
      after tok x c i missing j ts h = never (cc)
      after tok x c i (stopped r p) j ts h = never (cc)

      none : (ts : Tokens) → token t level count at ≡ missing → read nothing at count ≡ read ts e d → Chain count at ts e d
      none nothing i h =
          let k : e ≡ at = cc in
          let l : d ≡ count = cc in
          (i, k, l)
      none (tok then ts) i h = never (cc)

      go : (x : Parsed Token) → token t level count at ≡ x → (ts : Tokens) → more t level count at ≡ read ts e d → Chain count at ts e d
      go (read tok x c) i ts q = after tok x c i (more t level c x) refl ts (sym (more_read t level count at i) ∙ q)
      go missing i ts q = none ts i (sym (more_none t level count at i) ∙ q)
      go (stopped r p) i ts q = let z = more_stopped t level count at i in never (cc)

  -- they have ended where a token is missing
  pub more_ends : (ts : Tokens) (count at e d : ℕ) → (ts ≡ nothing → NoBlank (drop at t)) → more t level count at ≡ read ts e d → NoBlank (drop e t) × (token t level d e ≡ missing)
  unfolding Chain TokenAfter
  more_ends nothing count at e d n q =
      let c = chain count at nothing e d q in
      (subst (λ (x : ℕ). NoBlank (drop x t)) (sym c.1) (n refl), ap₂ (λ (a b : ℕ). token t level a b) c.2 c.1 ∙ c.0)
  more_ends (tok then ts) count at e d n q =
      let c = chain count at (tok then ts) e d q in
      more_ends ts c.1 c.0 e d (λ z. subst (λ (x : Parsed Token). TokenAfter t level at x) c.2 (token_after t level count at)) c.3

  -- a list is what was read of tokens, and there are some
  list_more : (count at : ℕ) (ts : Tokens) (e d : ℕ) → level ≤ level_limit → list t level count at ≡ read ts e d → (more t level count at ≡ read ts e d) × (ts ≡ nothing → ⊥)
  unfolding list_of
  list_more count at ts e d l q = go (more t level count at) refl
    where
      of : {x : Parsed Tokens} → more t level count at ≡ x → list_of at x ≡ read ts e d
      of i = sym (list_of_lem t level count at l ∙ ap (list_of at) i) ∙ q

      ends : (tok : Token) (us : Tokens) (x c : ℕ) → more t level count at ≡ read (tok then us) x c → (w : Bool)
          → ◌≡◌ {A = Parsed Tokens} (cond w (stopped JumpAtBound at) (read (tok then us) x c)) (read ts e d) → (more t level count at ≡ read ts e d) × (ts ≡ nothing → ⊥)
      ends tok us x c i true h = never (cc)
      ends tok us x c i false h = (i ∙ h, λ z. let w : read (tok then us) x c ≡ read nothing e d = h ∙ ap (λ (y : Tokens). read y e d) z in never (cc))

      go : (x : Parsed Tokens) → more t level count at ≡ x → (more t level count at ≡ read ts e d) × (ts ≡ nothing → ⊥)
      go (read nothing x c) i = let z = of i in never (cc)
      go (read (tok then us) x c) i = ends tok us x c i (at_bound (tok then us)) (of i)
      go missing i = let z = of i in never (cc)
      go (stopped r p) i = let z = of i in never (cc)

  -- no list has a ninth level
  list_level : (count at : ℕ) (x : Parsed Tokens) → list t level count at ≡ x → (x ≡ stopped HexStringTooDeep at → ⊥) → level ≤ level_limit
  list_level count at x q n = go (ltb level_limit level) refl
    where
      go : (b : Bool) → ltb level_limit level ≡ b → level ≤ level_limit
      go true i = absurd (n (sym q ∙ list_deep t level count at (ltb-true level_limit level i)))
      go false i = ltb-false level_limit level i

  pub list_there : (count at : ℕ) (ts : Tokens) (e d : ℕ) → 1 ≤ level → count ≤ token_limit → list t level count at ≡ read ts e d → ListEnds t level count at d e
  unfolding Right
  list_there count at ts e d l k q =
      let h = list_level count at (read ts e d) q (λ z. never (cc)) in
      let m = list_more count at ts e d h q in
      let n = more_ends ts count at e d (λ z. absurd (m.1 z)) m.0 in
      let p = subst (λ (x : Parsed Tokens). Right (SpellsList (ltb 1 level)) (λ us. total us) (λ us. depth us) t (suc level_limit - level) count at x) q (list_right_all (enough t at) t level count at l k) in
      let s = p.0 in
      let w = stand t (TokenList level ts) at e s.string s.split (list_derived ts level s.string l p.3 s.spelled.0 s.spelled.1) n.0 s.reach in
      fault.list_ends h w p.1 p.2 (missing_there t level d e (l, h) n.1)

pub list_here : {t : List ℕ} {level count at d e : ℕ} → 1 ≤ level → ListEnds t level count at d e → (ts : Tokens) × (list t level count at ≡ read ts e d)
list_here {t} {level} {count} {at} l (fault.list_ends {d = d} {e = e} {ts = ts} h m c k n) =
    let s = stood m in
    let p = list_spells l h s.3 in
    let z = s.5 in
    let i : depth ts ≤ suc level_limit - level = p.2 in
    let o : token t level (count + total ts) (at + length s.0) ≡ missing = ap₂ (λ (a b : ℕ). token t level a b) (sym c) (sym z) ∙ missing_here t level d e (l, h) n in
    let q = more_is_read ts t level count at s.0 s.1 s.2 s.4 o p.0 l (omega arith) (omega arith) in
    (ts, list_bounded t level count at ts e d h p.1 (q ∙ ap₂ (λ (a b : ℕ). read ts a b) (sym z) (sym c)))

pub list_stands : (t : List ℕ) (level count at d e : ℕ) → 1 ≤ level → count ≤ token_limit → ((ts : Tokens) × (list t level count at ≡ read ts e d)) ↔ ListEnds t level count at d e
list_stands t level count at d e l k = ((λ q. list_there t level count at q.0 e d l k q.1), λ m. list_here l m)

-- and it is missing exactly if its first token is
more_some : (n : ℕ) (t : List ℕ) (level count at : ℕ) → length t - at < n → more t level count at ≡ missing → ⊥
unfolding before
more_some zero t level count at h q = absurd (omega arith)
more_some (suc n) t level count at h q =
    go (token t level count at) refl (λ tok e d i. let g = token_gone t level count at i in more_some n t level d e (omega arith))
  where
    before_missing : (tok : Token) (x : Parsed Tokens) → before tok x ≡ missing → x ≡ missing
    before_missing tok (read ts e d) z = never (cc)
    before_missing tok missing z = refl
    before_missing tok (stopped r p) z = never (cc)

    go : (x : Parsed Token) → token t level count at ≡ x → ((tok : Token) (e d : ℕ) → token t level count at ≡ read tok e d → more t level d e ≡ missing → ⊥) → ⊥
    go (read tok e d) i k = k tok e d i (before_missing tok (more t level d e) (sym (more_read t level count at i) ∙ q))
    go missing i k = let z = more_none t level count at i in never (cc)
    go (stopped r p) i k = let z = more_stopped t level count at i in never (cc)

token_first : (t : List ℕ) (level count at : ℕ) → level ≤ level_limit → list t level count at ≡ missing → token t level count at ≡ missing
unfolding list_of Chain
token_first t level count at l q = go (more t level count at) refl (sym (list_of_lem t level count at l) ∙ q)
  where
    some : (b : Bool) (tok : Token) (ts : Tokens) (e d : ℕ) → ◌≡◌ {A = Parsed Tokens} (cond b (stopped JumpAtBound at) (read (tok then ts) e d)) missing → ⊥
    some true tok ts e d z = never (cc)
    some false tok ts e d z = never (cc)

    go : (x : Parsed Tokens) → more t level count at ≡ x → list_of at x ≡ missing → token t level count at ≡ missing
    go (read nothing e d) i z = (chain t level count at nothing e d i).0
    go (read (tok then ts) e d) i z = absurd (some (at_bound (tok then ts)) tok ts e d z)
    go missing i z = absurd (more_some (suc (length t - at)) t level count at (omega arith) i)
    go (stopped r p) i z = never (cc)

pub list_missing : (t : List ℕ) (level count at : ℕ) → 1 ≤ level → (list t level count at ≡ missing) ↔ ((level ≤ level_limit) × Missing t level at)
unfolding list_of
list_missing t level count at l = (
  (λ q.
      let h = list_level t level count at missing q (λ z. never (cc)) in
      (h, missing_there t level count at (l, h) (token_first t level count at h q))),
  λ m.
      list_of_lem t level count at m.0 ∙ ap (list_of at) (more_none t level count at (missing_here t level count at (l, m.0) m.1)),
)
