-- A token is read, missing or refused exactly as the grammar has it. Assumes nothing.
use mathlib.Core.Path.{◌≡◌, refl, sym, ap, ◌∙◌, subst}
use mathlib.Core.Bool.{Bool, true, false, cond}
use mathlib.Core.Logic.{◌⊎◌, inl, inr, ◌↔◌}
use mathlib.Core.Option.{Option}
use mathlib.Core.List.{List, [], ◌∷◌, ◌++◌}
use Prim.Native.Char.{code}
use Prim.Native.Nat.{ℕ, suc, ◌+◌, ◌-◌, ◌≤◌}
use native.Mathlib.Omega.{arith}
use borrow.Author.Tests.{eqb-true, ltb-true, lt-ltb}
use lib.Dec.{eqb, ltb}
use lib.ListN.{length, drop}
use Rattle.base.specs.declared.Refusal.{Refusal}
use Rattle.base.specs.declared.Refusal.TheVariants.{Unexpected, NumberTooBig, CannotNegateMaskAll, TooManyTokens}
use Rattle.def_meaning.specs.Limits.{token_limit, level_limit}
use Rattle.def_meaning.specs.Tokens.{left, right, all, Token, Lists, NotByte, NotMaskedByte, Jump, Alternatives, total_in}
use Rattle.def_reading.specs.Blanks.{here, skip}
use Rattle.def_reading.specs.Given as goal
use Rattle.def_reading.specs.Pieces.{Seen, found, absent, refused, ◌else◌, Hex, whole, masked, hex_at, negated, leaf_at}
use Rattle.def_reading.specs.Lists.{Parsed, read, missing, stopped, token_or, as_token, bracketed, token, lists, enough}
use Rattle.def_reading.proofs.PieceLaws.{never}
use Rattle.def_reading.proofs.PieceSteps.{not_hex, leaf_not}
use Rattle.def_reading.proofs.InToken.{opens, in_token_refuses, refused_in_token}
use Rattle.def_reading.proofs.ListSteps.{token_step}
use Rattle.def_grammar.specs.Grammar.{Gap}
use Rattle.def_grammar.specs.Faults as fault
use Rattle.def_grammar.specs.Faults.{Stands, Spells, Missing}
use Rattle.def_grammar.proofs.Spelling.{◌⨾◌, NoBlank, SpellsToken, NoJump, depth_in}
use Rattle.def_grammar.proofs.Standing.{after, here_is, here_cons}
use Rattle.def_grammar.proofs.Fronts.{marked_form}
use Rattle.def_grammar.proofs.PiecesSpelled.{Leaf, leaf_or}
use Rattle.def_grammar.proofs.PiecesRead.{leaf_found}
use Rattle.def_grammar.proofs.ListsSpelled.{Right, token_right}
use Rattle.def_grammar.proofs.ListsRead.{token_is_read, token_found}
use Rattle.def_grammar.proofs.Ends.{TokenAfter, token_after}
use Rattle.def_grammar.proofs.RulesSpell.{solid_spells, jump_spells}
use Rattle.def_grammar.proofs.SpellingDerived.{jump_or, solid_derived, jump_derived}
use Rattle.def_grammar.proofs.FaultPieces.{stood, stand, mark_there, mark_here, from_there, from_here, jumps_there, jumps_here, big_there, big_here}

-- the levels of lists
abbrev pub Level : ℕ → Type 0
Level level = (1 ≤ level) × (level ≤ level_limit)

spells_token : {level : ℕ} {tok : Token} {s : List ℕ} → Level level → Spells level tok s → SpellsToken (ltb 1 level) tok s × (level + depth_in tok ≤ level_limit)
spells_token {level} l (inl p) = let q = solid_spells l.0 l.1 p in let d = q.2 in let k : level ≤ level_limit = l.1 in (q.0, omega arith)
spells_token {level} l (inr p) = let q = jump_spells p in let d = q.1 in let k : level ≤ level_limit = l.1 in (q.0, omega arith)

token_spells : (level : ℕ) (tok : Token) (s : List ℕ) → 1 ≤ level → depth_in tok ≤ level_limit - level → SpellsToken (ltb 1 level) tok s → Spells level tok s
token_spells level tok s l d p = go (jump_or tok)
  where
    go : NoJump tok ⊎ ((from : ℕ) × (to : Option ℕ) × (tok ≡ Jump from to)) → Spells level tok s
    go (inl n) = inl (solid_derived tok level s l n d p)
    go (inr j) =
        let q = jump_derived level j.0 j.1 s l (subst (λ (x : Token). SpellsToken (ltb 1 level) x s) j.2 p) in
        inr (subst (λ (x : Token). Gap level x s) (sym j.2) q)

-- what stands there is seen: a token other than alternatives, or the `(` of those
pub seen : {t : List ℕ} {level at e : ℕ} {tok : Token} → Level level → Stands t (Spells level tok) at e → ((s : ℕ) × (leaf_at t (ltb 1 level) at ≡ found tok s e)) ⊎ (here t at ≡ code "(")
unfolding SpellsToken ◌⨾◌
seen {t} {level} {at} {e} {tok} l m = go (leaf_or tok) (stood m)
  where
    go : Leaf tok ⊎ ((ls : Lists) × (tok ≡ Alternatives ls)) → ((s : List ℕ) × (r : List ℕ) × (drop at t ≡ s ++ r) × Spells level tok s × NoBlank r × (e ≡ at + length s))
        → ((s : ℕ) × (leaf_at t (ltb 1 level) at ≡ found tok s e)) ⊎ (here t at ≡ code "(")
    go (inl k) s =
        let q = leaf_found t (ltb 1 level) at tok s.0 s.1 k s.2 (spells_token l s.3).0 s.4 in
        inl (q.0, q.1 ∙ ap (λ (x : ℕ). found tok q.0 x) (sym s.5))
    go (inr k) s =
        let p = subst (λ (x : Token). SpellsToken (ltb 1 level) x s.0) k.1 (spells_token l s.3).0 in
        let f = marked_form (code "(") p.0 p.3 in
        let e : s.0 ≡ code "(" ∷ (f.0 ++ p.1) = p.2 ∙ ap (λ (x : List ℕ). x ++ p.1) f.1 in
        inr (here_is t at (code "(") ((f.0 ++ p.1) ++ s.1) (s.2 ∙ ap (λ (x : List ℕ). x ++ s.1) e))

-- a token is read exactly if it stands there and is within the count
pub token_there : (t : List ℕ) (level count at : ℕ) (tok : Token) (e d : ℕ) → Level level → token t level count at ≡ read tok e d
    → Stands t (Spells level tok) at e × (d ≡ count + total_in tok) × (d ≤ token_limit)
unfolding Right TokenAfter
token_there t level count at tok e d l q =
    let p = subst (λ (x : Parsed Token). Right (λ k s. SpellsToken (ltb 1 level) k s) (λ k. total_in k) (λ k. depth_in k) t (level_limit - level) count at x) q (token_right (enough t at) t level count at l.0) in
    let m = p.0 in
    let n = subst (λ (x : Parsed Token). TokenAfter t level at x) q (token_after t level count at) in
    (stand t (Spells level tok) at e m.string m.split (token_spells level tok m.string l.0 p.3 m.spelled) n m.reach, p.1, p.2)

pub token_here : (t : List ℕ) (level count at : ℕ) (tok : Token) (e : ℕ) → Level level → Stands t (Spells level tok) at e → count + total_in tok ≤ token_limit
    → token t level count at ≡ read tok e (count + total_in tok)
token_here t level count at tok e l m k =
    let s = stood m in
    let p = spells_token l s.3 in
    token_is_read tok t level count at s.0 s.1 s.2 s.4 p.0 l.0 p.1 k ∙ ap (λ (x : ℕ). read tok x (count + total_in tok)) (sym s.5)

pub token_stands : (t : List ℕ) (level count at : ℕ) (tok : Token) (e d : ℕ) → Level level
    → (token t level count at ≡ read tok e d) ↔ (Stands t (Spells level tok) at e × (d ≡ count + total_in tok) × (d ≤ token_limit))
token_stands t level count at tok e d l = (
  (λ q. token_there t level count at tok e d l q),
  λ p.
      let q : count + total_in tok ≤ token_limit = subst (λ (x : ℕ). x ≤ token_limit) p.1 p.2 in
      token_here t level count at tok e l p.0 q ∙ ap (λ (x : ℕ). read tok e x) (sym p.1),
)

-- a token other than alternatives stands where it is found
pub leaf_there : (t : List ℕ) (level at : ℕ) (tok : Token) (s e : ℕ) → Level level → leaf_at t (ltb 1 level) at ≡ found tok s e → Stands t (Spells level tok) at e
leaf_there t level at tok s e l q = (token_there t level 0 at tok e 1 l (token_found t level 0 at tok s e q (omega arith))).0

-- refusals within a token
no_tilde : {A : Type 0} (t : List ℕ) (at : ℕ) → here t at ≡ code "[" → here t at ≡ code "~" → A
no_tilde t at h o = absurd (omega arith)

-- at a `~` there are two
at_tilde : {t : List ℕ} {inside : Bool} {at p : ℕ} {r : Refusal} → goal.InToken t inside at r p → here t at ≡ code "~" → (hex_at t (at + 1) ≡ absent) ⊎ ((here t (at + 1) ≡ code "?") × (here t (at + 2) ≡ code "?"))
at_tilde (goal.after_tilde h q) o = inl q
at_tilde (goal.tilde_all h k l) o = inr (k, l)
at_tilde {t} {at = at} (goal.big_from h b) o = no_tilde t at h o
at_tilde {t} {at = at} (goal.big_to h f d b) o = no_tilde t at h o
at_tilde {t} {at = at} (goal.empty j) o = no_tilde t at (opens j) o
at_tilde {t} {at = at} (goal.backwards j h) o = no_tilde t at (opens j) o
at_tilde {t} {at = at} (goal.open_inside i j) o = no_tilde t at (opens j) o
at_tilde {t} {at = at} (goal.long_inside i j h k) o = no_tilde t at (opens j) o

-- two question marks after a sign
marks_after : (t : List ℕ) (at : ℕ) → here t (at + 1) ≡ code "?" → here t (at + 2) ≡ code "?" → drop (at + 1) t ≡ code "?" ∷ (code "?" ∷ drop (at + 3) t)
marks_after t at h k =
    let e : suc (at + 1) ≡ at + 2 = omega arith in
    let f : suc (at + 2) ≡ at + 3 = omega arith in
    here_cons t (at + 1) (code "?") h (omega arith) ∙ ap (λ (x : List ℕ). code "?" ∷ x) (ap (λ (i : ℕ). drop i t) e ∙ here_cons t (at + 2) (code "?") k (omega arith) ∙ ap (λ (i : ℕ). code "?" ∷ drop i t) f)

marks_here : (t : List ℕ) (at : ℕ) (u : List ℕ) → drop (at + 1) t ≡ code "?" ∷ (code "?" ∷ u) → (here t (at + 1) ≡ code "?") × (here t (at + 2) ≡ code "?")
marks_here t at u h =
    let e : at + 1 + 1 ≡ at + 2 = omega arith in
    (here_is t (at + 1) (code "?") (code "?" ∷ u) h, here_is t (at + 2) (code "?") u (ap (λ (i : ℕ). drop i t) (sym e) ∙ after t (at + 1) (code "?" ∷ []) (code "?" ∷ u) h))

tilde_first : (t : List ℕ) (at : ℕ) → here t at ≡ code "~" → drop at t ≡ code "~" ∷ drop (at + 1) t
tilde_first t at h = let e : suc at ≡ at + 1 = omega arith in here_cons t at (code "~") h (omega arith) ∙ ap (λ (i : ℕ). code "~" ∷ drop i t) e

pub in_token_there : {t : List ℕ} {level at p : ℕ} {r : Refusal} → Level level → goal.InToken t (ltb 1 level) at r p → fault.InToken t level at r p
in_token_there {t} {level} {at} l (goal.after_tilde h q) =
    let x : leaf_at t (ltb 1 level) at ≡ refused Unexpected (at + 1) = in_token_refuses (goal.after_tilde h q) in
    fault.after_tilde (tilde_first t at h) (λ u e.
    let m = marks_here t at u e in
    let y : leaf_at t (ltb 1 level) at ≡ refused CannotNegateMaskAll at = in_token_refuses (goal.tilde_all h m.0 m.1) in
    let z : at ≡ at + 1 = cc in
    omega arith) (λ tok e s. go x (seen l s))
  where
    go : {tok : Token} {e p : ℕ} {r : Refusal} → leaf_at t (ltb 1 level) at ≡ refused r p → ((s : ℕ) × (leaf_at t (ltb 1 level) at ≡ found tok s e)) ⊎ (here t at ≡ code "(") → ⊥
    go x (inl y) = let z = y.1 in never (cc)
    go x (inr y) = omega arith
in_token_there {t} {level} {at} l (goal.tilde_all h k m) = fault.tilde_all (tilde_first t at h ∙ ap (λ (x : List ℕ). code "~" ∷ x) (marks_after t at k m))
in_token_there {t} {level} {at} l (goal.big_from h b) = fault.big_from (mark_there t "[" at h (omega arith)) (big_there t (skip t (at + 1)) b)
in_token_there {t} {level} {at} l (goal.big_to {x = x} h f d b) = fault.big_to (mark_there t "[" at h (omega arith)) (from_there f d) (mark_there t "-" x d (omega arith)) (big_there t (skip t (x + 1)) b)
in_token_there l (goal.empty j) = fault.empty (jumps_there j)
in_token_there l (goal.backwards j h) = fault.backwards (jumps_there j) h
in_token_there {level = level} l (goal.open_inside i j) = fault.open_inside (ltb-true 1 level i) (jumps_there j)
in_token_there {level = level} l (goal.long_inside i j h k) = fault.long_inside (ltb-true 1 level i) (jumps_there j) h k

tilde_here : (t : List ℕ) (level at : ℕ) (r : List ℕ) → Level level → drop at t ≡ code "~" ∷ r → ((u : List ℕ) → r ≡ code "?" ∷ (code "?" ∷ u) → ⊥) → ((tok : Token) → fault.Lacks t (Spells level tok) at) → hex_at t (at + 1) ≡ absent
unfolding negated ◌else◌
tilde_here t level at r l h n k = go (hex_at t (at + 1)) refl
  where
    o : here t at ≡ code "~"
    o = here_is t at (code "~") r h

    stops : (x : Refusal) (p : ℕ) → leaf_at t (ltb 1 level) at ≡ refused x p → hex_at t (at + 1) ≡ absent
    stops x p q = by (at_tilde (refused_in_token t at (ltb 1 level) x p q) o)
      where
        by : (hex_at t (at + 1) ≡ absent) ⊎ ((here t (at + 1) ≡ code "?") × (here t (at + 2) ≡ code "?")) → hex_at t (at + 1) ≡ absent
        by (inl e) = e
        by (inr e) = absurd (n (drop (at + 3) t) (sym (after t at (code "~" ∷ []) r h) ∙ marks_after t at e.0 e.1))

    stood_there : {A : Type 0} (tok : Token) (s e : ℕ) → leaf_at t (ltb 1 level) at ≡ found tok s e → A
    stood_there tok s e q = absurd (k tok e (leaf_there t level at tok s e l q))

    go : (x : Seen Hex) → hex_at t (at + 1) ≡ x → hex_at t (at + 1) ≡ absent
    go (found (whole v) s e) j = stood_there (NotByte v) s e (leaf_not t at (ltb 1 level) (not_hex t at o j))
    go (found (masked v left) s e) j = stood_there (NotMaskedByte v left) s e (leaf_not t at (ltb 1 level) (not_hex t at o j))
    go (found (masked v right) s e) j = stood_there (NotMaskedByte v right) s e (leaf_not t at (ltb 1 level) (not_hex t at o j))
    go (found (masked v all) s e) j = stops _ at (leaf_not t at (ltb 1 level) (not_hex t at o j))
    go absent j = j
    go (refused x p) j = stops x p (leaf_not t at (ltb 1 level) (not_hex t at o j))

pub in_token_here : {t : List ℕ} {level at p : ℕ} {r : Refusal} → Level level → fault.InToken t level at r p → goal.InToken t (ltb 1 level) at r p
in_token_here {t} {level} {at} l (fault.after_tilde {r = r} h n k) = goal.after_tilde (here_is t at (code "~") r h) (tilde_here t level at r l h n k)
in_token_here {t} {level} {at} l (fault.tilde_all {r = r} h) =
    let m = marks_here t at r (after t at (code "~" ∷ []) (code "?" ∷ (code "?" ∷ r)) h) in
    goal.tilde_all (here_is t at (code "~") (code "?" ∷ (code "?" ∷ r)) h) m.0 m.1
in_token_here {t} {level} {at} l (fault.big_from a b) =
    let i = mark_here a in
    subst (λ (x : ℕ). goal.InToken t (ltb 1 level) at NumberTooBig x) (sym i.1) (goal.big_from i.0 (subst (goal.Big t) i.1 (big_here b)))
in_token_here {t} {level} {at} l (fault.big_to {m = m} {y = y} a f d b) =
    let i = mark_here a in
    let j = mark_here d in
    subst (λ (x : ℕ). goal.InToken t (ltb 1 level) at NumberTooBig x) (sym j.1) (goal.big_to i.0 (subst (λ (v : ℕ). goal.From t v m y) i.1 (from_here f j.0)) j.0 (subst (goal.Big t) j.1 (big_here b)))
in_token_here l (fault.empty j) = goal.empty (jumps_here j).1
in_token_here l (fault.backwards j h) = goal.backwards (jumps_here j).1 h
in_token_here {level = level} l (fault.open_inside i j) = goal.open_inside (lt-ltb 1 level i) (jumps_here j).1
in_token_here {level = level} l (fault.long_inside i j h k) = goal.long_inside (lt-ltb 1 level i) (jumps_here j).1 h k

-- a token is missing exactly if none stands there, none is refused and no `(` opens alternatives
pub missing_there : (t : List ℕ) (level count at : ℕ) → Level level → token t level count at ≡ missing → Missing t level at
unfolding TokenAfter
missing_there t level count at l q =
    let a = subst (λ (x : Parsed Token). TokenAfter t level at x) q (token_after t level count at) in
    ((λ tok e s. go a.0 a.1 (seen l s)), (λ r p i. let x = in_token_refuses (in_token_here l i) in let y = a.0 in never (cc)), λ e m. a.1 (mark_here m).0)
  where
    go : {tok : Token} {e : ℕ} → leaf_at t (ltb 1 level) at ≡ absent → (here t at ≡ code "(" → ⊥) → ((s : ℕ) × (leaf_at t (ltb 1 level) at ≡ found tok s e)) ⊎ (here t at ≡ code "(") → ⊥
    go x y (inl z) = let w = z.1 in never (cc)
    go x y (inr z) = y z

pub missing_here : (t : List ℕ) (level count at : ℕ) → Level level → Missing t level at → token t level count at ≡ missing
unfolding token_or bracketed
missing_here t level count at l m = token_step t level count at ∙ go (leaf_at t (ltb 1 level) at) refl
  where
    inner : Parsed Lists
    inner = lists t (level + 1) (count + 1) (skip t (at + 1)) (skip t (at + 1))

    bracket : (a : Bool) → eqb (here t at) (code "(") ≡ a → ◌≡◌ {A = Parsed Token} (cond a (cond (ltb count token_limit) (as_token inner) (stopped TooManyTokens at)) missing) missing
    bracket true i = absurd (m.2 (skip t (at + 1)) (mark_there t "(" at (eqb-true (here t at) (code "(") i) (omega arith)))
    bracket false i = refl

    go : (x : Seen Token) → leaf_at t (ltb 1 level) at ≡ x → token_or at count x (bracketed t at count inner) ≡ missing
    go (found tok s e) q = absurd (m.0 tok e (leaf_there t level at tok s e l q))
    go absent q = bracket (eqb (here t at) (code "(")) refl
    go (refused r p) q = absurd (m.1 r p (in_token_there l (refused_in_token t at (ltb 1 level) r p q)))

pub token_missing : (t : List ℕ) (level count at : ℕ) → Level level → (token t level count at ≡ missing) ↔ Missing t level at
token_missing t level count at l = ((λ q. missing_there t level count at l q), λ m. missing_here t level count at l m)
