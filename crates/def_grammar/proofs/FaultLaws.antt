-- A text is refused exactly as the grammar's faults have it. Assumes nothing.
use mathlib.Core.Path.{◌≡◌, refl, sym, ap, ap₂, ◌∙◌, subst, subst₂}
use mathlib.Core.Bool.{Bool, true, false, ◌&&◌, ◌||◌}
use mathlib.Core.Logic.{◌⊎◌, inl, inr, ⊎_elim, ◌↔◌}
use mathlib.Core.List.{List}
use Prim.Native.Char.{code}
use Prim.Native.Nat.{ℕ, suc, ◌+◌, ◌≤◌, ◌<◌}
use native.Mathlib.Omega.{arith}
use lib.Dec.{leb, ltb}
use lib.ListN.{length}
use Rattle.base.specs.declared.Refusal.{Refusal}
use Rattle.base.specs.declared.Refusal.TheVariants.{Unexpected, JumpAtBound, TooManyTokens}
use Rattle.def_meaning.specs.Limits.{text_limit, token_limit, level_limit}
use Rattle.def_meaning.specs.Entries.{token_count}
use Rattle.def_meaning.specs.Tokens.{Token, Tokens, Byte, nothing, ◌then◌, total_in}
use Rattle.def_reading.specs.Blanks.{here, skip}
use Rattle.def_reading.specs.Given as goal
use Rattle.def_reading.specs.Given.{Given}
use Rattle.def_reading.specs.Pieces.{found, leaf_at}
use Rattle.def_reading.specs.Lists.{read, missing, before, is_jump, jump_first, jump_last_in, jump_last, at_bound, token, more, list, rejected, reading}
use Rattle.def_reading.proofs.PieceLaws.{never}
use Rattle.def_reading.proofs.GivenLaws.{given_exactly, given_one}
use Rattle.def_reading.proofs.ListSteps.{token_gone, list_gone, more_read, more_none}
use Rattle.def_grammar.specs.Grammar as rule
use Rattle.def_grammar.specs.Grammar.{Gap}
use Rattle.def_grammar.specs.Faults as fault
use Rattle.def_grammar.specs.Faults.{Stands, Spells, Missing, Fault}
use Rattle.def_grammar.proofs.Spelling.{NoJump, EndsWell, Bounded}
use Rattle.def_grammar.proofs.BoundLaws.{is_no_jump, bounded}
use Rattle.def_grammar.proofs.RulesSpell.{solid_spells}
use Rattle.def_grammar.proofs.FaultPieces.{mark_there, mark_here}
use Rattle.def_grammar.proofs.FaultTokens.{Level, seen, token_stands, token_there, token_here, leaf_there, in_token_there, in_token_here, missing_there, missing_here}
use Rattle.def_grammar.proofs.FaultLists.{Chain, chain, list_there, list_here, list_missing}

-- a jump is a gap, and no other token is
gap_of : {t : List ℕ} {level at e : ℕ} {tok : Token} → Level level → Stands t (Spells level tok) at e → is_jump tok ≡ true → Stands t (Gap level tok) at e
gap_of {tok = tok} l (fault.stands h (inl p) c) j = let n = is_no_jump tok (solid_spells l.0 l.1 p).1 in never (cc)
gap_of l (fault.stands h (inr p) c) j = fault.stands h p c

of_gap : {t : List ℕ} {level at e : ℕ} {tok : Token} → Stands t (Gap level tok) at e → Stands t (Spells level tok) at e × (NoJump tok → ⊥) × (total_in tok ≡ 1)
unfolding NoJump total_in
of_gap (fault.stands h (rule.bounded p q r) c) = (fault.stands h (inr (rule.bounded p q r)) c, (λ z. z), refl)
of_gap (fault.stands h (rule.unbounded p q) c) = (fault.stands h (inr (rule.unbounded p q)) c, (λ z. z), refl)

-- a jump at a list's bounds is its first token or its last one
at_bound_lem : (tok : Token) (ts : Tokens) → at_bound (tok then ts) ≡ true → (is_jump tok ≡ true) ⊎ (jump_last_in tok ts ≡ true)
unfolding at_bound jump_first jump_last
at_bound_lem tok ts h = go (is_jump tok) (leb 2 (token_count (tok then ts))) (jump_last_in tok ts) refl refl h
  where
    go : (a b c : Bool) → is_jump tok ≡ a → jump_last_in tok ts ≡ c → a || (b && c) ≡ true → (is_jump tok ≡ true) ⊎ (jump_last_in tok ts ≡ true)
    go true b c i j h = inl i
    go false true c i j h = inr (j ∙ h)
    go false false c i j h = never (cc)

-- where a list begins and where a token is looked for, from the reader's places to the grammar's
module _ {t : List ℕ} where
  begins_move : {l l' c c' at at' miss miss' : ℕ} → l ≡ l' → c ≡ c' → at ≡ at' → miss ≡ miss' → fault.Begins t l c at miss → fault.Begins t l' c' at' miss'
  begins_move {l} {l'} {c} {c'} {at} {at'} {miss} {miss'} e f g h b =
      subst₂ (λ (x y : ℕ). fault.Begins t x y at' miss') e f (subst₂ (λ (x y : ℕ). fault.Begins t l c x y) g h b)

  looked_next : {l start c at e d : ℕ} {tok : Token} → Level l → fault.Looked t l c at start → token t l c at ≡ read tok e d → fault.Looked t l d e start × (d ≤ token_limit)
  looked_next {l} {start} {c} {at} {e} {d} {tok} h k q =
      let s = token_there t l c at tok e d h q in
      (fault.next k s.0 s.1 s.2, s.2)

  mutual
    begins_there : {l c at : ℕ} → goal.Begins t l c at → (miss : ℕ) × fault.Begins t l c at miss × Level l × (c ≤ token_limit)
    begins_there (goal.outermost s o e f g) =
        (skip t 1, begins_move (sym e) (sym f) (sym g) refl (fault.outermost s (mark_there t "{" 0 o (omega arith))), (omega arith, omega arith), omega arith)
    begins_there (goal.bracketed {miss = miss} a h) = let b = brackets_there a in let k = b.1 in (miss, b.0, (omega arith, h), b.2)

    looked_there : {l c at : ℕ} → goal.Looked t l c at → (start : ℕ) × fault.Looked t l c at start × Level l × (c ≤ token_limit)
    looked_there {l} {c} {at} (goal.first b) = let x = begins_there b in (at, fault.first x.1 x.2.1, x.2, x.3)
    looked_there (goal.next k h) = let x = looked_there k in let y = looked_next x.2 x.1 h in (x.0, y.0, x.2, y.1)

    brackets_there : {l c at miss : ℕ} → goal.InBrackets t l c at miss → fault.Begins t l c at miss × (1 < l) × (c ≤ token_limit)
    brackets_there (goal.opened {at = at} k h f e g i j) =
        let x = looked_there k in
        let y = x.2.0 in
        (begins_move (omega arith) (omega arith) (sym i) (sym j) (fault.opened x.1 (mark_there t "(" at h (omega arith)) f), omega arith, omega arith)
    brackets_there {l} (goal.barred {count = c} {at = at} {e = e} {d = d} {ts = ts} a h b i) =
        let x = brackets_there a in
        let y = x.1 in
        let g = list_gone t l c at h in
        (begins_move refl refl (sym i) refl (fault.barred x.0 x.1 (list_there t l c at ts e d (omega arith) x.2 h) (mark_there t "|" e b (omega arith))), x.1, g.within)

  -- tokens that were read are looked for one after another, up to where one is missing
  along : {l start : ℕ} (ts : Tokens) (c at e d : ℕ) → Level l → fault.Looked t l c at start → more t l c at ≡ read ts e d → fault.Looked t l d e start × Missing t l e
  unfolding Chain
  along {l} {start} nothing c at e d h k q =
      let x = chain t l c at nothing e d q in
      (subst₂ (λ (a b : ℕ). fault.Looked t l a b start) (sym x.2) (sym x.1) k, subst (Missing t l) (sym x.1) (missing_there t l c at h x.0))
  along {l} {start} (tok then ts) c at e d h k q =
      let x = chain t l c at (tok then ts) e d q in
      along ts x.1 x.0 e d h (looked_next h k x.2).0 x.3

  -- the last of them is a jump
  last_there : {l start : ℕ} (tok : Token) (ts : Tokens) (c at e d : ℕ) → Level l → fault.Looked t l c at start → more t l c at ≡ read (tok then ts) e d → jump_last_in tok ts ≡ true → Fault t JumpAtBound start
  unfolding Chain jump_last_in
  last_there {l} tok nothing c at e d h k q j =
      let x = chain t l c at (tok then nothing) e d q in
      let y = chain t l x.1 x.0 nothing e d x.3 in
      let s = token_there t l c at tok x.0 x.1 h x.2 in
      let g = token_gone t l c at x.2 in
      fault.jump_is_last k (gap_of h s.0 j) (omega arith) (missing_there t l x.1 x.0 h y.0)
  last_there {l} tok (next then ts) c at e d h k q j =
      let x = chain t l c at (tok then (next then ts)) e d q in
      last_there next ts x.1 x.0 e d h (looked_next h k x.2).0 x.3 j

  -- or the first
  first_there : {l start : ℕ} (tok : Token) (ts : Tokens) (c e d : ℕ) → Level l → fault.Looked t l c start start → more t l c start ≡ read (tok then ts) e d → is_jump tok ≡ true → Fault t JumpAtBound start
  unfolding Chain
  first_there {l} {start} tok ts c e d h k q j =
      let x = chain t l c start (tok then ts) e d q in
      let a = along (tok then ts) c start e d h k q in
      fault.jump_is_first a.0 a.1 (gap_of h (token_there t l c start tok x.0 x.1 h x.2).0 j)

  bound_there : {l start : ℕ} (ts : Tokens) (c e d : ℕ) → Level l → fault.Looked t l c start start → more t l c start ≡ read ts e d → at_bound ts ≡ true → Fault t JumpAtBound start
  unfolding at_bound jump_first jump_last token_count
  bound_there nothing c e d h k q w = never (cc)
  bound_there (tok then ts) c e d h k q w = ⊎_elim (λ j. first_there tok ts c e d h k q j) (λ j. last_there tok ts c _ e d h k q j) (at_bound_lem tok ts w)

  pub given_fault : {r : Refusal} {p : ℕ} → Given t r p → Fault t r p
  given_fault (goal.too_long h) = fault.too_long h
  given_fault (goal.not_opened h k) = fault.not_opened h (λ e m. k (mark_here m).0)
  given_fault (goal.no_outer h k q) =
      let m = (list_missing t 1 0 (skip t 1) (omega arith)).0 q in
      fault.no_list (fault.outermost h (mark_there t "{" 0 k (omega arith))) m.0 m.1
  given_fault (goal.no_list {level = l} {count = c} {at = at} a q) =
      let b = brackets_there a in
      let k = b.1 in
      let m = (list_missing t l c at (omega arith)).0 q in
      fault.no_list b.0 m.0 m.1
  given_fault (goal.not_closed {e = e} {d = d} {ts = ts} h k q n) =
      fault.not_closed (fault.outermost h (mark_there t "{" 0 k (omega arith))) (list_there t 1 0 (skip t 1) ts e d (omega arith) (omega arith) q) (λ x m. n (mark_here m).0)
  given_fault (goal.not_bracketed {level = l} {count = c} {at = at} {e = e} {d = d} {ts = ts} a q n o) =
      let b = brackets_there a in
      let k = b.1 in
      fault.not_bracketed b.0 b.1 (list_there t l c at ts e d (omega arith) b.2 q) (λ x m. n (mark_here m).0) (λ x m. o (mark_here m).0)
  given_fault (goal.in_token k q) = let x = looked_there k in fault.in_token x.1 (in_token_there x.2 q)
  given_fault (goal.jump_at_bound {count = c} {e = e} {d = d} {ts = ts} b q w) = let x = begins_there b in bound_there ts c e d x.2 (fault.first x.1 x.2.1) q w
  given_fault (goal.too_deep a h) = fault.too_deep (brackets_there a).0 h
  given_fault (goal.too_many {level = l} {count = c} {at = at} {s = s} {e = e} {tok = tok} k h q) =
      let x = looked_there k in
      let y = x.3 in
      let z : c ≡ token_limit = omega arith in
      fault.too_many (subst (λ (n : ℕ). fault.Looked t l n at x.0) z x.1) (leaf_there t l at tok s e x.2 q)
  given_fault (goal.too_many_brackets {level = l} {count = c} {at = at} k h q) =
      let x = looked_there k in
      let y = x.3 in
      let z : c ≡ token_limit = omega arith in
      fault.too_many_brackets (subst (λ (n : ℕ). fault.Looked t l n at x.0) z x.1) (mark_there t "(" at q (omega arith))

-- and back: from the grammar's places to the reader's; the outer list, and one in brackets
abbrev Outer : List ℕ → ℕ → ℕ → ℕ → ℕ → Type 0
Outer t l c at miss = (length t ≤ text_limit) × (here t 0 ≡ code "{") × (l ≡ 1) × (c ≡ 0) × (at ≡ skip t 1) × (miss ≡ skip t 1)

abbrev Inner : List ℕ → ℕ → ℕ → ℕ → ℕ → Type 0
Inner t l c at miss = goal.InBrackets t l c at miss × (1 < l) × (c ≤ token_limit)

-- tokens that were looked for one after another were read so
abbrev Started : List ℕ → ℕ → ℕ → ℕ → ℕ → Tokens → Type 0
Started t l start e d us =
    (c : ℕ) × (ts : Tokens) × goal.Begins t l c start × (more t l c start ≡ read ts e d) × (((x : Token) → EndsWell x us → ⊥) → (x : Token) → EndsWell x ts → ⊥)

bound_by : (b : Bool) → (b ≡ false → ⊥) → b ≡ true
bound_by true h = refl
bound_by false h = absurd (h refl)

last_bound : (ts : Tokens) → ((x : Token) → EndsWell x ts → ⊥) → at_bound ts ≡ false → ⊥
unfolding EndsWell NoJump Bounded
last_bound nothing n w = n (Byte 0) tt
last_bound (tok then ts) n w = n tok (bounded tok ts w).1

module _ {t : List ℕ} where
  starts : {l c at miss : ℕ} → Outer t l c at miss ⊎ Inner t l c at miss → l ≤ level_limit → goal.Begins t l c at × Level l × (c ≤ token_limit)
  starts (inl o) h = let e = o.2 in let f = o.3 in (goal.outermost o.0 o.1 o.2 o.3 o.4, (omega arith, h), omega arith)
  starts (inr b) h = let k = b.1 in (goal.bracketed b.0 h, (omega arith, h), b.2)

  inner : {l c at miss : ℕ} → 1 < l → Outer t l c at miss ⊎ Inner t l c at miss → Inner t l c at miss
  inner h (inl o) = let e = o.2 in absurd (omega arith)
  inner h (inr b) = b

  mutual
    begins_here : {l c at miss : ℕ} → fault.Begins t l c at miss → Outer t l c at miss ⊎ Inner t l c at miss
    begins_here (fault.outermost h m) = let x = mark_here m in inl (h, x.0, refl, refl, x.1, x.1)
    begins_here (fault.opened {level = l} {count = c} k m f) =
        let x = looked_here k in
        let y = mark_here m in
        let h = x.1.0 in
        let e : suc l ≡ l + 1 = omega arith in
        let g : suc c ≡ c + 1 = omega arith in
        inr (goal.opened x.0 y.0 f e g y.1 y.1, omega arith, omega arith)
    begins_here (fault.barred {level = l} {count = c} {at = at} b h s m) =
        let x = inner h (begins_here b) in
        let z = list_here (omega arith) s in
        let y = mark_here m in
        let g = list_gone t l c at z.1 in
        inr (goal.barred x.0 z.1 y.0 y.1, h, g.within)

    looked_here : {l start c at : ℕ} → fault.Looked t l c at start → goal.Looked t l c at × Level l × (c ≤ token_limit)
    looked_here (fault.first b h) = let x = starts (begins_here b) h in (goal.first x.0, x.1, x.2)
    looked_here {l} (fault.next {count = c} {at = at} {d = d} {e = e} {tok = tok} k s i n) =
        let x = looked_here k in
        (goal.next x.0 ((token_stands t l c at tok e d x.1).1 (s, i, n)), x.1, n)

  started : {l start c at : ℕ} → fault.Looked t l c at start → (us : Tokens) (e d : ℕ) → more t l c at ≡ read us e d → Started t l start e d us
  unfolding before EndsWell
  started {l} {start} {c} (fault.first b h) us e d q = (c, us, (starts (begins_here b) h).0, q, λ n. n)
  started {l} (fault.next {count = c} {at = at} {d = b} {e = x} {tok = tok} k s j n) us e d q =
      let i = (token_stands t l c at tok x b (looked_here k).1).1 (s, j, n) in
      let y = started k (tok then us) e d (more_read t l c at i ∙ ap (before tok) q) in
      (y.0, y.1, y.2, y.3, λ m. y.4 (λ z. m tok))

  -- a list in which a gap stands first, or last, is at bound
  first_bound : (l c start : ℕ) (ts : Tokens) (e d x : ℕ) (tok : Token) → Level l → more t l c start ≡ read ts e d → Stands t (Gap l tok) start x → at_bound ts ≡ false → ⊥
  unfolding Chain Bounded
  first_bound l c start nothing e d x tok h q s w = (missing_there t l c start h (chain t l c start nothing e d q).0).0 tok x (of_gap s).0
  first_bound l c start (tok' then ts) e d x tok h q s w =
      let y = chain t l c start (tok' then ts) e d q in
      let i = y.2 in
      let g = token_gone t l c start i in
      let z = of_gap s in
      let o = z.2 in
      let j : token t l c start ≡ read tok x (c + total_in tok) = token_here t l c start tok x h z.0 (omega arith) in
      let k : tok' ≡ tok = cc in
      z.1 (subst NoJump k (bounded tok' ts w).0)

  pub fault_given : {r : Refusal} {p : ℕ} → Fault t r p → Given t r p
  unfolding EndsWell before
  fault_given (fault.too_long h) = goal.too_long h
  fault_given (fault.not_opened h k) = goal.not_opened h (λ o. k (skip t 1) (mark_there t "{" 0 o (omega arith)))
  fault_given (fault.no_list {level = l} {count = c} {at = at} {miss = miss} b h m) = go (begins_here b)
    where
      gone : 1 ≤ l → list t l c at ≡ missing
      gone k = (list_missing t l c at k).1 (h, m)

      go : Outer t l c at miss ⊎ Inner t l c at miss → Given t Unexpected miss
      go (inl o) =
          let e = o.2 in
          let q = ap₂ (λ (x y : ℕ). list t x y (skip t 1)) (sym o.2) (sym o.3) ∙ ap (λ (x : ℕ). list t l c x) (sym o.4) ∙ gone (omega arith) in
          subst (λ (x : ℕ). Given t Unexpected x) (sym o.5) (goal.no_outer o.0 o.1 q)
      go (inr a) = let k = a.1 in goal.no_list a.0 (gone (omega arith))
  fault_given (fault.not_closed {at = at} {miss = miss} {d = d} {e = e} b s n) = go (begins_here b) (list_here (omega arith) s)
    where
      go : Outer t 1 0 at miss ⊎ Inner t 1 0 at miss → ((ts : Tokens) × (list t 1 0 at ≡ read ts e d)) → Given t Unexpected e
      go (inl o) z = goal.not_closed o.0 o.1 (ap (λ (x : ℕ). list t 1 0 x) (sym o.4) ∙ z.1) (λ h. n (skip t (e + 1)) (mark_there t "}" e h (omega arith)))
      go (inr a) z = let k = a.1 in absurd (omega arith)
  fault_given (fault.not_bracketed {e = e} b h s n m) =
      let a = inner h (begins_here b) in
      goal.not_bracketed a.0 (list_here (omega arith) s).1 (λ o. n (skip t (e + 1)) (mark_there t ")" e o (omega arith))) (λ o. m (skip t (e + 1)) (mark_there t "|" e o (omega arith)))
  fault_given (fault.in_token k i) = let x = looked_here k in goal.in_token x.0 (in_token_here x.1 i)
  fault_given (fault.jump_is_first {level = l} {count = c} {at = at} {start = start} {e = e} {tok = tok} k m s) =
      let h = (looked_here k).1 in
      let x = started k nothing at c (more_none t l c at (missing_here t l c at h m)) in
      goal.jump_at_bound x.2 x.3 (bound_by (at_bound x.1) (λ w. first_bound l x.0 start x.1 at c e tok h x.3 s w))
  fault_given (fault.jump_is_last {level = l} {count = c} {at = at} {e = e} {tok = tok} k s n m) =
      let h = (looked_here k).1 in
      let g = of_gap s in
      let o = g.2 in
      let d = c + total_in tok in
      let i = more_read t l c at (token_here t l c at tok e h g.0 (omega arith)) ∙ ap (before tok) (more_none t l d e (missing_here t l d e h m)) in
      let x = started k (tok then nothing) e d i in
      goal.jump_at_bound x.2 x.3 (bound_by (at_bound x.1) (λ w. last_bound x.1 (x.4 (λ z. g.1)) w))
  fault_given (fault.too_deep b h) = goal.too_deep (inner (omega arith) (begins_here b)).0 h
  fault_given (fault.too_many {level = l} {at = at} {e = e} {tok = tok} k s) = let x = looked_here k in go x.0 (seen x.1 s)
    where
      go : goal.Looked t l token_limit at → ((y : ℕ) × (leaf_at t (ltb 1 l) at ≡ found tok y e)) ⊎ (here t at ≡ code "(") → Given t TooManyTokens at
      go k (inl y) = goal.too_many k (omega arith) y.1
      go k (inr o) = goal.too_many_brackets k (omega arith) o
  fault_given (fault.too_many_brackets k m) = goal.too_many_brackets (looked_here k).0 (omega arith) (mark_here m).0

-- a refusal is given exactly where the grammar has its fault, and a text has one fault at most
pub fault_exactly : (t : List ℕ) (r : Refusal) (p : ℕ) → (reading t ≡ rejected r p) ↔ Fault t r p
fault_exactly t r p = ((λ h. given_fault ((given_exactly t r p).0 h)), λ f. (given_exactly t r p).1 (fault_given f))

pub fault_one : (t : List ℕ) (r s : Refusal) (p q : ℕ) → Fault t r p → Fault t s q → (r ≡ s) × (p ≡ q)
fault_one t r s p q f g = given_one t r s p q (fault_given f) (fault_given g)
