-- A refusal is given exactly in its case. Assumes nothing.
use mathlib.Core.Path.{◌≡◌, refl, sym, ap, ap₂, ◌∙◌, subst}
use mathlib.Core.Bool.{Bool, true, false, cond}
use mathlib.Core.List.{List}
use Prim.Native.Char.{code}
use Prim.Native.Nat.{ℕ, zero, suc, ◌+◌, ◌-◌, ◌*◌, ◌≤◌, ◌<◌}
use native.Mathlib.Omega.{arith}
use borrow.Author.Tests.{eqb-true, eqb-false, ltb-true, ltb-false, leb-true, leb-false, le-ltb, lt-ltb}
use lib.Dec.{eqb, ltb, leb}
use lib.ListN.{length, get_or}
use Rattle.base.specs.declared.Refusal.{Refusal}
use Rattle.base.specs.declared.Refusal.TheVariants.{TextTooLong, Unexpected, JumpAtBound, HexStringTooDeep, TooManyTokens}
use Rattle.def_meaning.specs.Limits.{text_limit, token_limit, level_limit}
use Rattle.def_meaning.specs.Tokens.{Token, Tokens, Lists, nothing, ◌then◌}
use Rattle.def_meaning.specs.Entries.{token_count}
use Rattle.def_reading.specs.Blanks.{skip}
use Rattle.def_reading.specs.Pieces.{Seen, found, absent, refused, digit, within, jumped, leaf_at}
use Rattle.def_reading.specs.Lists.{Parsed, read, missing, stopped, token_or, as_token, bracketed, before, list_of, beside, at_bound, jump_first, jump_last, token, more, list, lists, Verdict, accepted, rejected, closing, reading}
use Rattle.def_reading.specs.Given as goal
use Rattle.def_reading.proofs.PieceLaws.{never, here_at, skip_from}
use Rattle.def_reading.proofs.PieceSteps.{range_else}
use Rattle.def_reading.proofs.InToken.{leaf_other, in_token_refuses, refused_in_token}
use Rattle.def_reading.proofs.ListSteps.{token_gone, list_gone, token_step, more_read, more_none, more_stopped, list_deep, list_of_lem, lists_closed, lists_barred, lists_else, lists_missing, lists_stopped}
use Rattle.def_reading.proofs.TextLaws.{text_long, text_unopened, text_opened, text_unclosed}

-- no other token begins with `(`
bracket_alone : (t : List ℕ) (inside : Bool) (at : ℕ) → get_or t at 0 ≡ code "(" → leaf_at t inside at ≡ absent
unfolding jumped digit within
bracket_alone t inside at h = leaf_other t inside at (code "(") h (λ z. omega arith) (λ z. omega arith) refl ∙ ap (jumped inside at) (range_else t at (λ z. let w : code "(" ≡ code "[" = sym h ∙ z in omega arith))

module _ (t : List ℕ) (l c at : ℕ) where
  token_by : {x : Seen Token} → leaf_at t (ltb 1 l) at ≡ x → token t l c at ≡ token_or at c x (bracketed t at c (lists t (l + 1) (c + 1) (skip t (at + 1)) (skip t (at + 1))))
  token_by e = token_step t l c at ∙ ap (λ (y : Seen Token). token_or at c y (bracketed t at c (lists t (l + 1) (c + 1) (skip t (at + 1)) (skip t (at + 1))))) e

  bracket_by : get_or t at 0 ≡ code "(" → token t l c at ≡ cond (ltb c token_limit) (as_token (lists t (l + 1) (c + 1) (skip t (at + 1)) (skip t (at + 1)))) (stopped TooManyTokens at)
  unfolding token_or bracketed
  bracket_by h = token_by (bracket_alone t (ltb 1 l) at h) ∙ rw h

  bracket_open : get_or t at 0 ≡ code "(" → c < token_limit → {y : Parsed Lists} → lists t (l + 1) (c + 1) (skip t (at + 1)) (skip t (at + 1)) ≡ y → token t l c at ≡ as_token y
  bracket_open h f q = bracket_by h ∙ ap (λ (b : Bool). cond b (as_token (lists t (l + 1) (c + 1) (skip t (at + 1)) (skip t (at + 1)))) (stopped TooManyTokens at)) (lt-ltb c token_limit f) ∙ ap as_token q

-- the outer list and the first one in brackets, by where they begin
outer_list : (t : List ℕ) (l c at : ℕ) (x : Parsed Tokens) → l ≡ 1 → c ≡ 0 → at ≡ skip t 1 → list t l c at ≡ x → list t 1 0 (skip t 1) ≡ x
outer_list t l c at x e f g q = ap₂ (λ (a b : ℕ). list t a b (skip t 1)) (sym e) (sym f) ∙ ap (λ (a : ℕ). list t l c a) (sym g) ∙ q

inner_lists : (t : List ℕ) (l c at l' c' x miss : ℕ) (y : Parsed Lists) → l' ≡ l + 1 → c' ≡ c + 1 → x ≡ skip t (at + 1) → miss ≡ skip t (at + 1) → lists t l' c' x miss ≡ y → lists t (l + 1) (c + 1) (skip t (at + 1)) (skip t (at + 1)) ≡ y
inner_lists t l c at l' c' x miss y e f g h q =
    ap₂ (λ (a b : ℕ). lists t a b (skip t (at + 1)) (skip t (at + 1))) (sym e) (sym f) ∙ ap₂ (λ (a b : ℕ). lists t l' c' a b) (sym g) (sym h) ∙ q

shallow : {t : List ℕ} {l c at : ℕ} → goal.Begins t l c at → l ≤ level_limit
shallow (goal.outermost s o l c a) = omega arith
shallow (goal.bracketed a h) = h

-- what is refused anywhere on the way refuses the text at once
mutual
  unfolding list_of before beside closing as_token

  stop_list : {t : List ℕ} {l c at : ℕ} → goal.Begins t l c at → (r : Refusal) (p : ℕ) → list t l c at ≡ stopped r p → reading t ≡ rejected r p
  stop_list {t} {l} {c} {at} (goal.outermost s o e f g) r p q = text_opened t s o (skip t 1) refl (outer_list t l c at (stopped r p) e f g q)
  stop_list {t} {l} {c} {at} (goal.bracketed {miss = miss} a h) r p q = stop_lists a r p (lists_stopped t l c at miss q)

  stop_more : {t : List ℕ} {l c at : ℕ} → goal.Looked t l c at → (r : Refusal) (p : ℕ) → more t l c at ≡ stopped r p → reading t ≡ rejected r p
  stop_more {t} {l} {c} {at} (goal.first b) r p q = stop_list b r p (list_of_lem t l c at (shallow b) ∙ ap (list_of at) q)
  stop_more {t} {l} (goal.next {count = c} {at = at} {tok = tok} k h) r p q = stop_more k r p (more_read t l c at h ∙ ap (before tok) q)

  stop_lists : {t : List ℕ} {l c at miss : ℕ} → goal.InBrackets t l c at miss → (r : Refusal) (p : ℕ) → lists t l c at miss ≡ stopped r p → reading t ≡ rejected r p
  stop_lists {t} {l = l'} {c = c'} {at = x} {miss} (goal.opened {level = l} {count = c} {at = at} k h f e g i j) r p q =
      stop_more k r p (more_stopped t l c at (bracket_open t l c at h f (inner_lists t l c at l' c' x miss (stopped r p) e g i j q)))
  stop_lists {t} {l} {c = d} {at = x} {miss = e} (goal.barred {count = c} {at = at} {miss = miss} {ts = ts} a h b i) r p q =
      stop_lists a r p (lists_barred t l c at miss h b ∙ ap (λ (y : ℕ). beside ts (lists t l d y e)) (sym i) ∙ ap (beside ts) q)

bounded : (at e d : ℕ) (ts : Tokens) → at_bound ts ≡ true → list_of at (read ts e d) ≡ stopped JumpAtBound at
unfolding list_of at_bound jump_first jump_last token_count
bounded at e d nothing w = never (cc)
bounded at e d (tok then ts) w = rw w

-- each case is refused so
pub given_rejects : {t : List ℕ} {r : Refusal} {p : ℕ} → goal.Given t r p → reading t ≡ rejected r p
unfolding closing list_of token_or
given_rejects {t} (goal.too_long h) = text_long t h
given_rejects {t} (goal.not_opened h k) = text_unopened t h k
given_rejects {t} (goal.no_outer h k q) = text_opened t h k (skip t 1) refl q
given_rejects {t} (goal.no_list {level = l} {count = c} {at = at} {miss = miss} a q) = stop_lists a Unexpected miss (lists_missing t l c at miss q)
given_rejects {t} (goal.not_closed {e = e} {d = d} {ts = ts} h k q n) = text_opened t h k (skip t 1) refl q ∙ text_unclosed t (skip t 1) ts e d n
given_rejects {t} (goal.not_bracketed {level = l} {count = c} {at = at} {miss = miss} {e = e} a q n m) = stop_lists a Unexpected e (lists_else t l c at miss q n m)
given_rejects {t} (goal.in_token {level = l} {count = c} {at = at} {p = p} {r = r} k q) = stop_more k r p (more_stopped t l c at (token_by t l c at (in_token_refuses q)))
given_rejects {t} (goal.jump_at_bound {level = l} {count = c} {at = at} {e = e} {d = d} {ts = ts} b q h) = stop_list b JumpAtBound at (list_of_lem t l c at (shallow b) ∙ ap (list_of at) q ∙ bounded at e d ts h)
given_rejects {t} (goal.too_deep {level = l} {count = c} {at = at} {miss = miss} a h) = stop_lists a HexStringTooDeep at (lists_stopped t l c at miss (list_deep t l c at h))
given_rejects {t} (goal.too_many {level = l} {count = c} {at = at} {e = e} {tok = tok} k h q) = stop_more k TooManyTokens at (more_stopped t l c at (token_by t l c at q ∙ ap (λ (b : Bool). cond b (read tok e (c + 1)) (stopped TooManyTokens at)) (le-ltb c token_limit h)))
given_rejects {t} (goal.too_many_brackets {level = l} {count = c} {at = at} k h q) =
    stop_more k TooManyTokens at (more_stopped t l c at (bracket_by t l c at q ∙ ap (λ (b : Bool). cond b (as_token (lists t (l + 1) (c + 1) (skip t (at + 1)) (skip t (at + 1)))) (stopped TooManyTokens at)) (le-ltb c token_limit h)))

-- what a step leaves out is refused no more
before_stopped : (tok : Token) (x : Parsed Tokens) (r : Refusal) (p : ℕ) → before tok x ≡ stopped r p → x ≡ stopped r p
unfolding before
before_stopped tok (read ts e d) r p h = never (cc)
before_stopped tok missing r p h = never (cc)
before_stopped tok (stopped s q) r p h = h

beside_stopped : (ts : Tokens) (x : Parsed Lists) (r : Refusal) (p : ℕ) → beside ts x ≡ stopped r p → x ≡ stopped r p
unfolding beside
beside_stopped ts (read ls e d) r p h = never (cc)
beside_stopped ts missing r p h = never (cc)
beside_stopped ts (stopped s q) r p h = h

as_stopped : (x : Parsed Lists) (r : Refusal) (p : ℕ) → as_token x ≡ stopped r p → x ≡ stopped r p
unfolding as_token
as_stopped (read ls e d) r p h = never (cc)
as_stopped missing r p h = never (cc)
as_stopped (stopped s q) r p h = cc

move : {t : List ℕ} {r s : Refusal} {p q : ℕ} → s ≡ r → q ≡ p → goal.Given t s q → goal.Given t r p
move {t} {r} {s} {p} {q} a b g = subst (λ (x : Refusal). goal.Given t x p) a (subst (λ (x : ℕ). goal.Given t s x) b g)

-- a refusal has its case, where what is refused further on has
module _ (t : List ℕ) (r : Refusal) (p : ℕ) where
  token_case : (l c at : ℕ) → goal.Looked t l c at → (get_or t at 0 ≡ code "(" → c < token_limit → lists t (l + 1) (c + 1) (skip t (at + 1)) (skip t (at + 1)) ≡ stopped r p → goal.Given t r p) → token t l c at ≡ stopped r p → goal.Given t r p
  unfolding token_or bracketed
  token_case l c at k inner q = go (leaf_at t (ltb 1 l) at) refl (ltb c token_limit) refl (eqb (get_or t at 0) (code "(")) refl
    where
      go : (x : Seen Token) → leaf_at t (ltb 1 l) at ≡ x → (b : Bool) → ltb c token_limit ≡ b → (o : Bool) → eqb (get_or t at 0) (code "(") ≡ o → goal.Given t r p
      go (found tok s e) i true j o w =
          let z : token t l c at ≡ read tok e (c + 1) = token_by t l c at i ∙ ap (λ (b : Bool). cond b (read tok e (c + 1)) (stopped TooManyTokens at)) j in
          never (cc)
      go (found tok s e) i false j o w =
          let z : token t l c at ≡ stopped TooManyTokens at = token_by t l c at i ∙ ap (λ (b : Bool). cond b (read tok e (c + 1)) (stopped TooManyTokens at)) j in
          move (cc) (cc) (goal.too_many k (ltb-false c token_limit j) i)
      go absent i true j true w =
          let o : get_or t at 0 ≡ code "(" = eqb-true (get_or t at 0) (code "(") w in
          let f : c < token_limit = ltb-true c token_limit j in
          inner o f (as_stopped _ r p (sym (bracket_open t l c at o f refl) ∙ q))
      go absent i false j true w =
          let o : get_or t at 0 ≡ code "(" = eqb-true (get_or t at 0) (code "(") w in
          let z : token t l c at ≡ stopped TooManyTokens at = bracket_by t l c at o ∙ ap (λ (b : Bool). cond b (as_token (lists t (l + 1) (c + 1) (skip t (at + 1)) (skip t (at + 1)))) (stopped TooManyTokens at)) j in
          move (cc) (cc) (goal.too_many_brackets k (ltb-false c token_limit j) o)
      go absent i b j false w =
          let z : token t l c at ≡ missing = token_by t l c at i ∙ rw w in
          never (cc)
      go (refused s y) i b j o w =
          let z : token t l c at ≡ stopped s y = token_by t l c at i in
          move (cc) (cc) (goal.in_token k (refused_in_token t at (ltb 1 l) s y i))

  more_case : (l c at : ℕ) → goal.Looked t l c at → ((tok : Token) (e d : ℕ) → token t l c at ≡ read tok e d → more t l d e ≡ stopped r p → goal.Given t r p)
      → (get_or t at 0 ≡ code "(" → c < token_limit → lists t (l + 1) (c + 1) (skip t (at + 1)) (skip t (at + 1)) ≡ stopped r p → goal.Given t r p) → more t l c at ≡ stopped r p → goal.Given t r p
  more_case l c at k later inner q = go (token t l c at) refl
    where
      go : (x : Parsed Token) → token t l c at ≡ x → goal.Given t r p
      go (read tok e d) i = later tok e d i (before_stopped tok (more t l d e) r p (sym (more_read t l c at i) ∙ q))
      go missing i = let z = more_none t l c at i in never (cc)
      go (stopped s y) i =
          let z = more_stopped t l c at i in
          let a : s ≡ r = cc in
          let b : y ≡ p = cc in
          token_case l c at k inner (i ∙ ap₂ stopped a b)

  list_case : (l c at : ℕ) → goal.Begins t l c at → (more t l c at ≡ stopped r p → goal.Given t r p) → list t l c at ≡ stopped r p → goal.Given t r p
  unfolding list_of
  list_case l c at b within q = go (more t l c at) refl
    where
      of : {x : Parsed Tokens} → more t l c at ≡ x → list_of at x ≡ stopped r p
      of i = sym (list_of_lem t l c at (shallow b) ∙ ap (list_of at) i) ∙ q

      jump_last : (tok : Token) (ts : Tokens) (e d : ℕ) → more t l c at ≡ read (tok then ts) e d → (w : Bool) → at_bound (tok then ts) ≡ w → goal.Given t r p
      jump_last tok ts e d i true w =
          let z : stopped JumpAtBound at ≡ stopped r p = sym (bounded at e d (tok then ts) w) ∙ of i in
          move (cc) (cc) (goal.jump_at_bound b i w)
      jump_last tok ts e d i false w =
          let z : ◌≡◌ {A = Parsed Tokens} (read (tok then ts) e d) (stopped r p) = sym (ap (λ (v : Bool). cond v (stopped JumpAtBound at) (read (tok then ts) e d)) w) ∙ of i in
          never (cc)

      go : (x : Parsed Tokens) → more t l c at ≡ x → goal.Given t r p
      go (read nothing e d) i = let z = of i in never (cc)
      go (read (tok then ts) e d) i = jump_last tok ts e d i (at_bound (tok then ts)) refl
      go missing i = let z = of i in never (cc)
      go (stopped s y) i = within (i ∙ of i)

  lists_case : (l c at miss : ℕ) → goal.InBrackets t l c at miss → (l ≤ level_limit → list t l c at ≡ stopped r p → goal.Given t r p)
      → ((ts : Tokens) (e d : ℕ) → list t l c at ≡ read ts e d → get_or t e 0 ≡ code "|" → lists t l d (skip t (e + 1)) e ≡ stopped r p → goal.Given t r p) → lists t l c at miss ≡ stopped r p → goal.Given t r p
  lists_case l c at miss a within later q = deep (ltb level_limit l) refl
    where
      after : (ts : Tokens) (e d : ℕ) → list t l c at ≡ read ts e d → (x y : Bool) → eqb (get_or t e 0) (code ")") ≡ x → eqb (get_or t e 0) (code "|") ≡ y → goal.Given t r p
      after ts e d i true y v w = let z = lists_closed t l c at miss i (eqb-true (get_or t e 0) (code ")") v) in never (cc)
      after ts e d i false true v w =
          let o : get_or t e 0 ≡ code "|" = eqb-true (get_or t e 0) (code "|") w in
          later ts e d i o (beside_stopped ts _ r p (sym (lists_barred t l c at miss i o) ∙ q))
      after ts e d i false false v w =
          let z = lists_else t l c at miss i (eqb-false (get_or t e 0) (code ")") v) (eqb-false (get_or t e 0) (code "|") w) in
          move (cc) (cc) (goal.not_bracketed a i (eqb-false (get_or t e 0) (code ")") v) (eqb-false (get_or t e 0) (code "|") w))

      go : l ≤ level_limit → (x : Parsed Tokens) → list t l c at ≡ x → goal.Given t r p
      go h (read ts e d) i = after ts e d i (eqb (get_or t e 0) (code ")")) (eqb (get_or t e 0) (code "|")) refl refl
      go h missing i = let z = lists_missing t l c at miss i in move (cc) (cc) (goal.no_list a i)
      go h (stopped s y) i =
          let z = lists_stopped t l c at miss i in
          let u : s ≡ r = cc in
          let v : y ≡ p = cc in
          within h (i ∙ ap₂ stopped u v)

      deep : (b : Bool) → ltb level_limit l ≡ b → goal.Given t r p
      deep true j =
          let z = lists_stopped t l c at miss (list_deep t l c at (ltb-true level_limit l j)) in
          move (cc) (cc) (goal.too_deep a (ltb-true level_limit l j))
      deep false j = go (ltb-false level_limit l j) (list t l c at) refl

  mutual
    why_more : (n l c at : ℕ) → 4 * (length t - at) + 1 < n → goal.Looked t l c at → more t l c at ≡ stopped r p → goal.Given t r p
    why_more zero l c at h k q = absurd (omega arith)
    why_more (suc n) l c at h k q =
        more_case l c at k (λ tok e d i w. let g = token_gone t l c at i in why_more n l d e (omega arith) (goal.next k i) w)
        (λ o f w. let u = here_at t at (code "(") o (omega arith) in let v = skip_from t (at + 1) in why_lists n (l + 1) (c + 1) (skip t (at + 1)) (skip t (at + 1)) (omega arith) (goal.opened k o f refl refl refl refl) w) q

    why_list : (n l c at : ℕ) → 4 * (length t - at) + 2 < n → goal.Begins t l c at → list t l c at ≡ stopped r p → goal.Given t r p
    why_list zero l c at h b q = absurd (omega arith)
    why_list (suc n) l c at h b q = list_case l c at b (λ i. why_more n l c at (omega arith) (goal.first b) i) q

    why_lists : (n l c at miss : ℕ) → 4 * (length t - at) + 3 < n → goal.InBrackets t l c at miss → lists t l c at miss ≡ stopped r p → goal.Given t r p
    why_lists zero l c at miss h a q = absurd (omega arith)
    why_lists (suc n) l c at miss h a q =
        lists_case l c at miss a (λ s i. why_list n l c at (omega arith) (goal.bracketed a s) i)
        (λ ts e d i o w. let g = list_gone t l c at i in let v = skip_from t (e + 1) in why_lists n l d (skip t (e + 1)) e (omega arith) (goal.barred a i o refl) w) q

  pub rejected_given : reading t ≡ rejected r p → goal.Given t r p
  unfolding reading closing
  rejected_given h = go (leb (length t) text_limit) (eqb (get_or t 0 0) (code "{")) (list t 1 0 (skip t 1)) refl refl refl h
    where
      closes : (us : Tokens) (s c : ℕ) → length t ≤ text_limit → get_or t 0 0 ≡ code "{" → list t 1 0 (skip t 1) ≡ read us s c → (d : Bool) → eqb (get_or t s 0) (code "}") ≡ d
          → ◌≡◌ {A = Verdict} (cond d (accepted (skip t (s + 1)) us) (rejected Unexpected s)) (rejected r p) → goal.Given t r p
      closes us s c a b i true w h = never (cc)
      closes us s c a b i false w h = move (cc) (cc) (goal.not_closed a b i (eqb-false (get_or t s 0) (code "}") w))

      go : (a b : Bool) (x : Parsed Tokens) → leb (length t) text_limit ≡ a → eqb (get_or t 0 0) (code "{") ≡ b → list t 1 0 (skip t 1) ≡ x → cond a (cond b (closing t (skip t 1) x) (rejected Unexpected 0)) (rejected TextTooLong 0) ≡ rejected r p → goal.Given t r p
      go true true (read us s c) q o i h = closes us s c (leb-true (length t) text_limit q) (eqb-true (get_or t 0 0) (code "{") o) i (eqb (get_or t s 0) (code "}")) refl h
      go true true missing q o i h = move (cc) (cc) (goal.no_outer (leb-true (length t) text_limit q) (eqb-true (get_or t 0 0) (code "{") o) i)
      go true true (stopped s y) q o i h =
          let u : s ≡ r = cc in
          let v : y ≡ p = cc in
          why_list (4 * (length t - skip t 1) + 3) 1 0 (skip t 1) (omega arith) (goal.outermost (leb-true (length t) text_limit q) (eqb-true (get_or t 0 0) (code "{") o) refl refl refl) (i ∙ ap₂ stopped u v)
      go true false x q o i h = move (cc) (cc) (goal.not_opened (leb-true (length t) text_limit q) (eqb-false (get_or t 0 0) (code "{") o))
      go false b x q o i h = move (cc) (cc) (goal.too_long (leb-false (length t) text_limit q))

-- a refusal is given exactly in its case
pub given_exactly : (t : List ℕ) (r : Refusal) (p : ℕ) → (reading t ≡ rejected r p → goal.Given t r p) × (goal.Given t r p → reading t ≡ rejected r p)
given_exactly t r p = (λ h. rejected_given t r p h, λ g. given_rejects g)

-- and in one case at most: no text is refused twice
pub given_one : (t : List ℕ) (r s : Refusal) (p q : ℕ) → goal.Given t r p → goal.Given t s q → (r ≡ s) × (p ≡ q)
given_one t r s p q g h = let a = given_rejects g in let b = given_rejects h in (cc, cc)
