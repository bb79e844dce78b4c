-- Any bound on the depth of calls that is large enough gives the same, so one step of reading is an equation. Assumes nothing.
use mathlib.Core.Path.{◌≡◌, refl, ap, ◌∙◌, subst}
use mathlib.Core.Bool.{Bool, true, false, cond}
use mathlib.Core.List.{List}
use Prim.Native.Char.{code}
use Prim.Native.Nat.{ℕ, zero, suc, ◌+◌, ◌-◌, ◌*◌, ◌≤◌, ◌<◌}
use native.Mathlib.Omega.{arith}
use borrow.Author.Tests.{eqb-true, ne_eqb, lt-ltb, le-ltb}
use lib.Dec.{eqb, ltb}
use lib.ListN.{length, get_or}
use Rattle.base.specs.declared.Refusal.{Refusal}
use Rattle.base.specs.declared.Refusal.TheVariants.{Unexpected, HexStringTooDeep, TooManyTokens}
use Rattle.def_meaning.specs.Limits.{token_limit, level_limit}
use Rattle.def_meaning.specs.Tokens.{Token, Tokens, Lists, nothing, neither, ◌or◌}
use Rattle.def_meaning.specs.Entries.{entries_of, entries}
use Rattle.def_reading.specs.Blanks.{skip}
use Rattle.def_reading.specs.Pieces.{leaf_at}
use Rattle.def_reading.specs.Lists.{Parsed, read, missing, stopped, token_or, as_token, bracketed, before, then_more, list_of, beside, then_lists, token_f, more_f, list_f, lists_f, token, more, list, lists, enough}
use Rattle.def_reading.proofs.PieceLaws.{here_at, skip_from}
use Rattle.def_reading.proofs.ListBounds.{Gone, TokenIn, ListIn, token_in_lem, list_in}

module _ (f : ℕ) (t : List ℕ) (l c at : ℕ) where
  gone_token : {tok : Token} {e d : ℕ} → token_f f t l c at ≡ read tok e d → Gone 4 t at c (length (entries_of tok)) e d
  unfolding TokenIn
  gone_token q = subst (λ (x : Parsed Token). TokenIn t at c x) q (token_in_lem f t l c at)

  gone_list : {ts : Tokens} {e d : ℕ} → list_f f t l c at ≡ read ts e d → Gone 4 t at c (length (entries ts)) e d
  unfolding ListIn
  gone_list q = subst (λ (x : Parsed Tokens). ListIn t at c x) q (list_in f t l c at)

bracketed_same : (t : List ℕ) (at c : ℕ) (y z : Parsed Lists) → (get_or t at 0 ≡ code "(" → y ≡ z) → bracketed t at c y ≡ bracketed t at c z
unfolding bracketed
bracketed_same t at c y z h = go (eqb (get_or t at 0) (code "(")) refl
  where
    go : (b : Bool) → eqb (get_or t at 0) (code "(") ≡ b → ◌≡◌ {A = Parsed Token} (cond b (cond (ltb c token_limit) (as_token y) (stopped TooManyTokens at)) missing) (cond b (cond (ltb c token_limit) (as_token z) (stopped TooManyTokens at)) missing)
    go true q = ap (λ (x : Parsed Lists). cond (ltb c token_limit) (as_token x) (stopped TooManyTokens at)) (h (eqb-true (get_or t at 0) (code "(") q))
    go false q = refl

then_same : (at c : ℕ) (x : Parsed Token) (m n : ℕ → ℕ → Parsed Tokens) → ((tok : Token) (e d : ℕ) → x ≡ read tok e d → m d e ≡ n d e) → then_more at c x m ≡ then_more at c x n
unfolding then_more
then_same at c (read tok e d) m n h = ap (before tok) (h tok e d refl)
then_same at c missing m n h = refl
then_same at c (stopped r p) m n h = refl

lists_same : (t : List ℕ) (miss : ℕ) (x : Parsed Tokens) (m n : ℕ → ℕ → ℕ → Parsed Lists) → ((ts : Tokens) (e d : ℕ) → x ≡ read ts e d → m d (skip t (e + 1)) e ≡ n d (skip t (e + 1)) e) → then_lists t miss x m ≡ then_lists t miss x n
unfolding then_lists
lists_same t miss (read ts e d) m n h =
    ap (λ (y : Parsed Lists). cond (eqb (get_or t e 0) (code ")")) (read (ts or neither) (skip t (e + 1)) d) (cond (eqb (get_or t e 0) (code "|")) (beside ts y) (stopped Unexpected e))) (h ts e d refl)
lists_same t miss missing m n h = refl
lists_same t miss (stopped r p) m n h = refl

mutual
  unfolding token_f more_f list_f lists_f

  same_token : (f g : ℕ) (t : List ℕ) (l c at : ℕ) → 4 * (length t - at) < f → 4 * (length t - at) < g → token_f f t l c at ≡ token_f g t l c at
  same_token zero zero t l c at h k = refl
  same_token zero (suc g) t l c at h k = absurd (omega arith)
  same_token (suc f) zero t l c at h k = absurd (omega arith)
  same_token (suc f) (suc g) t l c at h k =
      ap (token_or at c (leaf_at t (ltb 1 l) at)) (bracketed_same t at c _ _ (λ q.
      let i = here_at t at (code "(") q (omega arith) in
      let s = skip_from t (at + 1) in
      same_lists f g t (l + 1) (c + 1) (skip t (at + 1)) (skip t (at + 1)) (omega arith) (omega arith)))

  same_more : (f g : ℕ) (t : List ℕ) (l c at : ℕ) → 4 * (length t - at) + 1 < f → 4 * (length t - at) + 1 < g → more_f f t l c at ≡ more_f g t l c at
  same_more zero zero t l c at h k = refl
  same_more zero (suc g) t l c at h k = absurd (omega arith)
  same_more (suc f) zero t l c at h k = absurd (omega arith)
  same_more (suc f) (suc g) t l c at h k =
      ap (λ (x : Parsed Token). then_more at c x (λ d y. more_f f t l d y)) (same_token f g t l c at (omega arith) (omega arith))
      ∙ then_same at c (token_f g t l c at) (λ d y. more_f f t l d y) (λ d y. more_f g t l d y) (λ tok e d q.
      let w = gone_token g t l c at q in
      same_more f g t l d e (omega arith) (omega arith))

  same_list : (f g : ℕ) (t : List ℕ) (l c at : ℕ) → 4 * (length t - at) + 2 < f → 4 * (length t - at) + 2 < g → list_f f t l c at ≡ list_f g t l c at
  same_list zero zero t l c at h k = refl
  same_list zero (suc g) t l c at h k = absurd (omega arith)
  same_list (suc f) zero t l c at h k = absurd (omega arith)
  same_list (suc f) (suc g) t l c at h k = ap (λ (x : Parsed Tokens). cond (ltb level_limit l) (stopped HexStringTooDeep at) (list_of at x)) (same_more f g t l c at (omega arith) (omega arith))

  same_lists : (f g : ℕ) (t : List ℕ) (l c at miss : ℕ) → 4 * (length t - at) + 3 < f → 4 * (length t - at) + 3 < g → lists_f f t l c at miss ≡ lists_f g t l c at miss
  same_lists zero zero t l c at miss h k = refl
  same_lists zero (suc g) t l c at miss h k = absurd (omega arith)
  same_lists (suc f) zero t l c at miss h k = absurd (omega arith)
  same_lists (suc f) (suc g) t l c at miss h k =
      ap (λ (x : Parsed Tokens). then_lists t miss x (λ d y m. lists_f f t l d y m)) (same_list f g t l c at (omega arith) (omega arith))
      ∙ lists_same t miss (list_f g t l c at) (λ d y m. lists_f f t l d y m) (λ d y m. lists_f g t l d y m) (λ ts e d q.
      let w = gone_list g t l c at q in
      let s = skip_from t (e + 1) in
      same_lists f g t l d (skip t (e + 1)) e (omega arith) (omega arith))

-- what was read at an offset, counted from c on
module _ (t : List ℕ) (l c at : ℕ) where
  pub token_gone : {tok : Token} {e d : ℕ} → token t l c at ≡ read tok e d → Gone 4 t at c (length (entries_of tok)) e d
  token_gone q = gone_token (enough t at) t l c at q

  pub list_gone : {ts : Tokens} {e d : ℕ} → list t l c at ≡ read ts e d → Gone 4 t at c (length (entries ts)) e d
  list_gone q = gone_list (enough t at) t l c at q

  -- a token, by one step
  pub token_step : token t l c at ≡ token_or at c (leaf_at t (ltb 1 l) at) (bracketed t at c (lists t (l + 1) (c + 1) (skip t (at + 1)) (skip t (at + 1))))
  unfolding token_f
  token_step =
      let n : enough t at ≡ suc (4 * (length t - at) + 3) = omega arith in
      ap (λ (f : ℕ). token_f f t l c at) n
      ∙ ap (token_or at c (leaf_at t (ltb 1 l) at)) (bracketed_same t at c _ _ (λ q.
      let i = here_at t at (code "(") q (omega arith) in
      let s = skip_from t (at + 1) in
      same_lists (4 * (length t - at) + 3) (enough t (skip t (at + 1))) t (l + 1) (c + 1) (skip t (at + 1)) (skip t (at + 1)) (omega arith) (omega arith)))

  more_step : more t l c at ≡ then_more at c (token t l c at) (λ d y. more t l d y)
  unfolding more_f
  more_step =
      let n : enough t at ≡ suc (4 * (length t - at) + 3) = omega arith in
      ap (λ (f : ℕ). more_f f t l c at) n
      ∙ ap (λ (x : Parsed Token). then_more at c x (λ d y. more_f (4 * (length t - at) + 3) t l d y)) (same_token (4 * (length t - at) + 3) (enough t at) t l c at (omega arith) (omega arith))
      ∙ then_same at c (token t l c at) (λ d y. more_f (4 * (length t - at) + 3) t l d y) (λ d y. more t l d y) (λ tok e d q.
      let w = token_gone q in
      same_more (4 * (length t - at) + 3) (enough t e) t l d e (omega arith) (omega arith))

  pub more_read : {tok : Token} {e d : ℕ} → token t l c at ≡ read tok e d → more t l c at ≡ before tok (more t l d e)
  unfolding then_more
  more_read q = more_step ∙ ap (λ (x : Parsed Token). then_more at c x (λ d y. more t l d y)) q

  pub more_none : token t l c at ≡ missing → more t l c at ≡ read nothing at c
  unfolding then_more
  more_none q = more_step ∙ ap (λ (x : Parsed Token). then_more at c x (λ d y. more t l d y)) q

  pub more_stopped : {r : Refusal} {p : ℕ} → token t l c at ≡ stopped r p → more t l c at ≡ stopped r p
  unfolding then_more
  more_stopped q = more_step ∙ ap (λ (x : Parsed Token). then_more at c x (λ d y. more t l d y)) q

  list_step : list t l c at ≡ cond (ltb level_limit l) (stopped HexStringTooDeep at) (list_of at (more t l c at))
  unfolding list_f
  list_step =
      let n : enough t at ≡ suc (4 * (length t - at) + 3) = omega arith in
      ap (λ (f : ℕ). list_f f t l c at) n
      ∙ ap (λ (x : Parsed Tokens). cond (ltb level_limit l) (stopped HexStringTooDeep at) (list_of at x)) (same_more (4 * (length t - at) + 3) (enough t at) t l c at (omega arith) (omega arith))

  pub list_deep : level_limit < l → list t l c at ≡ stopped HexStringTooDeep at
  list_deep h = list_step ∙ ap (λ (b : Bool). cond b (stopped HexStringTooDeep at) (list_of at (more t l c at))) (lt-ltb level_limit l h)

  pub list_of_lem : l ≤ level_limit → list t l c at ≡ list_of at (more t l c at)
  list_of_lem h = list_step ∙ ap (λ (b : Bool). cond b (stopped HexStringTooDeep at) (list_of at (more t l c at))) (le-ltb level_limit l h)

  module _ (miss : ℕ) where
    lists_step : lists t l c at miss ≡ then_lists t miss (list t l c at) (λ d y m. lists t l d y m)
    unfolding lists_f
    lists_step =
        let n : enough t at ≡ suc (4 * (length t - at) + 3) = omega arith in
        ap (λ (f : ℕ). lists_f f t l c at miss) n
        ∙ ap (λ (x : Parsed Tokens). then_lists t miss x (λ d y m. lists_f (4 * (length t - at) + 3) t l d y m)) (same_list (4 * (length t - at) + 3) (enough t at) t l c at (omega arith) (omega arith))
        ∙ lists_same t miss (list t l c at) (λ d y m. lists_f (4 * (length t - at) + 3) t l d y m) (λ d y m. lists t l d y m) (λ ts e d q.
        let w = list_gone q in
        let s = skip_from t (e + 1) in
        same_lists (4 * (length t - at) + 3) (enough t (skip t (e + 1))) t l d (skip t (e + 1)) e (omega arith) (omega arith))

    lists_of : {x : Parsed Tokens} → list t l c at ≡ x → lists t l c at miss ≡ then_lists t miss x (λ d y m. lists t l d y m)
    lists_of q = lists_step ∙ ap (λ (x : Parsed Tokens). then_lists t miss x (λ d y m. lists t l d y m)) q

    pub lists_closed : {ts : Tokens} {e d : ℕ} → list t l c at ≡ read ts e d → get_or t e 0 ≡ code ")" → lists t l c at miss ≡ read (ts or neither) (skip t (e + 1)) d
    unfolding then_lists
    lists_closed {ts} {e} {d} q h = lists_of q ∙ rw h

    pub lists_barred : {ts : Tokens} {e d : ℕ} → list t l c at ≡ read ts e d → get_or t e 0 ≡ code "|" → lists t l c at miss ≡ beside ts (lists t l d (skip t (e + 1)) e)
    unfolding then_lists
    lists_barred {ts} {e} {d} q h = lists_of q ∙ rw h

    pub lists_else : {ts : Tokens} {e d : ℕ} → list t l c at ≡ read ts e d → (get_or t e 0 ≡ code ")" → ⊥) → (get_or t e 0 ≡ code "|" → ⊥) → lists t l c at miss ≡ stopped Unexpected e
    unfolding then_lists
    lists_else {ts} {e} {d} q h k = lists_of q ∙ simp (ne_eqb (get_or t e 0) (code ")") h, ne_eqb (get_or t e 0) (code "|") k)

    pub lists_missing : list t l c at ≡ missing → lists t l c at miss ≡ stopped Unexpected miss
    unfolding then_lists
    lists_missing q = lists_of q

    pub lists_stopped : {r : Refusal} {p : ℕ} → list t l c at ≡ stopped r p → lists t l c at miss ≡ stopped r p
    unfolding then_lists
    lists_stopped q = lists_of q
