-- The loop over the tokens of a list: what has been read so far, and what each turn and each way out make of it. Assumes nothing.
use Rattle.std.proofs.Common.{ℕ, suc, ◌+◌, ◌*◌, ◌≤◌, ◌<◌, ◌≡◌, refl, sym, ap, ap₂, ◌∙◌, subst, Bool, true, false, cond, ◌||◌, List, arith, length, length-append}
use lib.Dec.{eqb-suc-zero}
use Rattle.base.specs.declared.Refusal.{Refusal}
use Rattle.base.specs.declared.Refusal.TheVariants.{JumpAtBound}
use Rattle.def_meaning.specs.Limits.{token_limit, level_limit}
use Rattle.def_meaning.specs.Tokens.{Tokens, nothing, ◌then◌}
use Rattle.def_meaning.specs.Entries.{entries_of, entries, token_count}
use Rattle.def_reading.specs.Lists.{read, stopped, jump_first, jump_last, list_of, token, more, list}
use Rattle.def_reading.proofs.ListSteps.{token_gone, more_read, more_none, more_stopped, list_of_lem}
use Rattle.reader.specs.Written.{written}
use Rattle.reader.specs.Says.{TokenGot, token_to, no_token, token_refusal, list_to, list_refusal, TokenSays, ListSays, first_of, list_end}
use Rattle.reader.proofs.WrittenLaws.{written_none, written_append}
use Rattle.reader.proofs.SaysLaws.{token_read, token_absent, token_refused, list_says_refused}
use Rattle.reader.proofs.Joined.{◌and◌, befores, befores_and, befores_read, befores_stopped, entries_and, count_and, jump_first_and, jump_last_and, at_bound_lem}

-- the tokens us have been read from `at` to x; the list is these and what is read from x on
pub record Tokened (t : List ℕ) (l count at n : ℕ) (p pool : List ℕ) (x m c k : ℕ) (first last : Bool) : Type 0 where
  pub us : Tokens
  pub whole : more t l count at ≡ befores us (more t l c x)
  pub words : pool ≡ written p n (entries us)
  pub used : m ≡ n + length (entries us)
  pub own : k ≡ token_count us
  pub begun : first ≡ jump_first us
  pub ended : last ≡ jump_last us
  pub from : at ≤ x
  pub inside : x ≤ length t
  pub room : m ≤ 8 * c
  pub few : c ≤ token_limit
  pub owned : k ≤ c
  pub kept : length pool ≡ length p

-- a token that was read, in numbers
pub record Stepped (t : List ℕ) (x m c e u d : ℕ) : Type 0 where
  pub moved : x < e
  pub inside : e ≤ length t
  pub counted : c < d
  pub within : d ≤ token_limit
  pub room : u + 4 + 8 * c ≤ m + 8 * d
  pub more : m ≤ u

module _ (t : List ℕ) (l count at n : ℕ) (p : List ℕ) where
  pub tokened_start : at ≤ length t → n ≤ 8 * count → count ≤ token_limit → Tokened t l count at n p p at n count 0 false false
  unfolding befores entries token_count jump_first jump_last
  tokened_start a b c = record {
    us = nothing;
    whole = refl;
    words = written_none p n;
    used = omega arith;
    own = refl;
    begun = refl;
    ended = refl;
    from = omega arith;
    inside = a;
    room = b;
    few = c;
    owned = omega arith;
    kept = refl;
  }

  module _ (pool : List ℕ) (x m c k : ℕ) (first last : Bool) (inv : Tokened t l count at n p pool x m c k first last) (g : TokenGot) (q : List ℕ) (says : TokenSays (token t l c x) m g pool q) where
    pub stepped : (e u d : ℕ) (j : Bool) → g ≡ token_to e u d j → Stepped t x m c e u d
    stepped e u d j h =
        let z = token_read m g pool q (token t l c x) e u d j h says in
        let w = token_gone t l c x z.1 in
        let y = z.2 in
        record { moved = w.moved; inside = w.inside; counted = w.counted; within = w.within; room = omega arith; more = omega arith }

    pub tokened_next : (e u d : ℕ) (j : Bool) → n ≤ length p → length q ≡ length pool → g ≡ token_to e u d j → Tokened t l count at n p q e u d (k + 1) (first_of k first j) j
    tokened_next e u d j r lq h =
        let z = token_read m g pool q (token t l c x) e u d j h says in
        let tok = z.0 in
        let us = inv.us in
        let s = stepped e u d j h in
        let le : length (entries (us and tok)) ≡ length (entries us) + length (entries_of tok) = ap length (entries_and us tok) ∙ length-append (entries us) (entries_of tok) in
        let y = z.2 in
        let o = inv.own in
        let v = inv.used in
        let kp = inv.kept in
        let ca = count_and us tok in
        record {
          us = us and tok;
          whole = inv.whole ∙ ap (befores us) (more_read t l c x z.1) ∙ befores_and us tok (more t l d e);
          words = z.4 ∙ ap₂ (λ (a : List ℕ) (i : ℕ). written a i (entries_of tok)) inv.words inv.used ∙ written_append p n (entries us) (entries_of tok) r ∙ ap (written p n) (sym (entries_and us tok));
          used = omega arith;
          own = omega arith;
          begun = ap₂ (λ (a : ℕ) (b : Bool). first_of a b j) inv.own inv.begun ∙ ap (first_of (token_count us) (jump_first us)) z.3 ∙ jump_first_and us tok;
          ended = z.3 ∙ jump_last_and us tok;
          from = omega (arith, inv.from);
          inside = s.inside;
          room = omega (arith, inv.room);
          few = s.within;
          owned = omega (arith, inv.owned);
          kept = omega arith;
        }

    -- the list's end
    ended_list : (ts : Tokens) (e d : ℕ) → ListSays (list_of at (read ts e d)) n (list_end at e (n + length (entries ts)) d (token_count ts) (jump_first ts) (jump_last ts)) p (written p n (entries ts))
    unfolding list_of ListSays entries token_count
    ended_list nothing e d = (refl, sym (written_none p n))
    ended_list (tok then ts) e d = subst (λ (b : Bool). ListSays (cond b (stopped JumpAtBound at) (read (tok then ts) e d)) n (list_end at e (n + length (entries (tok then ts))) d (suc (token_count ts)) (jump_first (tok then ts)) (jump_last (tok then ts))) p (written p n (entries (tok then ts)))) (sym (at_bound_lem (tok then ts)))
        (rw (eqb-suc-zero (token_count ts)) (go (jump_first (tok then ts)) (jump_last (tok then ts))))
      where
        go : (a b : Bool) → ListSays (cond (a || b) (stopped JumpAtBound at) (read (tok then ts) e d)) n (cond a (list_refusal JumpAtBound at) (cond b (list_refusal JumpAtBound at) (list_to e (n + length (entries (tok then ts))) d (suc (token_count ts))))) p (written p n (entries (tok then ts)))
        go true b = refl
        go false true = refl
        go false false = (refl, refl)

    pub tokened_end : l ≤ level_limit → g ≡ no_token → ListSays (list t l count at) n (list_end at x m c k first last) p q
    tokened_end s h =
        let z = token_absent m g pool q (token t l c x) h says in
        let us = inv.us in
        let w : list t l count at ≡ list_of at (read us x c) = list_of_lem t l count at s ∙ ap (list_of at) (inv.whole ∙ ap (befores us) (more_none t l c x z.0) ∙ befores_read us x c) in
        rw (w, z.1, inv.words, inv.used, inv.own, inv.begun, inv.ended) (ended_list us x c)

    pub tokened_stop : l ≤ level_limit → (r : Refusal) (y : ℕ) → g ≡ token_refusal r y → ListSays (list t l count at) n (list_refusal r y) p q
    unfolding list_of
    tokened_stop s r y h =
        let z = token_refused m g pool q (token t l c x) r y h says in
        let us = inv.us in
        list_says_refused (list t l count at) n p q r y
        (list_of_lem t l count at s ∙ ap (list_of at) (inv.whole ∙ ap (befores us) (more_stopped t l c x z) ∙ befores_stopped us r y))
