-- The loop over the lists of alternatives: what has been read so far, and what each turn and each way out make of it. Assumes nothing.
use Prim.Native.Char.{code}
use Rattle.std.proofs.Common.{ℕ, suc, ◌+◌, ◌-◌, ◌*◌, ◌/◌, ◌≤◌, ◌<◌, ◌≡◌, refl, sym, ap, ap₂, ◌∙◌, false, List, [], ◌∷◌, ◌++◌, arith, length, get_or, length-append}
use Rattle.base.specs.declared.Refusal.{Refusal}
use Rattle.base.specs.declared.Refusal.TheVariants.{Unexpected}
use Rattle.def_meaning.specs.Limits.{token_limit, token_pool}
use Rattle.def_meaning.specs.Tokens.{Tokens, Lists, Alternatives, neither}
use Rattle.def_meaning.specs.Entries.{entry, entries_in, entries_of, entries, list_entries, token_count, list_count}
use Rattle.def_meaning.proofs.TokenLaws.{count_few}
use Rattle.def_reading.specs.Blanks.{skip}
use Rattle.def_reading.specs.Lists.{read, stopped, is_jump, as_token, beside, list, lists}
use Rattle.def_reading.proofs.PieceLaws.{here_at, skip_from, skip_in}
use Rattle.def_reading.proofs.ListSteps.{list_gone, lists_closed, lists_barred, lists_else, lists_missing, lists_stopped}
use Rattle.reader.specs.Written.{written}
use Rattle.reader.specs.Says.{ListGot, list_to, no_list, list_refusal, token_to, token_refusal, TokenSays, ListSays, alternatives}
use Rattle.reader.proofs.WrittenLaws.{written_none, written_append, headed}
use Rattle.reader.proofs.SaysLaws.{list_read, list_absent, list_refused, says_read, says_refused, bracket_open}
use Rattle.reader.proofs.Joined.{◌with◌, besides, besides_with, besides_read, besides_stopped, entries_with, count_with}

-- the lists ls have been read; the alternatives are these and what is read from x on
pub record ListsRead (t : List ℕ) (l count at n : ℕ) (p pool : List ℕ) (x miss m c k : ℕ) : Type 0 where
  pub ls : Lists
  pub whole : lists t (l + 1) (count + 1) (skip t (at + 1)) (skip t (at + 1)) ≡ besides ls (lists t (l + 1) c x miss)
  pub words : pool ≡ written p (n + 4) (list_entries ls)
  pub used : m ≡ n + 4 + length (list_entries ls)
  pub own : k ≡ list_count ls
  pub from : at < x
  pub inside : x ≤ length t
  pub room : m + 4 ≤ 8 * c
  pub few : c ≤ token_limit
  pub owned : k < c
  pub kept : length pool ≡ length p

-- a list that was read, in numbers
pub record Turned (t : List ℕ) (x m c e u d own : ℕ) : Type 0 where
  pub moved : x < e
  pub inside : e ≤ length t
  pub counted : c < d
  pub within : d ≤ token_limit
  pub room : u + 4 ≤ 8 * d
  pub more : m + 4 ≤ u
  pub few : own ≤ token_pool

module _ (t : List ℕ) (l count at n : ℕ) (p : List ℕ) where
  pub lists_read_start : at < length t → n ≤ 8 * count → count < token_limit → ListsRead t l count at n p p (skip t (at + 1)) (skip t (at + 1)) (n + 4) (count + 1) 0
  unfolding besides list_entries list_count
  lists_read_start a b c = record {
    ls = neither;
    whole = refl;
    words = written_none p (n + 4);
    used = omega arith;
    own = refl;
    from = omega (arith, skip_from t (at + 1));
    inside = skip_in t (at + 1) (omega arith);
    room = omega arith;
    few = omega arith;
    owned = omega arith;
    kept = refl;
  }

  module _ (pool : List ℕ) (x miss m c k : ℕ) (inv : ListsRead t l count at n p pool x miss m c k) (g : ListGot) (q : List ℕ) (says : ListSays (list t (l + 1) c x) (m + 4) g pool q) where
    pub turned : (e u d own : ℕ) → g ≡ list_to e u d own → Turned t x m c e u d own
    turned e u d own h =
        let z = list_read (m + 4) g pool q (list t (l + 1) c x) e u d own h says in
        let w = list_gone t (l + 1) c x z.1 in
        let y = z.2 in
        let o = z.3 in
        let b = count_few z.0 in
        let r = inv.room in
        record { moved = w.moved; inside = w.inside; counted = w.counted; within = w.within; room = omega arith; more = omega arith; few = omega arith }

    -- the mark stands before the list's words
    pub marked : (e u d own : ℕ) → n + 4 ≤ length p → m + 4 ≤ length p → g ≡ list_to e u d own
        → (ts : Tokens) × (list t (l + 1) c x ≡ read ts e d) × (u ≡ n + 4 + length (list_entries (inv.ls with ts))) × (written q m (6 ∷ own ∷ ((u - (m + 4)) / 4) ∷ 0 ∷ []) ≡ written p (n + 4) (list_entries (inv.ls with ts)))
    marked e u d own r r' h =
        let z = list_read (m + 4) g pool q (list t (l + 1) c x) e u d own h says in
        let ts = z.0 in
        let ls = inv.ls in
        let head : List ℕ = 6 ∷ own ∷ ((u - (m + 4)) / 4) ∷ 0 ∷ [] in
        let y = z.2 in
        let v = inv.used in
        let kp = inv.kept in
        let i : u - (m + 4) ≡ length (entries ts) = omega arith in
        let hd : head ++ entries ts ≡ entry 6 (token_count ts) (entries_in (entries ts)) 0 ++ entries ts = ap₂ (λ (a b : ℕ). 6 ∷ a ∷ (b / 4) ∷ 0 ∷ entries ts) z.3 i in
        let le : length (list_entries (ls with ts)) ≡ length (list_entries ls) + suc (suc (suc (suc (length (entries ts))))) = ap length (entries_with ls ts) ∙ length-append (list_entries ls) _ in (
          ts,
          z.1,
          omega arith,
          ap (λ (a : List ℕ). written a m head) z.4 ∙ headed pool m head (entries ts) refl (omega arith)
              ∙ ap₂ (λ (a b : List ℕ). written a m b) inv.words hd
              ∙ ap (λ (a : ℕ). written (written p (n + 4) (list_entries ls)) a (entry 6 (token_count ts) (entries_in (entries ts)) 0 ++ entries ts)) inv.used
              ∙ written_append p (n + 4) (list_entries ls) _ r
              ∙ ap (written p (n + 4)) (sym (entries_with ls ts)),
        )

    pub lists_read_next : (e u d own y : ℕ) (q' : List ℕ) → n + 4 ≤ length p → m + 4 ≤ length p → g ≡ list_to e u d own → q' ≡ written q m (6 ∷ own ∷ ((u - (m + 4)) / 4) ∷ 0 ∷ []) → length q' ≡ length p
        → get_or t e 0 ≡ code "|" → y ≡ skip t (e + 1) → ListsRead t l count at n p q' y e u d (k + 1)
    lists_read_next e u d own y q' r r' h hq lq b s =
        let z = marked e u d own r r' h in
        let ts = z.0 in
        let ls = inv.ls in
        let w = turned e u d own h in
        let i : e < length t = here_at t e (code "|") b (omega arith) in
        let f = skip_from t (e + 1) in
        let fi = skip_in t (e + 1) (omega arith) in
        let o = inv.own in
        let cw = count_with ls ts in
        let v = z.2 in
        record {
          ls = ls with ts;
          whole = inv.whole ∙ ap (besides ls) (lists_barred t (l + 1) c x miss z.1 b ∙ ap (λ (a : ℕ). beside ts (lists t (l + 1) d a e)) (sym s)) ∙ besides_with ls ts (lists t (l + 1) d y e);
          words = hq ∙ z.3;
          used = v;
          own = omega arith;
          from = omega (arith, inv.from);
          inside = omega arith;
          room = w.room;
          few = w.within;
          owned = omega (arith, inv.owned);
          kept = lq;
        }

    pub lists_read_done : (e u d own y : ℕ) (q' q'' : List ℕ) → n + 4 ≤ length p → m + 4 ≤ length p → get_or t at 0 ≡ code "(" → count < token_limit → g ≡ list_to e u d own → q' ≡ written q m (6 ∷ own ∷ ((u - (m + 4)) / 4) ∷ 0 ∷ [])
        → q'' ≡ written q' n (5 ∷ (k + 1) ∷ ((u - (n + 4)) / 4) ∷ 0 ∷ []) → get_or t e 0 ≡ code ")" → y ≡ skip t (e + 1) → TokenSays (alternatives t l count at) n (token_to y u d false) p q''
    unfolding as_token is_jump entries_of
    lists_read_done e u d own y q' q'' r r' o f h hq hq'' b s =
        let z = marked e u d own r r' h in
        let ts = z.0 in
        let ls = inv.ls with ts in
        let v = z.2 in
        let w : lists t (l + 1) (count + 1) (skip t (at + 1)) (skip t (at + 1)) ≡ read ls y d = inv.whole ∙ ap (besides inv.ls) (lists_closed t (l + 1) c x miss z.1 b) ∙ besides_read inv.ls ts (skip t (e + 1)) d ∙ ap (λ (a : ℕ). read ls a d) (sym s) in
        let i : u - (n + 4) ≡ length (list_entries ls) = omega arith in
        let kk : k + 1 ≡ list_count ls = omega (arith, inv.own, count_with inv.ls ts) in
        says_read (alternatives t l count at) n p q'' (Alternatives ls) y d u false (bracket_open t l count at o f w) (omega arith) refl
        (hq'' ∙ ap (λ (a : List ℕ). written a n (5 ∷ (k + 1) ∷ ((u - (n + 4)) / 4) ∷ 0 ∷ [])) (hq ∙ z.3)
        ∙ headed p n (5 ∷ (k + 1) ∷ ((u - (n + 4)) / 4) ∷ 0 ∷ []) (list_entries ls) refl r
        ∙ ap₂ (λ (a j : ℕ). written p n (5 ∷ a ∷ (j / 4) ∷ 0 ∷ list_entries ls)) kk i)

    -- a refusal within
    stops : {r : Refusal} {y : ℕ} (q' : List ℕ) → get_or t at 0 ≡ code "(" → count < token_limit → lists t (l + 1) c x miss ≡ stopped r y → TokenSays (alternatives t l count at) n (token_refusal r y) p q'
    unfolding as_token
    stops {r} {y} q' o f w = says_refused (alternatives t l count at) n p q' r y (bracket_open t l count at o f (inv.whole ∙ ap (besides inv.ls) w ∙ besides_stopped inv.ls r y))

    pub lists_read_else : (e u d own : ℕ) (q' : List ℕ) → get_or t at 0 ≡ code "(" → count < token_limit → g ≡ list_to e u d own → (get_or t e 0 ≡ code ")" → ⊥) → (get_or t e 0 ≡ code "|" → ⊥) → TokenSays (alternatives t l count at) n (token_refusal Unexpected e) p q'
    lists_read_else e u d own q' o f h a b =
        let z = list_read (m + 4) g pool q (list t (l + 1) c x) e u d own h says in
        stops q' o f (lists_else t (l + 1) c x miss z.1 a b)

    pub lists_read_missing : get_or t at 0 ≡ code "(" → count < token_limit → g ≡ no_list → (q' : List ℕ) → TokenSays (alternatives t l count at) n (token_refusal Unexpected miss) p q'
    lists_read_missing o f h q' = stops q' o f (lists_missing t (l + 1) c x miss (list_absent (m + 4) g pool q (list t (l + 1) c x) h says).0)

    pub lists_read_stop : get_or t at 0 ≡ code "(" → count < token_limit → (r : Refusal) (y : ℕ) → g ≡ list_refusal r y → (q' : List ℕ) → TokenSays (alternatives t l count at) n (token_refusal r y) p q'
    lists_read_stop o f r y h q' = stops q' o f (lists_stopped t (l + 1) c x miss (list_refused (m + 4) g pool q (list t (l + 1) c x) r y h says))
