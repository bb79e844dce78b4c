-- The outer list's program, one token more. Assumes nothing.
use Rattle.std.proofs.Common.{◌≡◌, refl, sym, ap, ◌∙◌, subst, Bool, true, false, not, ◌&&◌, ◌||◌, List, ℕ, ◌+◌, ◌*◌, ◌≤◌, ◌<◌, arith, add-one, leb, length, get_or, Option, None}
use Rattle.std.proofs.Math.Bool.{and-true, and_assoc}
use Rattle.def_meaning.specs.Limits.{jump_limit}
use Rattle.def_meaning.specs.Programs.{Item, Prog, one, jump, range, alt, end, ◌▹◌}
use Rattle.def_compiling.specs.ProgramWords.{nodes}
use Rattle.def_compiling.specs.Compiling.{jump_of, pair_by, add}
use Rattle.def_compiling.specs.Compile.{short_of, short}
use Rattle.emit.specs.Items.{place_of}
use Rattle.emit.specs.Lists.{added_to, item_count, item_last, item_out, token_at, token_item, tokens_program, size_at, Outlined}
use Rattle.emit.proofs.HoldLaws.{Holds, nothing_held}
use Rattle.emit.proofs.AltLaws.{Steps, item_holds, size_least}
use Rattle.emit.proofs.LinkLaws.{token_room}

pair_short : (i j : Item) → short (pair_by (jump_of i) (jump_of j) i j) ≡ (short_of i && short_of j)
unfolding pair_by jump_of short short_of
pair_short (one t) j = and-true (short_of j)
pair_short (jump m) (one t) = refl
pair_short (jump m) (jump n) = go (leb (m + n) jump_limit) refl
  where
    go : (t : Bool) → leb (m + n) jump_limit ≡ t → short (pair_by (jump_of (jump m)) (jump_of (jump n)) (jump m) (jump n)) ≡ true
    go true e = rw e
    go false e = rw e
pair_short (jump m) (range a b) = refl
pair_short (jump m) (alt bs) = and-true (short_of (alt bs))
pair_short (range a b) j = and-true (short_of j)
pair_short (alt bs) j = ap (λ (t : Bool). short_of (alt bs) && t) (and-true (short_of j))

-- no branch is too long, if none was and none of the item's is
short_add : (p : Prog) (j : Item) → short (add p j) ≡ (short p && short_of j)
unfolding add short
short_add end j = and-true (short_of j)
short_add (i ▹ end) j = pair_short i j ∙ ap (λ (t : Bool). t && short_of j) (sym (and-true (short_of i)))
short_add (i ▹ (k ▹ p)) j = ap (λ (t : Bool). short_of i && t) (short_add (k ▹ p) j) ∙ sym (and_assoc (short_of i) (short (k ▹ p)) (short_of j))

-- k tokens are done
pub record Done (b : Bool) (ws st o out : List ℕ) (n : ℕ) (last : Option ℕ) (long : Bool) (k : ℕ) : Type 0 where
  pub sofar : k ≤ length st
  pub same : length out ≡ length o
  pub held : Holds (added_to (token_item b ws st) k) o out n last
  pub longs : long ≡ not (short (added_to (token_item b ws st) k))

pub done_none : (b : Bool) (ws st o : List ℕ) → Done b ws st o o 0 None false 0
unfolding added_to short
done_none b ws st o = record { sofar = omega arith; same = refl; held = nothing_held o; longs = refl }

module _ (b : Bool) (ws st o out : List ℕ) (n : ℕ) (last : Option ℕ) (long : Bool) (k : ℕ) (h : Done b ws st o out n last long k) where
  pub done_all : length st ≤ k → (n ≡ nodes (tokens_program b ws st)) × (long ≡ not (short (tokens_program b ws st))) × Holds (tokens_program b ws st) o out n last
  unfolding tokens_program
  done_all l =
      let s = h.sofar in
      let e : k ≡ length st = omega arith in
      let q : Holds (added_to (token_item b ws st) (length st)) o out n last = subst (λ (x : ℕ). Holds (added_to (token_item b ws st) x) o out n last) e h.held in
      (q.count, h.longs ∙ ap (λ (x : ℕ). not (short (added_to (token_item b ws st) x))) e, q)

  module _ (g : Outlined ws st) (r : length ws ≤ 4 * length o) (l : k < length st) (at : ℕ) (e : at ≡ get_or st (place_of b (length st) k) 0) where
    pub token_fits : 4 * n + size_at ws at ≤ length ws
    token_fits = subst (λ (x : ℕ). 4 * n + size_at ws x ≤ length ws) (sym e) (subst (λ (x : ℕ). 4 * x + size_at ws (get_or st (place_of b (length st) k) 0) ≤ length ws) (sym h.held.count) (token_room b ws st g k l))

    the_token : token_item b ws st k ≡ token_at b ws at
    unfolding token_item
    the_token = ap (token_at b ws) (sym e)

    pub done_more : (count : ℕ) (next : Option ℕ) (longer : Bool) (now : List ℕ) → length now ≡ length out → Steps out n last long (token_at b ws at) count next longer now → Done b ws st o now count next longer (k + 1)
    unfolding added_to
    done_more count next longer now m q =
        let i = token_at b ws at in
        let p = added_to (token_item b ws st) k in
        let f = token_fits in
        let z = size_least ws at in
        let s = h.same in
        let t : added_to (token_item b ws st) (k + 1) ≡ add p i = ap (added_to (token_item b ws st)) (add-one k) ∙ ap (add p) the_token in
        let v : Holds (add p i) o (item_out out n last i) (item_count n last i) (item_last last i) = item_holds p o out n last h.held i (omega arith) (omega arith) in
        record {
          sofar = omega arith;
          same = m ∙ s;
          held = rw (t, q.0, q.1, q.3) v;
          longs =
              q.2 ∙ ap (λ (x : Bool). x || not (short_of i)) h.longs ∙ or_not (short p) (short_of i)
              ∙ ap not (sym (short_add p i)) ∙ ap (λ (x : Prog). not (short x)) (sym t);
        }
      where
        or_not : (x y : Bool) → (not x || not y) ≡ not (x && y)
        or_not true y = refl
        or_not false y = refl
