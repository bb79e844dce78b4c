-- What is read lies inside the text, is counted, and has room in the pool. Assumes nothing.
use mathlib.Core.Path.{◌≡◌, refl}
use mathlib.Core.Bool.{Bool, true, false, cond}
use mathlib.Core.List.{List}
use Prim.Native.Char.{code}
use Prim.Native.Nat.{ℕ, zero, suc, ◌+◌, ◌*◌, ◌≤◌, ◌<◌}
use native.Mathlib.Omega.{arith}
use borrow.Author.Tests.{eqb-true, ltb-true}
use lib.Dec.{eqb, ltb}
use lib.ListN.{length, get_or, length-append}
use Rattle.base.specs.declared.Refusal.TheVariants.{Unexpected, JumpAtBound, HexStringTooDeep, TooManyTokens}
use Rattle.def_meaning.specs.Limits.{token_limit, level_limit}
use Rattle.def_meaning.specs.Tokens.{Token, Tokens, Lists, nothing, ◌then◌, neither, ◌or◌}
use Rattle.def_meaning.specs.Entries.{entries_of, entries, list_entries}
use Rattle.def_reading.specs.Blanks.{skip}
use Rattle.def_reading.specs.Pieces.{Seen, found, absent, refused, leaf_at}
use Rattle.def_reading.specs.Lists.{Parsed, read, missing, stopped, token_or, as_token, bracketed, before, then_more, at_bound, list_of, beside, then_lists, token_f, more_f, list_f, lists_f}
use Rattle.def_reading.proofs.PieceLaws.{here_at, skip_from, skip_in}
use Rattle.def_reading.proofs.PieceBounds.{Inside, leaf_in, OneEntry, leaf_entry}

-- From offset `at` and count c on, up to e and d, with n words: two entries for each token counted, less k words. Each token has an entry,
-- each list in brackets a mark, and each of those lists has a token of its own.
pub record Gone (k : ℕ) (t : List ℕ) (at c n e d : ℕ) : Type 0 where
  pub moved : at < e
  pub inside : e ≤ length t
  pub counted : c < d
  pub within : d ≤ token_limit
  pub room : n + k + 8 * c ≤ 8 * d

unfoldable pub TokenIn : List ℕ → ℕ → ℕ → Parsed Token → Type 0
TokenIn t at c (read tok e d) = Gone 4 t at c (length (entries_of tok)) e d
TokenIn t at c missing = Unit {0}
TokenIn t at c (stopped r p) = Unit {0}

unfoldable pub MoreIn : List ℕ → ℕ → ℕ → Parsed Tokens → Type 0
MoreIn t at c (read nothing e d) = (e ≡ at) × (d ≡ c)
MoreIn t at c (read (tok then ts) e d) = Gone 4 t at c (length (entries (tok then ts))) e d
MoreIn t at c missing = Unit {0}
MoreIn t at c (stopped r p) = Unit {0}

unfoldable pub ListIn : List ℕ → ℕ → ℕ → Parsed Tokens → Type 0
ListIn t at c (read ts e d) = Gone 4 t at c (length (entries ts)) e d
ListIn t at c missing = Unit {0}
ListIn t at c (stopped r p) = Unit {0}

unfoldable pub ListsIn : List ℕ → ℕ → ℕ → Parsed Lists → Type 0
ListsIn t at c (read ls e d) = Gone 0 t at c (length (list_entries ls)) e d
ListsIn t at c missing = Unit {0}
ListsIn t at c (stopped r p) = Unit {0}

module _ (t : List ℕ) (at c : ℕ) where
  -- a token read whole
  counted_in : (tok : Token) (s e : ℕ) (b : Bool) → ltb c token_limit ≡ b → Inside t at (found tok s e) → OneEntry (found tok s e) → (y : Parsed Token) → TokenIn t at c y → TokenIn t at c (cond b (read tok e (c + 1)) y)
  unfolding TokenIn Inside OneEntry
  counted_in tok s e true q h l y k = let u = ltb-true c token_limit q in record { moved = omega arith; inside = h.2; counted = omega arith; within = omega arith; room = omega arith }
  counted_in tok s e false q h l y k = k

  or_in : (x : Seen Token) (y : Parsed Token) → Inside t at x → OneEntry x → TokenIn t at c y → TokenIn t at c (token_or at c x y)
  unfolding token_or TokenIn
  or_in (found tok s e) y h l k = counted_in tok s e (ltb c token_limit) refl h l _ tt
  or_in absent y h l k = k
  or_in (refused r p) y h l k = tt

  as_in : (x : ℕ) (y : Parsed Lists) → at < x → ListsIn t x (c + 1) y → TokenIn t at c (as_token y)
  unfolding as_token TokenIn ListsIn entries_of
  as_in x (read ls e d) h k = record { moved = omega arith; inside = k.inside; counted = omega arith; within = k.within; room = omega arith }
  as_in x missing h k = tt
  as_in x (stopped r p) h k = tt

  bracketed_in : (y : Parsed Lists) → ListsIn t (skip t (at + 1)) (c + 1) y → TokenIn t at c (bracketed t at c y)
  unfolding bracketed TokenIn
  bracketed_in y k = go (eqb (get_or t at 0) (code "(")) (ltb c token_limit)
    where
      go : (a b : Bool) → TokenIn t at c (cond a (cond b (as_token y) (stopped TooManyTokens at)) missing)
      go true true = as_in (skip t (at + 1)) y (omega (arith, skip_from t (at + 1))) k
      go true false = tt
      go false b = tt

  before_in : (tok : Token) (e d : ℕ) (y : Parsed Tokens) → Gone 4 t at c (length (entries_of tok)) e d → MoreIn t e d y → MoreIn t at c (before tok y)
  unfolding before MoreIn entries
  before_in tok e d (read nothing e' d') g k =
      let l = length-append (entries_of tok) (entries nothing) in
      record { moved = omega arith; inside = omega arith; counted = omega arith; within = omega arith; room = omega arith }
  before_in tok e d (read (u then us) e' d') g k =
      let l = length-append (entries_of tok) (entries (u then us)) in
      record { moved = omega arith; inside = k.inside; counted = omega arith; within = k.within; room = omega arith }
  before_in tok e d missing g k = tt
  before_in tok e d (stopped r p) g k = tt

  then_in : (x : Parsed Token) (more : ℕ → ℕ → Parsed Tokens) → TokenIn t at c x → ((d e : ℕ) → MoreIn t e d (more d e)) → MoreIn t at c (then_more at c x more)
  unfolding then_more TokenIn MoreIn
  then_in (read tok e d) more g k = before_in tok e d (more d e) g (k d e)
  then_in missing more g k = (refl, refl)
  then_in (stopped r p) more g k = tt

  of_in : (x : Parsed Tokens) → MoreIn t at c x → ListIn t at c (list_of at x)
  unfolding list_of MoreIn ListIn
  of_in (read nothing e d) g = tt
  of_in (read (tok then ts) e d) g = go (at_bound (tok then ts))
    where
      go : (b : Bool) → ListIn t at c (cond b (stopped JumpAtBound at) (read (tok then ts) e d))
      go true = tt
      go false = g
  of_in missing g = tt
  of_in (stopped r p) g = tt

  beside_in : (ts : Tokens) (e d x : ℕ) (y : Parsed Lists) → Gone 4 t at c (length (entries ts)) e d → e < x → ListsIn t x d y → ListsIn t at c (beside ts y)
  unfolding beside ListsIn list_entries
  beside_in ts e d x (read ls e' d') g h k =
      let l = length-append (entries ts) (list_entries ls) in
      record { moved = omega arith; inside = k.inside; counted = omega arith; within = k.within; room = omega arith }
  beside_in ts e d x missing g h k = tt
  beside_in ts e d x (stopped r p) g h k = tt

  lists_in_of : (miss : ℕ) (x : Parsed Tokens) (more : ℕ → ℕ → ℕ → Parsed Lists) → ListIn t at c x → ((d e m : ℕ) → ListsIn t e d (more d e m)) → ListsIn t at c (then_lists t miss x more)
  unfolding then_lists ListIn ListsIn list_entries
  lists_in_of miss (read ts e d) more g k = go (eqb (get_or t e 0) (code ")")) (eqb (get_or t e 0) (code "|")) refl
    where
      go : (a b : Bool) → eqb (get_or t e 0) (code ")") ≡ a → ListsIn t at c (cond a (read (ts or neither) (skip t (e + 1)) d) (cond b (beside ts (more d (skip t (e + 1)) e)) (stopped Unexpected e)))
      go true b q =
          let l = length-append (entries ts) (list_entries neither) in
          let h : e < length t = here_at t e (code ")") (eqb-true (get_or t e 0) (code ")") q) (omega arith) in
          record { moved = omega (arith, skip_from t (e + 1)); inside = skip_in t (e + 1) (omega arith); counted = g.counted; within = g.within; room = omega arith }
      go false true q = beside_in ts e d (skip t (e + 1)) (more d (skip t (e + 1)) e) g (omega (arith, skip_from t (e + 1))) (k d (skip t (e + 1)) e)
      go false false q = tt
  lists_in_of miss missing more g k = tt
  lists_in_of miss (stopped r p) more g k = tt

  deep_in : (b : Bool) (y : Parsed Tokens) → ListIn t at c y → ListIn t at c (cond b (stopped HexStringTooDeep at) y)
  unfolding ListIn
  deep_in true y k = tt
  deep_in false y k = k

mutual
  unfolding token_f more_f list_f lists_f TokenIn MoreIn ListIn ListsIn

  pub token_in_lem : (f : ℕ) (t : List ℕ) (l c at : ℕ) → TokenIn t at c (token_f f t l c at)
  token_in_lem zero t l c at = tt
  token_in_lem (suc f) t l c at = or_in t at c (leaf_at t (ltb 1 l) at) _ (leaf_in t at (ltb 1 l)) (leaf_entry t (ltb 1 l) at) (bracketed_in t at c _ (lists_in_lem f t (l + 1) (c + 1) (skip t (at + 1)) (skip t (at + 1))))

  pub more_in : (f : ℕ) (t : List ℕ) (l c at : ℕ) → MoreIn t at c (more_f f t l c at)
  more_in zero t l c at = tt
  more_in (suc f) t l c at = then_in t at c (token_f f t l c at) (λ d x. more_f f t l d x) (token_in_lem f t l c at) (λ d x. more_in f t l d x)

  pub list_in : (f : ℕ) (t : List ℕ) (l c at : ℕ) → ListIn t at c (list_f f t l c at)
  list_in zero t l c at = tt
  list_in (suc f) t l c at = deep_in t at c (ltb level_limit l) _ (of_in t at c (more_f f t l c at) (more_in f t l c at))

  pub lists_in_lem : (f : ℕ) (t : List ℕ) (l c at miss : ℕ) → ListsIn t at c (lists_f f t l c at miss)
  lists_in_lem zero t l c at miss = tt
  lists_in_lem (suc f) t l c at miss = lists_in_of t at c miss (list_f f t l c at) (λ d x m. lists_f f t l d x m) (list_in f t l c at) (λ d x m. lists_in_lem f t l d x m)
