-- What the readers of tokens and lists read is spelled as the grammar says, within the limits. Assumes nothing.
use mathlib.Core.Path.{◌≡◌, refl, subst}
use mathlib.Core.Bool.{Bool, true, false, cond}
use mathlib.Core.List.{List}
use Prim.Native.Char.{code}
use Prim.Native.Nat.{ℕ, zero, suc, ◌+◌, ◌-◌, ◌<◌, ◌≤◌}
use native.Mathlib.Omega.{arith}
use borrow.Author.Tests.{ltb-true, ltb-false, eqb-true, lt-ltb}
use lib.Dec.{eqb, ltb}
use Rattle.base.specs.declared.Refusal.TheVariants.{TooManyTokens, Unexpected, JumpAtBound, HexStringTooDeep}
use Rattle.def_meaning.specs.Limits.{token_limit, level_limit}
use Rattle.def_meaning.specs.Tokens.{Token, Tokens, Lists, Byte, NotByte, MaskedByte, NotMaskedByte, Jump, Alternatives, nothing, ◌then◌, neither, ◌or◌, total_in, total, totals}
use Rattle.def_reading.specs.Blanks.{here, skip}
use Rattle.def_reading.specs.Pieces.{Seen, found, absent, refused, leaf_at}
use Rattle.def_reading.specs.Lists.{Parsed, read, missing, stopped, token_or, as_token, bracketed, before, then_more, at_bound, list_of, beside, then_lists, token_f, more_f, list_f, lists_f}
use Rattle.def_grammar.proofs.Spelling.{Language, ◌⨾◌, Marked, SpellsToken, SpellsTokens, SpellsLists, SpellsRest, SpellsList, depth_in, depth, depths}
use Rattle.def_grammar.proofs.Standing.{Stands, seq, change, mark_stands}
use Rattle.def_grammar.proofs.PiecesSpelled.{Sound, Leaf, SpellsLeaf, leaf_sound, nothing_stands}
use Rattle.def_grammar.proofs.BoundLaws.{bounded}

-- what was read stands there; it has the tokens that were counted, at most 512 with those before it; and it has no more levels than were left
unfoldable pub Right : {A : Type 0} → (A → Language) → (A → ℕ) → (A → ℕ) → List ℕ → ℕ → ℕ → ℕ → Parsed A → Type 0
Right P tokens levels t left count at (read x e c) = Stands (P x) t at e × (c ≡ count + tokens x) × (c ≤ token_limit) × (levels x ≤ left)
Right P tokens levels t left count at missing = Unit {0}
Right P tokens levels t left count at (stopped r p) = Unit {0}

abbrev TokenRight : List ℕ → ℕ → ℕ → ℕ → Parsed Token → Type 0
TokenRight t level count at = Right (λ tok s. SpellsToken (ltb 1 level) tok s) (λ tok. total_in tok) (λ tok. depth_in tok) t (level_limit - level) count at

abbrev MoreRight : List ℕ → ℕ → ℕ → ℕ → Parsed Tokens → Type 0
MoreRight t level count at = Right (λ ts s. SpellsTokens (ltb 1 level) ts s) (λ ts. total ts) (λ ts. depth ts) t (suc (level_limit - level)) count at

abbrev pub ListRight : List ℕ → ℕ → ℕ → ℕ → Parsed Tokens → Type 0
ListRight t level count at = Right (SpellsList (ltb 1 level)) (λ ts. total ts) (λ ts. depth ts) t (suc level_limit - level) count at

abbrev ListsRight : List ℕ → ℕ → ℕ → ℕ → Parsed Lists → Type 0
ListsRight t level count at = Right (λ ls s. SpellsLists ls s) (λ ls. totals ls) (λ ls. depths ls) t (suc level_limit - level) count at

pub leaf_one : (tok : Token) → Leaf tok → (total_in tok ≡ 1) × (depth_in tok ≡ 0)
unfolding Leaf total_in depth_in
leaf_one (Byte v) h = (refl, refl)
leaf_one (NotByte v) h = (refl, refl)
leaf_one (MaskedByte v m) h = (refl, refl)
leaf_one (NotMaskedByte v m) h = (refl, refl)
leaf_one (Jump from to) h = (refl, refl)
leaf_one (Alternatives ls) h = absurd h

token_or_right : (t : List ℕ) (level count at : ℕ) (x : Seen Token) (other : Parsed Token) → Sound (SpellsLeaf (ltb 1 level)) t at x → TokenRight t level count at other
    → TokenRight t level count at (token_or at count x other)
unfolding Right Sound token_or SpellsLeaf
token_or_right t level count at (found tok s e) other p q = go (ltb count token_limit) refl
  where
    go : (a : Bool) → ltb count token_limit ≡ a → TokenRight t level count at (cond a (read tok e (count + 1)) (stopped TooManyTokens at))
    go true d =
        let o = leaf_one tok p.spelled.1 in
        let l : count < token_limit = ltb-true count token_limit d in
        (change (λ u z. z.0) p, omega arith, omega arith, omega arith)
    go false d = tt
token_or_right t level count at absent other p q = q
token_or_right t level count at (refused r z) other p q = tt

bracketed_right : (t : List ℕ) (level count at : ℕ) (ls : Parsed Lists) → (count < token_limit → ListsRight t (level + 1) (count + 1) (skip t (at + 1)) ls)
    → TokenRight t level count at (bracketed t at count ls)
unfolding Right bracketed as_token SpellsToken total_in depth_in
bracketed_right t level count at ls k = go (eqb (here t at) (code "(")) (ltb count token_limit) ls refl refl k
  where
    go : (a b : Bool) (ls : Parsed Lists) → eqb (here t at) (code "(") ≡ a → ltb count token_limit ≡ b → (count < token_limit → ListsRight t (level + 1) (count + 1) (skip t (at + 1)) ls)
        → TokenRight t level count at (cond a (cond b (as_token ls) (stopped TooManyTokens at)) missing)
    go true true (read ls e c) d f k =
        let p = k (ltb-true count token_limit f) in
        let q : c ≡ count + 1 + totals ls = p.1 in
        let l : depths ls ≤ suc level_limit - (level + 1) = p.3 in
        (change (λ u z. z) (seq (mark_stands t at (code "(") (eqb-true (here t at) (code "(") d) (omega arith)) p.0), omega arith, p.2, omega arith)
    go true true missing d f k = tt
    go true true (stopped r z) d f k = tt
    go true false ls d f k = tt
    go false b ls d f k = tt

more_right : (t : List ℕ) (level count at : ℕ) (x : Parsed Token) (more : ℕ → ℕ → Parsed Tokens) → count ≤ token_limit → TokenRight t level count at x
    → ((c e : ℕ) → c ≤ token_limit → MoreRight t level c e (more c e)) → MoreRight t level count at (then_more at count x more)
unfolding Right then_more before SpellsTokens total depth
more_right t level count at (read tok e c) more h p k = go (more c e) (k c e p.2)
  where
    go : (y : Parsed Tokens) → MoreRight t level c e y → MoreRight t level count at (before tok y)
    go (read ts f d) q =
        let a : c ≡ count + total_in tok = p.1 in
        let b : d ≡ c + total ts = q.1 in
        let i : depth_in tok ≤ level_limit - level = p.3 in
        let j : depth ts ≤ suc (level_limit - level) = q.3 in
        (change (λ u z. z) (seq p.0 q.0), omega arith, q.2, omega arith)
    go missing q = tt
    go (stopped r z) q = tt
more_right t level count at missing more h p k = (change (λ u z. z) (nothing_stands t at), omega arith, h, omega arith)
more_right t level count at (stopped r z) more h p k = tt

list_right : (t : List ℕ) (level count at : ℕ) (x : Parsed Tokens) → MoreRight t level count at x
    → ListRight t level count at (cond (ltb level_limit level) (stopped HexStringTooDeep at) (list_of at x))
unfolding Right list_of
list_right t level count at x p = deep (ltb level_limit level) refl x p
  where
    bound : (tok : Token) (ts : Tokens) (e c : ℕ) (a : Bool) → at_bound (tok then ts) ≡ a → level ≤ level_limit → MoreRight t level count at (read (tok then ts) e c)
        → ListRight t level count at (cond a (stopped JumpAtBound at) (read (tok then ts) e c))
    bound tok ts e c true d l p = tt
    bound tok ts e c false d l p =
        let j : depth (tok then ts) ≤ suc (level_limit - level) = p.3 in
        (change (λ u z. (bounded tok ts d, z)) p.0, p.1, p.2, omega arith)

    shallow : level ≤ level_limit → (x : Parsed Tokens) → MoreRight t level count at x → ListRight t level count at (list_of at x)
    shallow l (read nothing e c) p = tt
    shallow l (read (tok then ts) e c) p = bound tok ts e c (at_bound (tok then ts)) refl l p
    shallow l missing p = tt
    shallow l (stopped r z) p = tt

    deep : (a : Bool) → ltb level_limit level ≡ a → (x : Parsed Tokens) → MoreRight t level count at x
        → ListRight t level count at (cond a (stopped HexStringTooDeep at) (list_of at x))
    deep true d x p = tt
    deep false d x p = shallow (ltb-false level_limit level d) x p

-- lists after `|` are the rest of the lists before it
rest_lists : (ls : Lists) (s : List ℕ) → (Marked (code "|") ⨾ (λ b. SpellsLists ls b)) s → SpellsRest ls s
unfolding ◌⨾◌ SpellsLists SpellsRest
rest_lists neither s p = absurd p.4
rest_lists (ts or ls) s p = (p.4.0, (p.0, p.1, p.2, p.3, p.4.1))

lists_right : (t : List ℕ) (level count at miss : ℕ) (x : Parsed Tokens) (more : ℕ → ℕ → ℕ → Parsed Lists) → 2 ≤ level → ListRight t level count at x
    → ((c e m : ℕ) → c ≤ token_limit → ListsRight t level c e (more c e m)) → ListsRight t level count at (then_lists t miss x more)
unfolding Right then_lists beside SpellsLists SpellsRest totals depths
lists_right t level count at miss (read ts e c) more l p k = go (eqb (here t e) (code ")")) (eqb (here t e) (code "|")) refl refl (more c (skip t (e + 1)) e) (k c (skip t (e + 1)) e p.2)
  where
    inside : ltb 1 level ≡ true
    inside = lt-ltb 1 level l

    first : {f : ℕ} (ls : Lists) → Stands (λ s. SpellsRest ls s) t e f → Stands (λ s. SpellsLists (ts or ls) s) t at f
    first ls r =
        change (λ u z. (p.0.spelled.0, z))
        (seq (change {Q = λ s. SpellsTokens true ts s} (λ u z. subst (λ (i : Bool). SpellsTokens i ts u) inside z.1) p.0) r)

    go : (a b : Bool) → eqb (here t e) (code ")") ≡ a → eqb (here t e) (code "|") ≡ b → (y : Parsed Lists) → ListsRight t level c (skip t (e + 1)) y
        → ListsRight t level count at (cond a (read (ts or neither) (skip t (e + 1)) c) (cond b (beside ts y) (stopped Unexpected e)))
    go true b d f y q =
        let i : c ≡ count + total ts = p.1 in
        let j : depth ts ≤ suc level_limit - level = p.3 in
        (first neither (change (λ u z. z) (mark_stands t e (code ")") (eqb-true (here t e) (code ")") d) (omega arith))), omega arith, p.2, omega arith)
    go false true d f (read ls g h) q =
        let i : c ≡ count + total ts = p.1 in
        let j : depth ts ≤ suc level_limit - level = p.3 in
        let m : h ≡ c + totals ls = q.1 in
        let n : depths ls ≤ suc level_limit - level = q.3 in
        (first ls (change (λ u z. rest_lists ls u z) (seq (mark_stands t e (code "|") (eqb-true (here t e) (code "|") f) (omega arith)) q.0)), omega arith, q.2, omega arith)
    go false true d f missing q = tt
    go false true d f (stopped r z) q = tt
    go false false d f y q = tt
lists_right t level count at miss missing more l p k = tt
lists_right t level count at miss (stopped r z) more l p k = tt

mutual
  unfolding Right token_f

  pub token_right : (f : ℕ) (t : List ℕ) (level count at : ℕ) → 1 ≤ level → TokenRight t level count at (token_f f t level count at)
  token_right zero t level count at l = tt
  token_right (suc f) t level count at l =
      token_or_right t level count at (leaf_at t (ltb 1 level) at) (bracketed t at count (lists_f f t (level + 1) (count + 1) (skip t (at + 1)) (skip t (at + 1)))) (leaf_sound t (ltb 1 level) at)
      (bracketed_right t level count at (lists_f f t (level + 1) (count + 1) (skip t (at + 1)) (skip t (at + 1)))
      (λ h. lists_right_all f t (level + 1) (count + 1) (skip t (at + 1)) (skip t (at + 1)) (omega arith) (omega arith)))

  pub more_right_all : (f : ℕ) (t : List ℕ) (level count at : ℕ) → 1 ≤ level → count ≤ token_limit → MoreRight t level count at (more_f f t level count at)
  more_right_all zero t level count at l h = tt
  more_right_all (suc f) t level count at l h =
      more_right t level count at (token_f f t level count at) (λ c x. more_f f t level c x) h (token_right f t level count at l) (λ c e g. more_right_all f t level c e l g)

  pub list_right_all : (f : ℕ) (t : List ℕ) (level count at : ℕ) → 1 ≤ level → count ≤ token_limit → ListRight t level count at (list_f f t level count at)
  list_right_all zero t level count at l h = tt
  list_right_all (suc f) t level count at l h = list_right t level count at (more_f f t level count at) (more_right_all f t level count at l h)

  pub lists_right_all : (f : ℕ) (t : List ℕ) (level count at miss : ℕ) → 2 ≤ level → count ≤ token_limit → ListsRight t level count at (lists_f f t level count at miss)
  lists_right_all zero t level count at miss l h = tt
  lists_right_all (suc f) t level count at miss l h =
      lists_right t level count at miss (list_f f t level count at) (λ c x m. lists_f f t level c x m) l (list_right_all f t level count at (omega arith) h)
      (λ c e m g. lists_right_all f t level c e m l g)
