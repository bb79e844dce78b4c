-- What the grammar spells within the limits the readers of tokens and lists read. Assumes nothing.
use mathlib.Core.Path.{◌≡◌, refl, sym, ap, ap₂, ◌∙◌, subst}
use mathlib.Core.Bool.{Bool, true, false}
use mathlib.Core.Logic.{◌⊎◌, inl, inr}
use mathlib.Core.Option.{none}
use mathlib.Core.List.{List, ◌∷◌, ◌++◌}
use Prim.Native.Char.{code}
use Prim.Native.Nat.{ℕ, suc, ◌+◌, ◌<◌, ◌≤◌}
use native.Mathlib.Omega.{arith}
use borrow.Author.Tests.{lt-ltb}
use lib.Dec.{ltb}
use lib.ListN.{length, drop}
use Rattle.def_meaning.specs.Limits.{token_limit, level_limit}
use Rattle.def_meaning.specs.Tokens.{Token, Tokens, Lists, Byte, NotByte, MaskedByte, NotMaskedByte, Jump, Alternatives, nothing, ◌then◌, neither, ◌or◌, total_in, total, totals}
use Rattle.def_reading.specs.Blanks.{here, skip}
use Rattle.def_reading.specs.Pieces.{found, absent, within, digit, leaf_at}
use Rattle.def_reading.specs.Lists.{Parsed, read, missing, token_or, as_token, bracketed, before, list_of, beside, token, more, list, lists}
use Rattle.def_reading.proofs.ListSteps.{token_step, more_read, more_none, list_of_lem, lists_closed, lists_barred}
use Rattle.def_grammar.proofs.Spelling.{◌⨾◌, NoBlank, Bounded, SpellsToken, SpellsTokens, SpellsLists, SpellsRest, SpellsList, Marked, depth_in, depth, depths}
use Rattle.def_grammar.proofs.Standing.{after, cut, here_is}
use Rattle.def_grammar.proofs.Fronts.{Opens, opens_clear, opens_seq, cons_clear, mark_opens, token_opens, tokens_clear, marked_form, mark_seen}
use Rattle.def_grammar.proofs.PiecesSpelled.{Leaf}
use Rattle.def_grammar.proofs.PiecesRead.{leaf_found, leaf_absent}
use Rattle.def_grammar.proofs.ListsSpelled.{leaf_one}
use Rattle.def_grammar.proofs.BoundLaws.{is_bounded}

-- what ends a list: `)`, `|`, `}`
abbrev pub Closer : ℕ → Type 0
Closer c = (c ≡ code ")") ⊎ ((c ≡ code "|") ⊎ (c ≡ code "}"))

pub closer_high : (c : ℕ) → Closer c → code " " < c
closer_high c (inl e) = omega arith
closer_high c (inr (inl e)) = omega arith
closer_high c (inr (inr e)) = omega arith

pub no_digits : (digit (code ")") ≡ none) × (digit (code "|") ≡ none) × (digit (code "}") ≡ none) × (digit (code "(") ≡ none)
unfolding digit within
no_digits = (refl, refl, refl, refl)

pub none_at : (t : List ℕ) (inside : Bool) (at c : ℕ) → here t at ≡ c → Closer c → leaf_at t inside at ≡ absent
none_at t inside at c h (inl e) = leaf_absent t inside at (code ")") (h ∙ e) no_digits.0 (omega arith) (omega arith) (omega arith)
none_at t inside at c h (inr (inl e)) = leaf_absent t inside at (code "|") (h ∙ e) no_digits.1 (omega arith) (omega arith) (omega arith)
none_at t inside at c h (inr (inr e)) = leaf_absent t inside at (code "}") (h ∙ e) no_digits.2 (omega arith) (omega arith) (omega arith)

no_bracket : (t : List ℕ) (at count c : ℕ) (ls : Parsed Lists) → here t at ≡ c → Closer c → bracketed t at count ls ≡ missing
unfolding bracketed
no_bracket t at count c ls h (inl e) = rw (h, e) refl
no_bracket t at count c ls h (inr (inl e)) = rw (h, e) refl
no_bracket t at count c ls h (inr (inr e)) = rw (h, e) refl

-- no token begins with them
token_missing : (t : List ℕ) (level count at c : ℕ) → here t at ≡ c → Closer c → token t level count at ≡ missing
unfolding token_or
token_missing t level count at c h k =
    token_step t level count at
    ∙ rw (none_at t (ltb 1 level) at c h k) (no_bracket t at count c (lists t (level + 1) (count + 1) (skip t (at + 1)) (skip t (at + 1))) h k)

-- a token other than alternatives
pub token_found : (t : List ℕ) (level count at : ℕ) (tok : Token) (s e : ℕ) → leaf_at t (ltb 1 level) at ≡ found tok s e → count < token_limit → token t level count at ≡ read tok e (count + 1)
unfolding token_or
token_found t level count at tok s e h l = token_step t level count at ∙ rw (h, lt-ltb count token_limit l) refl

-- alternatives
token_bracketed : (t : List ℕ) (level count at x : ℕ) (ls : Lists) (e c : ℕ) → here t at ≡ code "(" → skip t (at + 1) ≡ x → count < token_limit
    → lists t (level + 1) (count + 1) x x ≡ read ls e c → token t level count at ≡ read (Alternatives ls) e c
unfolding token_or bracketed as_token
token_bracketed t level count at x ls e c h s l k =
    token_step t level count at
    ∙ rw (leaf_absent t (ltb 1 level) at (code "(") h no_digits.3 (omega arith) (omega arith) (omega arith), h, s, lt-ltb count token_limit l, k) refl

-- a list
pub list_bounded : (t : List ℕ) (level count at : ℕ) (ts : Tokens) (e c : ℕ) → level ≤ level_limit → Bounded ts → more t level count at ≡ read ts e c → list t level count at ≡ read ts e c
unfolding list_of Bounded
list_bounded t level count at nothing e c l b h = absurd b
list_bounded t level count at (tok then ts) e c l b h = list_of_lem t level count at l ∙ rw (h, is_bounded tok ts b) refl

pub depth_some : (ts : Tokens) → 1 ≤ depth ts
unfolding depth
depth_some nothing = omega arith
depth_some (tok then ts) = omega arith

-- what follows a list begins with what ends it
pub rest_form : (ls : Lists) (w : List ℕ) → SpellsRest ls w → (c : ℕ) × (u : List ℕ) × (w ≡ c ∷ u) × Closer c
unfolding SpellsRest ◌⨾◌
rest_form neither w p = let f = marked_form (code ")") w p in (code ")", f.0, f.1, inl refl)
rest_form (ts or ls) w p =
    let q = p.1 in
    let f = marked_form (code "|") q.0 q.3 in
    (code "|", f.0 ++ q.1, q.2 ∙ ap (λ (s : List ℕ). s ++ q.1) f.1, inr (inl refl))

pub rest_opens : (ls : Lists) (w : List ℕ) → SpellsRest ls w → Opens w
rest_opens ls w p = let f = rest_form ls w p in (f.0, f.1, f.2, closer_high f.0 f.3)

-- what is to be shown of a token, of tokens that no token follows, of lists, and of what follows a list in brackets:
-- with levels left and tokens to spare, it is read whole
abbrev pub TokenRead : Token → Type 0
TokenRead tok =
    (t : List ℕ) (level count at : ℕ) (w r : List ℕ) → drop at t ≡ w ++ r → NoBlank r → SpellsToken (ltb 1 level) tok w → 1 ≤ level → level + depth_in tok ≤ level_limit
    → count + total_in tok ≤ token_limit → token t level count at ≡ read tok (at + length w) (count + total_in tok)

abbrev pub MoreRead : Tokens → Type 0
MoreRead ts =
    (t : List ℕ) (level count at : ℕ) (w r : List ℕ) → drop at t ≡ w ++ r → NoBlank r → token t level (count + total ts) (at + length w) ≡ missing → SpellsTokens (ltb 1 level) ts w
    → 1 ≤ level → level + depth ts ≤ suc level_limit → count + total ts ≤ token_limit → more t level count at ≡ read ts (at + length w) (count + total ts)

abbrev pub ListsRead : Lists → Type 0
ListsRead ls =
    (t : List ℕ) (level count at miss : ℕ) (w r : List ℕ) → drop at t ≡ w ++ r → NoBlank r → SpellsLists ls w → 2 ≤ level → level + depths ls ≤ suc level_limit
    → count + totals ls ≤ token_limit → lists t level count at miss ≡ read ls (at + length w) (count + totals ls)

abbrev pub RestRead : Lists → Type 0
RestRead ls =
    (t : List ℕ) (level count at miss : ℕ) (ts : Tokens) (x n : ℕ) (w r : List ℕ) → list t level count at ≡ read ts x n → drop x t ≡ w ++ r → NoBlank r → SpellsRest ls w
    → 2 ≤ level → level + depths ls ≤ suc level_limit → n + totals ls ≤ token_limit → lists t level count at miss ≡ read (ts or ls) (x + length w) (n + totals ls)

leaf_read : (tok : Token) → Leaf tok → TokenRead tok
leaf_read tok k t level count at w r h q p l d n =
    let x = leaf_found t (ltb 1 level) at tok w r k h p q in
    let o = leaf_one tok k in
    let e : count + 1 ≡ count + total_in tok = omega arith in
    token_found t level count at tok x.0 (at + length w) x.1 (omega arith) ∙ ap (λ (m : ℕ). read tok (at + length w) m) e

pub lists_clear : (ls : Lists) (w r : List ℕ) → SpellsLists ls w → NoBlank (w ++ r)
unfolding SpellsLists ◌⨾◌ Bounded SpellsTokens
lists_clear neither w r p = absurd p
lists_clear (nothing or ls) w r p = absurd p.0
lists_clear ((tok then ts) or ls) w r p =
    let q = p.1 in
    let x = q.3 in
    opens_clear w r (opens_seq w q.0 q.1 q.2 (opens_seq q.0 x.0 x.1 x.2 (token_opens true tok x.0 x.3)))

alternatives_read : (ls : Lists) → ListsRead ls → TokenRead (Alternatives ls)
unfolding SpellsToken ◌⨾◌ total_in depth_in
alternatives_read ls k t level count at w r h q p l d n =
    let a = p.0 in
    let b = p.1 in
    let c = cut t at w a b r h p.2 in
    let m = mark_seen t at (code "(") a (b ++ r) c.0 p.3 (lists_clear ls b r p.4) in
    let v : length w ≡ length a + length b = c.2 in
    let e : at + length a + length b ≡ at + length w = omega arith in
    let y : count + 1 + totals ls ≡ count + suc (totals ls) = omega arith in
    token_bracketed t level count at (at + length a) ls (at + length a + length b) (count + 1 + totals ls) m.0 m.1 (omega arith)
    (k t (level + 1) (count + 1) (at + length a) (at + length a) b r c.1 q p.4 (omega arith) (omega arith) (omega arith))
    ∙ ap₂ (λ (x z : ℕ). read (Alternatives ls) x z) e y

end_read : MoreRead nothing
unfolding SpellsTokens total
end_read t level count at w r h q k p l d n =
    let j : length w ≡ 0 = ap (λ (s : List ℕ). length s) p in
    let e : at ≡ at + length w = omega arith in
    let y : count ≡ count + 0 = omega arith in
    more_none t level count at (ap₂ (λ (c x : ℕ). token t level c x) y e ∙ k) ∙ ap₂ (λ (x z : ℕ). read nothing x z) e y

then_read : (tok : Token) (ts : Tokens) → TokenRead tok → MoreRead ts → MoreRead (tok then ts)
unfolding SpellsTokens ◌⨾◌ total depth before
then_read tok ts x y t level count at w r h q k p l d n =
    let a = p.0 in
    let b = p.1 in
    let s = cut t at w a b r h p.2 in
    let v : length w ≡ length a + length b = s.2 in
    let e : at + length a + length b ≡ at + length w = omega arith in
    let z : count + total_in tok + total ts ≡ count + (total_in tok + total ts) = omega arith in
    let clear : NoBlank (b ++ r) = tokens_clear (ltb 1 level) ts b r p.4 q in
    more_read t level count at (x t level count at a (b ++ r) s.0 clear p.3 l (omega arith) (omega arith))
    ∙ ap (before tok)
    (y t level (count + total_in tok) (at + length a) b r s.1 q (ap₂ (λ (c u : ℕ). token t level c u) z e ∙ k) p.4 l (omega arith) (omega arith))
    ∙ ap₂ (λ (u q : ℕ). read (tok then ts) u q) e z

-- a list before what ends it
list_read : (ts : Tokens) → MoreRead ts → (t : List ℕ) (level count at : ℕ) (w : List ℕ) (c : ℕ) (r : List ℕ) → drop at t ≡ w ++ (c ∷ r) → Closer c → SpellsTokens (ltb 1 level) ts w
    → Bounded ts → 1 ≤ level → level + depth ts ≤ suc level_limit → count + total ts ≤ token_limit → list t level count at ≡ read ts (at + length w) (count + total ts)
list_read ts x t level count at w c r h k p b l d n =
    let i : 1 ≤ depth ts = depth_some ts in
    let m : token t level (count + total ts) (at + length w) ≡ missing =
    token_missing t level (count + total ts) (at + length w) c (here_is t (at + length w) c r (after t at w (c ∷ r) h)) k in
    list_bounded t level count at ts (at + length w) (count + total ts) (omega arith) b (x t level count at w (c ∷ r) h (cons_clear c r (closer_high c k)) m p l d n)

-- a list in brackets and what follows it
both_read : (ts : Tokens) (ls : Lists) → MoreRead ts → RestRead ls → (t : List ℕ) (level count at miss : ℕ) (w r : List ℕ) → drop at t ≡ w ++ r → NoBlank r → Bounded ts
    → ((λ a. SpellsTokens true ts a) ⨾ (λ b. SpellsRest ls b)) w → 2 ≤ level → level + depths (ts or ls) ≤ suc level_limit → count + totals (ts or ls) ≤ token_limit
    → lists t level count at miss ≡ read (ts or ls) (at + length w) (count + totals (ts or ls))
unfolding ◌⨾◌ totals depths
both_read ts ls x y t level count at miss w r h q b p l d n =
    let a = p.0 in
    let u = p.1 in
    let s = cut t at w a u r h p.2 in
    let m = rest_form ls u p.4 in
    let v : length w ≡ length a + length u = s.2 in
    let e : at + length a + length u ≡ at + length w = omega arith in
    let z : count + total ts + totals ls ≡ count + (total ts + totals ls) = omega arith in
    let o : SpellsTokens (ltb 1 level) ts a = subst (λ (k : Bool). SpellsTokens k ts a) (sym (lt-ltb 1 level l)) p.3 in
    let f : list t level count at ≡ read ts (at + length a) (count + total ts) =
    list_read ts x t level count at a m.0 (m.1 ++ r) (s.0 ∙ ap (λ (k : List ℕ). a ++ (k ++ r)) m.2) m.3 o b (omega arith) (omega arith) (omega arith) in
    y t level count at miss ts (at + length a) (count + total ts) u r f s.1 q p.4 l (omega arith) (omega arith) ∙ ap₂ (λ (k j : ℕ). read (ts or ls) k j) e z

last_read : RestRead neither
unfolding SpellsRest totals
last_read t level count at miss ts x n w r f h q p l d g =
    let m = mark_seen t x (code ")") w r h p q in
    let y : n ≡ n + 0 = omega arith in
    lists_closed t level count at miss f m.0 ∙ ap₂ (λ (e k : ℕ). read (ts or neither) e k) m.1 y

next_read : (us : Tokens) (ls : Lists) → MoreRead us → RestRead ls → RestRead (us or ls)
unfolding SpellsRest ◌⨾◌ beside
next_read us ls i j t level count at miss ts x n w r f h q p l d g =
    let a = p.1.0 in
    let u = p.1.1 in
    let v = p.1.4 in
    let s = cut t x w a u r h p.1.2 in
    let c = cut t (x + length a) u v.0 v.1 r s.1 v.2 in
    let clear : NoBlank (v.0 ++ (v.1 ++ r)) = tokens_clear true us v.0 (v.1 ++ r) v.3 (opens_clear v.1 r (rest_opens ls v.1 v.4)) in
    let m = mark_seen t x (code "|") a (u ++ r) s.0 p.1.3 (subst NoBlank (sym c.0 ∙ s.1) clear) in
    let k : length w ≡ length a + length u = s.2 in
    let e : x + length a + length u ≡ x + length w = omega arith in
    lists_barred t level count at miss f m.0 ∙ ap (λ (z : ℕ). beside ts (lists t level n z x)) m.1
    ∙ ap (beside ts) (both_read us ls i j t level n (x + length a) x u r s.1 q p.0 v l d g) ∙ ap (λ (z : ℕ). read (ts or (us or ls)) z (n + totals (us or ls))) e

no_lists : ListsRead neither
unfolding SpellsLists
no_lists t level count at miss w r h q p l d n = absurd p

lists_read : (ts : Tokens) (ls : Lists) → MoreRead ts → RestRead ls → ListsRead (ts or ls)
unfolding SpellsLists
lists_read ts ls x y t level count at miss w r h q p l d n = both_read ts ls x y t level count at miss w r h q p.0 p.1 l d n

mutual
  unfolding Leaf

  pub token_is_read : (tok : Token) → TokenRead tok
  token_is_read (Byte v) = leaf_read (Byte v) tt
  token_is_read (NotByte v) = leaf_read (NotByte v) tt
  token_is_read (MaskedByte v m) = leaf_read (MaskedByte v m) tt
  token_is_read (NotMaskedByte v m) = leaf_read (NotMaskedByte v m) tt
  token_is_read (Jump from to) = leaf_read (Jump from to) tt
  token_is_read (Alternatives ls) = alternatives_read ls (lists_are_read ls)

  pub more_is_read : (ts : Tokens) → MoreRead ts
  more_is_read nothing = end_read
  more_is_read (tok then ts) = then_read tok ts (token_is_read tok) (more_is_read ts)

  lists_are_read : (ls : Lists) → ListsRead ls
  lists_are_read neither = no_lists
  lists_are_read (ts or ls) = lists_read ts ls (more_is_read ts) (rest_is_read ls)

  rest_is_read : (ls : Lists) → RestRead ls
  rest_is_read neither = last_read
  rest_is_read (ts or ls) = next_read ts ls (more_is_read ts) (rest_is_read ls)

-- the outer list, before its `}`
pub outer_clear : (ts : Tokens) (w r : List ℕ) → (SpellsList false ts ⨾ Marked (code "}")) w → NoBlank (w ++ r)
unfolding ◌⨾◌
outer_clear ts w r p =
    subst NoBlank (sym (cut (w ++ r) 0 w p.0 p.1 r refl p.2).0) (tokens_clear false ts p.0 (p.1 ++ r) p.3.1 (opens_clear p.1 r (mark_opens (code "}") p.1 (omega arith) p.4)))

pub outer_is_read : (ts : Tokens) (t : List ℕ) (at : ℕ) (w r : List ℕ) → drop at t ≡ w ++ (code "}" ∷ r) → SpellsTokens false ts w → Bounded ts → depth ts ≤ level_limit → total ts ≤ token_limit
    → list t 1 0 at ≡ read ts (at + length w) (0 + total ts)
outer_is_read ts t at w r h p b d n = list_read ts (more_is_read ts) t 1 0 at w (code "}") r h (inr (inr refl)) p b (omega arith) (omega arith) (omega arith)
