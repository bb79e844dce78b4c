-- A text spells one list of tokens at most, up to one offset, whatever its length, its levels and its count. Assumes nothing.
use mathlib.Core.Path.{◌≡◌, refl, sym, ap, ap₂, ◌∙◌, subst}
use mathlib.Core.Bool.{Bool, true, false}
use mathlib.Core.Logic.{◌⊎◌, inl, inr}
use mathlib.Core.List.{List, ◌∷◌, ◌++◌}
use Prim.Native.Char.{code}
use Prim.Native.Nat.{ℕ, ◌+◌}
use native.Mathlib.Omega.{arith}
use lib.ListN.{length, drop}
use Rattle.def_meaning.specs.Tokens.{Token, Tokens, Lists, Byte, NotByte, MaskedByte, NotMaskedByte, Jump, Alternatives, nothing, ◌then◌, neither, ◌or◌}
use Rattle.def_reading.specs.Blanks.{here, skip}
use Rattle.def_reading.proofs.PieceLaws.{never}
use Rattle.def_grammar.proofs.Spelling.{◌⨾◌, NoBlank, Marked, SpellsToken, SpellsTokens, SpellsLists, SpellsRest, SpellsString, SpellsText}
use Rattle.def_grammar.proofs.Standing.{cut, here_is}
use Rattle.def_grammar.proofs.Fronts.{opens_clear, cons_clear, tokens_clear, marked_form, mark_seen}
use Rattle.def_grammar.proofs.PiecesSpelled.{Leaf, leaf_or}
use Rattle.def_grammar.proofs.PiecesRead.{leaf_found, leaf_absent}
use Rattle.def_grammar.proofs.ListsRead.{Closer, closer_high, no_digits, none_at, lists_clear, rest_form, rest_opens, outer_clear}

mark_front : (t : List ℕ) (at c : ℕ) (w a b r : List ℕ) → drop at t ≡ w ++ r → w ≡ a ++ b → Marked c a → here t at ≡ c
mark_front t at c w a b r h p m =
    let f = marked_form c a m in
    here_is t at c (f.0 ++ (b ++ r)) ((cut t at w a b r h p).0 ∙ ap (λ (s : List ℕ). s ++ (b ++ r)) f.1)

-- where alternatives stand, no other token does
bracket_front : (ls : Lists) (inside : Bool) (t : List ℕ) (at : ℕ) (w r : List ℕ) → drop at t ≡ w ++ r → SpellsToken inside (Alternatives ls) w → here t at ≡ code "("
unfolding SpellsToken ◌⨾◌
bracket_front ls inside t at w r h p = mark_front t at (code "(") w p.0 p.1 r h p.2 p.3

not_both : (ls : Lists) (inside : Bool) (t : List ℕ) (at : ℕ) (tok : Token) (w r w' r' : List ℕ) → drop at t ≡ w ++ r → SpellsToken inside (Alternatives ls) w
    → Leaf tok → drop at t ≡ w' ++ r' → NoBlank r' → SpellsToken inside tok w' → ⊥
not_both ls inside t at tok w r w' r' h p k h' q' p' =
    let a = leaf_absent t inside at (code "(") (bracket_front ls inside t at w r h p) no_digits.3 (omega arith) (omega arith) (omega arith) in
    let f = leaf_found t inside at tok w' r' k h' p' q' in
    never (cc (a, f.1))

-- nor does any where a list ends
no_token : (inside : Bool) (t : List ℕ) (at c : ℕ) (tok : Token) (w r : List ℕ) → here t at ≡ c → Closer c → drop at t ≡ w ++ r → NoBlank r → SpellsToken inside tok w → ⊥
no_token inside t at c tok w r e k h q p = go (leaf_or tok)
  where
    bracket : c ≡ code "(" → Closer c → ⊥
    bracket z (inl y) = omega arith
    bracket z (inr (inl y)) = omega arith
    bracket z (inr (inr y)) = omega arith

    go : Leaf tok ⊎ ((ls : Lists) × (tok ≡ Alternatives ls)) → ⊥
    go (inl l) = let f = leaf_found t inside at tok w r l h p q in never (cc (none_at t inside at c e k, f.1))
    go (inr x) = bracket (sym e ∙ bracket_front x.0 inside t at w r h (subst (λ (y : Token). SpellsToken inside y w) x.1 p)) k

mark_once : (t : List ℕ) (at c : ℕ) (w r w' r' : List ℕ) → drop at t ≡ w ++ r → NoBlank r → Marked c w → drop at t ≡ w' ++ r' → NoBlank r' → Marked c w' → length w ≡ length w'
mark_once t at c w r w' r' h q p h' q' p' =
    let a : skip t (at + 1) ≡ at + length w = (mark_seen t at c w r h p q).1 in
    let b : skip t (at + 1) ≡ at + length w' = (mark_seen t at c w' r' h' p' q').1 in
    omega arith

-- what is to be shown of a token, of tokens before what ends them, of lists, and of what follows a list in brackets: what else stands there
-- is the same, and as long
abbrev TokenOnce : Token → Type 0
TokenOnce tok =
    (inside : Bool) (t : List ℕ) (at : ℕ) (tok' : Token) (w r w' r' : List ℕ) → drop at t ≡ w ++ r → NoBlank r → SpellsToken inside tok w
    → drop at t ≡ w' ++ r' → NoBlank r' → SpellsToken inside tok' w' → (tok ≡ tok') × (length w ≡ length w')

abbrev MoreOnce : Tokens → Type 0
MoreOnce ts =
    (inside : Bool) (t : List ℕ) (at : ℕ) (ts' : Tokens) (w : List ℕ) (c : ℕ) (r w' : List ℕ) (c' : ℕ) (r' : List ℕ) → drop at t ≡ w ++ (c ∷ r) → Closer c → SpellsTokens inside ts w
    → drop at t ≡ w' ++ (c' ∷ r') → Closer c' → SpellsTokens inside ts' w' → (ts ≡ ts') × (length w ≡ length w')

abbrev ListsOnce : Lists → Type 0
ListsOnce ls =
    (t : List ℕ) (at : ℕ) (ls' : Lists) (w r w' r' : List ℕ) → drop at t ≡ w ++ r → NoBlank r → SpellsLists ls w → drop at t ≡ w' ++ r' → NoBlank r' → SpellsLists ls' w'
    → (ls ≡ ls') × (length w ≡ length w')

abbrev RestOnce : Lists → Type 0
RestOnce ls =
    (t : List ℕ) (at : ℕ) (ls' : Lists) (w r w' r' : List ℕ) → drop at t ≡ w ++ r → NoBlank r → SpellsRest ls w → drop at t ≡ w' ++ r' → NoBlank r' → SpellsRest ls' w'
    → (ls ≡ ls') × (length w ≡ length w')

leaf_once : (tok : Token) → Leaf tok → TokenOnce tok
leaf_once tok k inside t at tok' w r w' r' h q p h' q' p' = go (leaf_or tok')
  where
    go : Leaf tok' ⊎ ((ls : Lists) × (tok' ≡ Alternatives ls)) → (tok ≡ tok') × (length w ≡ length w')
    go (inl l) =
        let f = leaf_found t inside at tok w r k h p q in
        let g = leaf_found t inside at tok' w' r' l h' p' q' in
        let e : at + length w ≡ at + length w' = cc (f.1, g.1) in
        (cc (f.1, g.1), omega arith)
    go (inr x) = absurd (not_both x.0 inside t at tok w' r' w r h' (subst (λ (y : Token). SpellsToken inside y w') x.1 p') k h q p)

alternatives_same : (ls : Lists) → ListsOnce ls → (inside : Bool) (t : List ℕ) (at : ℕ) (ls' : Lists) (w r w' r' : List ℕ) → drop at t ≡ w ++ r → NoBlank r
    → SpellsToken inside (Alternatives ls) w → drop at t ≡ w' ++ r' → NoBlank r' → SpellsToken inside (Alternatives ls') w' → (ls ≡ ls') × (length w ≡ length w')
unfolding SpellsToken ◌⨾◌
alternatives_same ls k inside t at ls' w r w' r' h q p h' q' p' =
    let c = cut t at w p.0 p.1 r h p.2 in
    let c' = cut t at w' p'.0 p'.1 r' h' p'.2 in
    let e : length p.0 ≡ length p'.0 =
    mark_once t at (code "(") p.0 (p.1 ++ r) p'.0 (p'.1 ++ r') c.0 (lists_clear ls p.1 r p.4) p.3 c'.0 (lists_clear ls' p'.1 r' p'.4) p'.3 in
    let d : drop (at + length p.0) t ≡ p'.1 ++ r' = ap (λ (n : ℕ). drop (at + n) t) e ∙ c'.1 in
    let x = k t (at + length p.0) ls' p.1 r p'.1 r' c.1 q p.4 d q' p'.4 in
    let i : length w ≡ length p.0 + length p.1 = c.2 in
    let j : length w' ≡ length p'.0 + length p'.1 = c'.2 in
    let l : length p.1 ≡ length p'.1 = x.1 in
    (x.0, omega arith)

alternatives_once : (ls : Lists) → ListsOnce ls → TokenOnce (Alternatives ls)
alternatives_once ls k inside t at tok' w r w' r' h q p h' q' p' = go (leaf_or tok')
  where
    go : Leaf tok' ⊎ ((ls' : Lists) × (tok' ≡ Alternatives ls')) → (Alternatives ls ≡ tok') × (length w ≡ length w')
    go (inl l) = absurd (not_both ls inside t at tok' w r w' r' h p l h' q' p')
    go (inr x) =
        let y = alternatives_same ls k inside t at x.0 w r w' r' h q p h' q' (subst (λ (z : Token). SpellsToken inside z w') x.1 p') in
        (ap Alternatives y.0 ∙ sym x.1, y.1)

end_once : MoreOnce nothing
unfolding SpellsTokens ◌⨾◌
end_once inside t at nothing w c r w' c' r' h k p h' k' p' = (refl, ap (λ (s : List ℕ). length s) (p ∙ sym p'))
end_once inside t at (tok then ts) w c r w' c' r' h k p h' k' p' =
    let e : here t at ≡ c = here_is t at c r (h ∙ ap (λ (s : List ℕ). s ++ (c ∷ r)) p) in
    let d = cut t at w' p'.0 p'.1 (c' ∷ r') h' p'.2 in
    absurd (no_token inside t at c tok p'.0 (p'.1 ++ (c' ∷ r')) e k d.0 (tokens_clear inside ts p'.1 (c' ∷ r') p'.4 (cons_clear c' r' (closer_high c' k'))) p'.3)

then_once : (tok : Token) (ts : Tokens) → TokenOnce tok → MoreOnce ts → MoreOnce (tok then ts)
unfolding SpellsTokens ◌⨾◌
then_once tok ts x y inside t at nothing w c r w' c' r' h k p h' k' p' =
    let e : here t at ≡ c' = here_is t at c' r' (h' ∙ ap (λ (s : List ℕ). s ++ (c' ∷ r')) p') in
    let d = cut t at w p.0 p.1 (c ∷ r) h p.2 in
    absurd (no_token inside t at c' tok p.0 (p.1 ++ (c ∷ r)) e k' d.0 (tokens_clear inside ts p.1 (c ∷ r) p.4 (cons_clear c r (closer_high c k))) p.3)
then_once tok ts x y inside t at (tok' then ts') w c r w' c' r' h k p h' k' p' =
    let d = cut t at w p.0 p.1 (c ∷ r) h p.2 in
    let d' = cut t at w' p'.0 p'.1 (c' ∷ r') h' p'.2 in
    let f = x inside t at tok' p.0 (p.1 ++ (c ∷ r)) p'.0 (p'.1 ++ (c' ∷ r')) d.0 (tokens_clear inside ts p.1 (c ∷ r) p.4 (cons_clear c r (closer_high c k))) p.3 d'.0
    (tokens_clear inside ts' p'.1 (c' ∷ r') p'.4 (cons_clear c' r' (closer_high c' k'))) p'.3 in
    let e : length p.0 ≡ length p'.0 = f.1 in
    let g = y inside t (at + length p.0) ts' p.1 c r p'.1 c' r' d.1 k p.4 (ap (λ (n : ℕ). drop (at + n) t) e ∙ d'.1) k' p'.4 in
    let l : length p.1 ≡ length p'.1 = g.1 in
    let i : length w ≡ length p.0 + length p.1 = d.2 in
    let j : length w' ≡ length p'.0 + length p'.1 = d'.2 in
    (ap₂ (λ (a : Token) (b : Tokens). a then b) f.0 g.0, omega arith)

both_once : (ts : Tokens) (ls : Lists) → MoreOnce ts → RestOnce ls → (t : List ℕ) (at : ℕ) (ts' : Tokens) (ls' : Lists) (w r w' r' : List ℕ) → drop at t ≡ w ++ r → NoBlank r
    → ((λ a. SpellsTokens true ts a) ⨾ (λ b. SpellsRest ls b)) w → drop at t ≡ w' ++ r' → NoBlank r' → ((λ a. SpellsTokens true ts' a) ⨾ (λ b. SpellsRest ls' b)) w'
    → (ts or ls ≡ ts' or ls') × (length w ≡ length w')
unfolding ◌⨾◌
both_once ts ls x y t at ts' ls' w r w' r' h q p h' q' p' =
    let d = cut t at w p.0 p.1 r h p.2 in
    let d' = cut t at w' p'.0 p'.1 r' h' p'.2 in
    let m = rest_form ls p.1 p.4 in
    let m' = rest_form ls' p'.1 p'.4 in
    let f = x true t at ts' p.0 m.0 (m.1 ++ r) p'.0 m'.0 (m'.1 ++ r') (d.0 ∙ ap (λ (k : List ℕ). p.0 ++ (k ++ r)) m.2) m.3 p.3
    (d'.0 ∙ ap (λ (k : List ℕ). p'.0 ++ (k ++ r')) m'.2) m'.3 p'.3 in
    let e : length p.0 ≡ length p'.0 = f.1 in
    let g = y t (at + length p.0) ls' p.1 r p'.1 r' d.1 q p.4 (ap (λ (n : ℕ). drop (at + n) t) e ∙ d'.1) q' p'.4 in
    let l : length p.1 ≡ length p'.1 = g.1 in
    let i : length w ≡ length p.0 + length p.1 = d.2 in
    let j : length w' ≡ length p'.0 + length p'.1 = d'.2 in
    (ap₂ (λ (a : Tokens) (b : Lists). a or b) f.0 g.0, omega arith)

-- a list in brackets and what follows it hold no blank at their front
both_clear : (ts : Tokens) (ls : Lists) (w r : List ℕ) → ((λ a. SpellsTokens true ts a) ⨾ (λ b. SpellsRest ls b)) w → NoBlank (w ++ r)
unfolding ◌⨾◌
both_clear ts ls w r p =
    subst NoBlank (sym (cut (w ++ r) 0 w p.0 p.1 r refl p.2).0) (tokens_clear true ts p.0 (p.1 ++ r) p.3 (opens_clear p.1 r (rest_opens ls p.1 p.4)))

no_once : ListsOnce neither
unfolding SpellsLists
no_once t at ls' w r w' r' h q p h' q' p' = absurd p

lists_once : (ts : Tokens) (ls : Lists) → MoreOnce ts → RestOnce ls → ListsOnce (ts or ls)
unfolding SpellsLists
lists_once ts ls x y t at neither w r w' r' h q p h' q' p' = absurd p'
lists_once ts ls x y t at (ts' or ls') w r w' r' h q p h' q' p' = both_once ts ls x y t at ts' ls' w r w' r' h q p.1 h' q' p'.1

last_once : RestOnce neither
unfolding SpellsRest ◌⨾◌
last_once t at neither w r w' r' h q p h' q' p' = (refl, mark_once t at (code ")") w r w' r' h q p h' q' p')
last_once t at (ts or ls) w r w' r' h q p h' q' p' =
    let a : here t at ≡ code ")" = (mark_seen t at (code ")") w r h p q).0 in
    let b : here t at ≡ code "|" = mark_front t at (code "|") w' p'.1.0 p'.1.1 r' h' p'.1.2 p'.1.3 in
    absurd (omega arith)

next_once : (ts : Tokens) (ls : Lists) → MoreOnce ts → RestOnce ls → RestOnce (ts or ls)
unfolding SpellsRest ◌⨾◌
next_once ts ls x y t at neither w r w' r' h q p h' q' p' =
    let a : here t at ≡ code ")" = (mark_seen t at (code ")") w' r' h' p' q').0 in
    let b : here t at ≡ code "|" = mark_front t at (code "|") w p.1.0 p.1.1 r h p.1.2 p.1.3 in
    absurd (omega arith)
next_once ts ls x y t at (ts' or ls') w r w' r' h q p h' q' p' =
    let u = p.1 in
    let u' = p'.1 in
    let d = cut t at w u.0 u.1 r h u.2 in
    let d' = cut t at w' u'.0 u'.1 r' h' u'.2 in
    let e : length u.0 ≡ length u'.0 =
    mark_once t at (code "|") u.0 (u.1 ++ r) u'.0 (u'.1 ++ r') d.0 (both_clear ts ls u.1 r u.4) u.3 d'.0 (both_clear ts' ls' u'.1 r' u'.4) u'.3 in
    let g = both_once ts ls x y t (at + length u.0) ts' ls' u.1 r u'.1 r' d.1 q u.4 (ap (λ (n : ℕ). drop (at + n) t) e ∙ d'.1) q' u'.4 in
    let l : length u.1 ≡ length u'.1 = g.1 in
    let i : length w ≡ length u.0 + length u.1 = d.2 in
    let j : length w' ≡ length u'.0 + length u'.1 = d'.2 in
    (g.0, omega arith)

mutual
  unfolding Leaf

  token_is_one : (tok : Token) → TokenOnce tok
  token_is_one (Byte v) = leaf_once (Byte v) tt
  token_is_one (NotByte v) = leaf_once (NotByte v) tt
  token_is_one (MaskedByte v m) = leaf_once (MaskedByte v m) tt
  token_is_one (NotMaskedByte v m) = leaf_once (NotMaskedByte v m) tt
  token_is_one (Jump from to) = leaf_once (Jump from to) tt
  token_is_one (Alternatives ls) = alternatives_once ls (lists_are_one ls)

  more_is_one : (ts : Tokens) → MoreOnce ts
  more_is_one nothing = end_once
  more_is_one (tok then ts) = then_once tok ts (token_is_one tok) (more_is_one ts)

  lists_are_one : (ls : Lists) → ListsOnce ls
  lists_are_one neither = no_once
  lists_are_one (ts or ls) = lists_once ts ls (more_is_one ts) (rest_is_one ls)

  rest_is_one : (ls : Lists) → RestOnce ls
  rest_is_one neither = last_once
  rest_is_one (ts or ls) = next_once ts ls (more_is_one ts) (rest_is_one ls)

string_once : (t : List ℕ) (ts ts' : Tokens) (w r w' r' : List ℕ) → drop 0 t ≡ w ++ r → NoBlank r → SpellsString ts w → drop 0 t ≡ w' ++ r' → NoBlank r' → SpellsString ts' w'
    → (ts ≡ ts') × (length w ≡ length w')
unfolding SpellsString ◌⨾◌
string_once t ts ts' w r w' r' h q p h' q' p' =
    let u = p.4 in
    let u' = p'.4 in
    let c = cut t 0 w p.0 p.1 r h p.2 in
    let c' = cut t 0 w' p'.0 p'.1 r' h' p'.2 in
    let e : length p.0 ≡ length p'.0 =
    mark_once t 0 (code "{") p.0 (p.1 ++ r) p'.0 (p'.1 ++ r') c.0 (outer_clear ts p.1 r u) p.3 c'.0 (outer_clear ts' p'.1 r' u') p'.3 in
    let x = 0 + length p.0 in
    let d = cut t x p.1 u.0 u.1 r c.1 u.2 in
    let d' = cut t x p'.1 u'.0 u'.1 r' (ap (λ (n : ℕ). drop (0 + n) t) e ∙ c'.1) u'.2 in
    let f = marked_form (code "}") u.1 u.4 in
    let f' = marked_form (code "}") u'.1 u'.4 in
    let g = more_is_one ts false t x ts' u.0 (code "}") (f.0 ++ r) u'.0 (code "}") (f'.0 ++ r') (d.0 ∙ ap (λ (s : List ℕ). u.0 ++ (s ++ r)) f.1) (inr (inr refl)) u.3.1
    (d'.0 ∙ ap (λ (s : List ℕ). u'.0 ++ (s ++ r')) f'.1) (inr (inr refl)) u'.3.1 in
    let l : length u.0 ≡ length u'.0 = g.1 in
    let k : length u.1 ≡ length u'.1 =
    mark_once t (x + length u.0) (code "}") u.1 r u'.1 r' d.1 q u.4 (ap (λ (n : ℕ). drop (x + n) t) l ∙ d'.1) q' u'.4 in
    let i : length w ≡ length p.0 + length p.1 = c.2 in
    let i' : length w' ≡ length p'.0 + length p'.1 = c'.2 in
    let j : length p.1 ≡ length u.0 + length u.1 = d.2 in
    let j' : length p'.1 ≡ length u'.0 + length u'.1 = d'.2 in
    (g.0, omega arith)

-- a text spells one list of tokens at most, up to one offset
pub spelled_once : (t : List ℕ) (e e' : ℕ) (ts ts' : Tokens) → SpellsText t e ts → SpellsText t e' ts' → (e ≡ e') × (ts ≡ ts')
unfolding SpellsText
spelled_once t e e' ts ts' p p' =
    let x = string_once t ts ts' p.0 p.1 p'.0 p'.1 p.2 p.4 p.3 p'.2 p'.4 p'.3 in
    (p.5 ∙ x.1 ∙ sym p'.5, x.0)
