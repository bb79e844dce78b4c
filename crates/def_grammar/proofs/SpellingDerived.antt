-- What is spelled as Spelling.antt says, within the levels, is derived by the grammar's rules. Assumes nothing.
use mathlib.Core.Path.{◌≡◌, refl, sym, ap, ◌∙◌, subst, subst₂}
use mathlib.Core.Bool.{Bool, true, false}
use mathlib.Core.Logic.{◌⊎◌, inl, inr}
use mathlib.Core.Option.{Option, none, some}
use mathlib.Core.List.{List, [], ◌∷◌, ◌++◌, append_assoc, append-nil}
use Prim.Native.Char.{Char, code}
use Prim.Native.Nat.{ℕ, suc, ◌+◌, ◌-◌, ◌*◌, ◌^◌, ◌≤◌, ◌<◌}
use native.Mathlib.Nat.{pow-suc}
use native.Mathlib.Omega.{arith}
use borrow.Author.Tests.{ltb-false, lt-ltb, le-ltb}
use lib.Dec.{ltb}
use lib.ListN.{length}
use Rattle.def_meaning.specs.Limits.{level_limit}
use Rattle.def_meaning.specs.Tokens.{Mask, left, right, all, Token, Tokens, Lists, Byte, NotByte, MaskedByte, NotMaskedByte, Jump, Alternatives, nothing, ◌then◌, neither, ◌or◌}
use Rattle.def_grammar.specs.Grammar as rule
use Rattle.def_grammar.proofs.Spelling.{◌⨾◌, Blank, Blanks, NoBlank, Spaced, Sign, Marked, Digit, decimal, upper, lower, HexDigit, Whole, Masked, Decimals, value, Numeral, Number, From, To, Single, Dashed, Ordered, Bracketed, Bounds, Allowed, NotOne, AsJump, Negatable, NoJump, EndsWell, Bounded, SpellsToken, SpellsTokens, SpellsLists, SpellsRest, SpellsList, depth_in, depth, depths}
use Rattle.def_grammar.proofs.Fronts.{marked_form}
use Rattle.def_grammar.proofs.RulesSpell.{blank_spells}
use Rattle.def_grammar.proofs.ListsRead.{depth_some}

pub blank_derived : (c : ℕ) → Blank c → rule.Blank c
unfolding Blank
blank_derived c (inl e) = subst rule.Blank (sym e) rule.space
blank_derived c (inr (inl e)) = subst rule.Blank (sym e) rule.tab
blank_derived c (inr (inr (inl e))) = subst rule.Blank (sym e) rule.return
blank_derived c (inr (inr (inr e))) = subst rule.Blank (sym e) rule.feed

-- no blank in front
pub clear_spells : {r : List ℕ} → rule.Clear r → NoBlank r
unfolding NoBlank
clear_spells rule.end = tt
clear_spells (rule.other {c = c} h) = λ b. h (blank_derived c b)

pub clear_derived : (r : List ℕ) → NoBlank r → rule.Clear r
unfolding NoBlank
clear_derived [] n = rule.end
clear_derived (c ∷ r) n = rule.other (λ b. n (blank_spells b))

blanks_derived : (s : List ℕ) → Blanks s → rule.Blanks s
unfolding Blanks
blanks_derived [] p = rule.no_blank
blanks_derived (c ∷ s) p = rule.a_blank (blank_derived c p.0) (blanks_derived s p.1)

pub mark_derived : (c : Char) (s : List ℕ) → Marked (code c) s → rule.Mark c s
mark_derived c s p = let f = marked_form (code c) s p in subst (rule.Mark c) (sym f.1) (rule.mark (blanks_derived f.0 f.2))

digit_is : (v : ℕ) (c : ℕ) → Digit c v → rule.Digit v (c ∷ [])
digit_is v c (decimal l e) = subst (λ (x : ℕ). rule.Digit v (x ∷ [])) (sym e) (rule.decimal l)
digit_is v c (upper k l e) =
    let x : 10 + (v - 10) ≡ v = omega arith in
    let y : code "A" + (v - 10) ≡ c = sym e in
    subst₂ (λ (a b : ℕ). rule.Digit a (b ∷ [])) x y (rule.upper (omega arith))
digit_is v c (lower k l e) =
    let x : 10 + (v - 10) ≡ v = omega arith in
    let y : code "a" + (v - 10) ≡ c = sym e in
    subst₂ (λ (a b : ℕ). rule.Digit a (b ∷ [])) x y (rule.lower (omega arith))

digit_derived : (v : ℕ) (s : List ℕ) → HexDigit v s → rule.Digit v s
unfolding HexDigit
digit_derived v s p = subst (rule.Digit v) (sym p.1) (digit_is v p.0 p.2)

whole_derived : (v : ℕ) (s : List ℕ) → Spaced (Whole v) s → rule.Whole v s
unfolding Spaced Whole ◌⨾◌
whole_derived v s p =
    let w = p.3 in
    let q = w.3 in
    let e : s ≡ q.0 ++ (q.1 ++ p.1) = p.2 ∙ ap (λ (x : List ℕ). x ++ p.1) q.2 ∙ append_assoc q.0 q.1 p.1 in
    subst₂ rule.Whole (sym w.2) (sym e) (rule.whole (digit_derived w.0 q.0 q.3) (digit_derived w.1 q.1 q.4) (blanks_derived p.1 p.4))

-- a sign before a string and the blanks after it; a string before a sign and the blanks after that
sign_first : (c : ℕ) (s a b x y : List ℕ) → s ≡ a ++ b → a ≡ x ++ y → x ≡ c ∷ [] → s ≡ c ∷ (y ++ b)
sign_first c s a b x y h k e = h ∙ ap (λ (z : List ℕ). z ++ b) (k ∙ ap (λ (z : List ℕ). z ++ y) e)

sign_last : (c : ℕ) (s a b x y : List ℕ) → s ≡ a ++ b → a ≡ x ++ y → y ≡ c ∷ [] → s ≡ x ++ (c ∷ b)
sign_last c s a b x y h k e = h ∙ ap (λ (z : List ℕ). z ++ b) (k ∙ ap (λ (z : List ℕ). x ++ z) e) ∙ append_assoc x (c ∷ []) b

half_derived : (v : ℕ) (m : Mask) (s : List ℕ) → Negatable m → Spaced (Masked v m) s → rule.Half v m s
unfolding Spaced Masked ◌⨾◌ Sign Negatable
half_derived v left s n p =
    let q = p.3 in
    subst (rule.Half v left) (sym (sign_first (code "?") s p.0 p.1 q.0 q.1 p.2 q.2 q.3)) (rule.low (digit_derived v q.1 q.4) (blanks_derived p.1 p.4))
half_derived v right s n p =
    let q = p.3 in
    subst (rule.Half v right) (sym (sign_last (code "?") s p.0 p.1 q.0 q.1 p.2 q.2 q.4)) (rule.high (digit_derived v q.0 q.3) (rule.mark (blanks_derived p.1 p.4)))
half_derived v all s n p = absurd n

-- digits after those of a number
digits_after : (n : ℕ) (a s : List ℕ) → rule.Numeral n a → Decimals s → rule.Numeral (n * 10 ^ length s + value s) (a ++ s)
unfolding Decimals value
digits_after n a [] p q =
    let e : n ≡ n * 10 ^ 0 + 0 = omega arith in
    subst₂ rule.Numeral e (sym (append-nil a)) p
digits_after n a (c ∷ s) p q =
    let l : code "0" ≤ c = q.0 in
    let h : c ≤ code "9" = q.1 in
    let y : code "0" + (c - code "0") ≡ c = omega arith in
    let i = digits_after (10 * n + (c - code "0")) (a ++ (c ∷ [])) s (subst (λ (x : ℕ). rule.Numeral (10 * n + (c - code "0")) (a ++ (x ∷ []))) y (rule.digits p (omega arith))) q.2 in
    let k : 10 ^ suc (length s) ≡ 10 ^ length s * 10 = pow-suc 10 (length s) in
    let e : (10 * n + (c - code "0")) * 10 ^ length s + value s ≡ n * 10 ^ suc (length s) + ((c - code "0") * 10 ^ length s + value s) = rw k (omega arith) in
    subst₂ rule.Numeral e (append_assoc a (c ∷ []) s) i

pub numeral_derived : (s : List ℕ) → Decimals s → 0 < length s → rule.Numeral (value s) s
unfolding Decimals value
numeral_derived [] p h = let z : 0 < 0 = h in absurd (omega arith)
numeral_derived (c ∷ s) p h =
    let l : code "0" ≤ c = p.0 in
    let k : c ≤ code "9" = p.1 in
    let y : code "0" + (c - code "0") ≡ c = omega arith in
    digits_after (c - code "0") (c ∷ []) s (subst (λ (x : ℕ). rule.Numeral (c - code "0") (x ∷ [])) y (rule.digit (omega arith))) p.2

pub number_derived : (n : ℕ) (s : List ℕ) → Number n s → rule.Number n s
unfolding Number Numeral Spaced ◌⨾◌
number_derived n s p =
    let q = p.3 in
    subst (rule.Number n) (sym p.2) (rule.number (subst (λ (x : ℕ). rule.Numeral x p.0) (sym q.2) (numeral_derived p.0 q.0 q.1)) (blanks_derived p.1 p.4) q.3)

-- a string in parts, of which the second has parts in its turn
pub parts : (a : List ℕ) {s u v : List ℕ} → s ≡ a ++ u → u ≡ v → s ≡ a ++ v
parts a h k = h ∙ ap (λ (x : List ℕ). a ++ x) k

single_derived : (n : ℕ) (s : List ℕ) → Single n s → 0 < n → rule.Range n (some n) s
unfolding Single ◌⨾◌
single_derived n s p h =
    let q = p.4 in
    subst (rule.Range n (some n)) (sym (parts p.0 p.2 q.2)) (rule.exactly (mark_derived "[" p.0 p.3) (number_derived n q.0 q.3) (mark_derived "]" q.1 q.4) h)

dashed_of : (from : ℕ) (to : Option ℕ) (a b c d e s : List ℕ) → s ≡ a ++ (b ++ (c ++ (d ++ e))) → rule.Mark "[" a → From from b → rule.Mark "-" c → To to d → rule.Mark "]" e → Ordered from to
    → rule.Range from to s
unfolding From To Ordered
dashed_of from none a b c d e s h p (inl x) r y u o =
    subst (rule.Range from none) (sym (h ∙ ap (λ (z : List ℕ). a ++ (b ++ (c ++ (z ++ e)))) y)) (rule.at_least p (number_derived from b x) r u)
dashed_of from none a b c d e s h p (inr x) r y u o =
    let k : s ≡ a ++ (c ++ e) = h ∙ ap (λ (z : List ℕ). a ++ (z ++ (c ++ (d ++ e)))) x.1 ∙ ap (λ (z : List ℕ). a ++ (c ++ (z ++ e))) y in
    subst₂ (λ (n : ℕ) (z : List ℕ). rule.Range n none z) (sym x.0) (sym k) (rule.any_many p r u)
dashed_of from (some to) a b c d e s h p (inl x) r y u o =
    subst (rule.Range from (some to)) (sym h) (rule.between p (number_derived from b x) r (number_derived to d y) u o.0 o.1)
dashed_of from (some to) a b c d e s h p (inr x) r y u o =
    let k : s ≡ a ++ (c ++ (d ++ e)) = h ∙ ap (λ (z : List ℕ). a ++ (z ++ (c ++ (d ++ e)))) x.1 in
    subst₂ (λ (n : ℕ) (z : List ℕ). rule.Range n (some to) z) (sym x.0) (sym k) (rule.at_most p r (number_derived to d y) u o.1)

dashed_derived : (from : ℕ) (to : Option ℕ) (s : List ℕ) → Dashed from to s → Ordered from to → rule.Range from to s
unfolding Dashed ◌⨾◌
dashed_derived from to s p o =
    let q = p.4 in
    let r = q.4 in
    let u = r.4 in
    let e : s ≡ p.0 ++ (q.0 ++ (r.0 ++ (u.0 ++ u.1))) = parts p.0 p.2 (parts q.0 q.2 (parts r.0 r.2 u.2)) in
    dashed_of from to p.0 q.0 r.0 u.0 u.1 s e (mark_derived "[" p.0 p.3) q.3 (mark_derived "-" r.0 r.3) u.3 (mark_derived "]" u.1 u.4) o

range_derived : (from : ℕ) (to : Option ℕ) (s : List ℕ) → Bounds from to s → rule.Range from to s
unfolding Bounds Bracketed Ordered
range_derived from to s p = go to p.0 p.1
  where
    go : (to : Option ℕ) → Ordered from to → ((to ≡ some from) × Single from s) ⊎ Dashed from to s → rule.Range from to s
    go to o (inl q) = subst (λ (x : Option ℕ). rule.Range from x s) (sym q.0) (single_derived from s q.1 (subst (λ (x : Option ℕ). Ordered from x) q.0 o).1)
    go to o (inr q) = dashed_derived from to s q o

masked_derived : (level v : ℕ) (m : Mask) (s : List ℕ) → Spaced (Masked v m) s ⊎ AsJump v m s → rule.Solid level (MaskedByte v m) s
unfolding AsJump Negatable Spaced Masked ◌⨾◌ Sign
masked_derived level v left s (inl p) = rule.half (half_derived v left s tt p)
masked_derived level v left s (inr p) = absurd p
masked_derived level v right s (inl p) = rule.half (half_derived v right s tt p)
masked_derived level v right s (inr p) = absurd p
masked_derived level v all s (inl p) =
    let q = p.3.1 in
    let e : s ≡ code "?" ∷ (code "?" ∷ p.1) = sign_first (code "?") s p.0 p.1 q.0 q.1 p.2 q.2 q.3 ∙ ap (λ (x : List ℕ). code "?" ∷ (x ++ p.1)) q.4 in
    subst₂ (λ (n : ℕ) (x : List ℕ). rule.Solid level (MaskedByte n all) x) (sym p.3.0) (sym e) (rule.any (rule.mark (blanks_derived p.1 p.4)))
masked_derived level v all s (inr p) = subst (λ (n : ℕ). rule.Solid level (MaskedByte n all) s) (sym p.0) (rule.one (range_derived 1 (some 1) s p.1))

-- `~` before a token
tilde : (s a b : List ℕ) → s ≡ a ++ b → a ≡ code "~" ∷ [] → s ≡ code "~" ∷ b
tilde s a b h k = h ∙ ap (λ (x : List ℕ). x ++ b) k

pub jump_derived : (level from : ℕ) (to : Option ℕ) (s : List ℕ) → 1 ≤ level → SpellsToken (ltb 1 level) (Jump from to) s → rule.Gap level (Jump from to) s
unfolding SpellsToken NotOne Allowed
jump_derived level from none s l p = rule.unbounded (range_derived from none s p.0) (go (ltb 1 level) refl p.2)
  where
    go : (b : Bool) → ltb 1 level ≡ b → Allowed b none → level ≡ 1
    go true e a = absurd a
    go false e a = let h : level ≤ 1 = ltb-false 1 level e in omega arith
jump_derived level from (some to) s l p =
    rule.bounded (range_derived from (some to) s p.0) p.1 (λ h. subst (λ (b : Bool). Allowed b (some to)) (lt-ltb 1 level h) p.2)

-- a token is a jump or none
pub jump_or : (tok : Token) → NoJump tok ⊎ ((from : ℕ) × (to : Option ℕ) × (tok ≡ Jump from to))
unfolding NoJump
jump_or (Byte v) = inl tt
jump_or (NotByte v) = inl tt
jump_or (MaskedByte v m) = inl tt
jump_or (NotMaskedByte v m) = inl tt
jump_or (Jump from to) = inr (from, to, refl)
jump_or (Alternatives ls) = inl tt

-- a token before others, the last of which is no jump
module _ (level : ℕ) where
  listed_then : (tok : Token) (ts : Tokens) (s a b : List ℕ) → s ≡ a ++ b → rule.Solid level tok a → EndsWell tok ts → SpellsTokens (ltb 1 level) ts b
      → (((x : Token) → EndsWell x ts) → rule.Tail level ts b) → rule.TokenList level (tok then ts) s
  unfolding EndsWell SpellsTokens
  listed_then tok nothing s a b e p w q k = rule.only (subst (rule.Solid level tok) (sym (e ∙ ap (λ (x : List ℕ). a ++ x) q ∙ append-nil a)) p)
  listed_then tok (next then ts) s a b e p w q k = rule.more e p (k (λ x. w))

  tail_then : (tok : Token) (ts : Tokens) (s a b : List ℕ) → s ≡ a ++ b → (NoJump tok → rule.Solid level tok a) → 1 ≤ level → SpellsToken (ltb 1 level) tok a → EndsWell tok ts
      → SpellsTokens (ltb 1 level) ts b → (((x : Token) → EndsWell x ts) → rule.Tail level ts b) → rule.Tail level (tok then ts) s
  unfolding EndsWell NoJump
  tail_then tok ts s a b e p l r w q k = go (jump_or tok)
    where
      after : (ts : Tokens) → (NoJump tok → ⊥) → EndsWell tok ts → (x : Token) → EndsWell x ts
      after nothing n w x = absurd (n w)
      after (next then ts) n w x = w

      go : NoJump tok ⊎ ((from : ℕ) × (to : Option ℕ) × (tok ≡ Jump from to)) → rule.Tail level (tok then ts) s
      go (inl n) = rule.list (listed_then tok ts s a b e (p n) w q k)
      go (inr j) =
          let d = jump_derived level j.0 j.1 a l (subst (λ (x : Token). SpellsToken (ltb 1 level) x a) j.2 r) in
          rule.jump e (subst (λ (x : Token). rule.Gap level x a) (sym j.2) d) (k (after ts (λ n. subst NoJump j.2 n) w))

outer : (level : ℕ) (ts : Tokens) (s : List ℕ) → 1 < level → SpellsTokens true ts s → SpellsTokens (ltb 1 level) ts s
outer level ts s h = subst (λ (b : Bool). SpellsTokens b ts s) (sym (lt-ltb 1 level h))

mutual
  unfolding SpellsToken SpellsTokens SpellsLists SpellsRest Bounded EndsWell NoJump depth_in depth depths ◌⨾◌ Sign

  pub solid_derived : (tok : Token) (level : ℕ) (s : List ℕ) → 1 ≤ level → NoJump tok → depth_in tok ≤ level_limit - level → SpellsToken (ltb 1 level) tok s → rule.Solid level tok s
  solid_derived (Byte v) level s l n d p = rule.byte (whole_derived v s p)
  solid_derived (NotByte v) level s l n d p = subst (rule.Solid level (NotByte v)) (sym (tilde s p.0 p.1 p.2 p.3)) (rule.not_byte (whole_derived v p.1 p.4))
  solid_derived (MaskedByte v m) level s l n d p = masked_derived level v m s p
  solid_derived (NotMaskedByte v m) level s l n d p =
      let q = p.1 in
      subst (rule.Solid level (NotMaskedByte v m)) (sym (tilde s q.0 q.1 q.2 q.3)) (rule.not_half (half_derived v m q.1 p.0 q.4))
  solid_derived (Jump from to) level s l n d p = absurd n
  solid_derived (Alternatives ls) level s l n d p = brackets_derived ls level s p.0 p.1 p.2 (mark_derived "(" p.0 p.3) l d p.4

  brackets_derived : (ls : Lists) (level : ℕ) (s a u : List ℕ) → s ≡ a ++ u → rule.Mark "(" a → 1 ≤ level → depths ls ≤ level_limit - level → SpellsLists ls u → rule.Solid level (Alternatives ls) s
  brackets_derived neither level s a u e m l d p = absurd p
  brackets_derived (ts or ls) level s a u e m l d p =
      let q = p.1 in
      let z : 1 ≤ depth ts = depth_some ts in
      rule.alternatives (parts a e q.2) m (list_derived ts (suc level) q.0 (omega arith) (omega arith) p.0 (outer (suc level) ts q.0 (omega arith) q.3))
      (rest_derived ls (suc level) q.1 (omega arith) (omega arith) q.4) (omega arith)

  pub list_derived : (ts : Tokens) (level : ℕ) (s : List ℕ) → 1 ≤ level → depth ts ≤ suc level_limit - level → Bounded ts → SpellsTokens (ltb 1 level) ts s → rule.TokenList level ts s
  list_derived nothing level s l d w p = absurd w
  list_derived (tok then ts) level s l d w p =
      listed_then level tok ts s p.0 p.1 p.2 (solid_derived tok level p.0 l w.0 (omega arith) p.3) w.1 p.4
      (λ w. tail_derived ts level p.1 l (omega arith) w p.4)

  tail_derived : (ts : Tokens) (level : ℕ) (s : List ℕ) → 1 ≤ level → depth ts ≤ suc level_limit - level → ((x : Token) → EndsWell x ts) → SpellsTokens (ltb 1 level) ts s → rule.Tail level ts s
  tail_derived nothing level s l d w p = absurd (w (Jump 0 none))
  tail_derived (tok then ts) level s l d w p =
      tail_then level tok ts s p.0 p.1 p.2 (λ n. solid_derived tok level p.0 l n (omega arith) p.3) l p.3 (w tok) p.4
      (λ w. tail_derived ts level p.1 l (omega arith) w p.4)

  rest_derived : (ls : Lists) (level : ℕ) (s : List ℕ) → 1 < level → depths ls ≤ suc level_limit - level → SpellsRest ls s → rule.Rest level ls s
  rest_derived neither level s l d p = rule.close (mark_derived ")" s p)
  rest_derived (ts or ls) level s l d p =
      let q = p.1 in
      let r = q.4 in
      rule.bar (parts q.0 q.2 r.2) (mark_derived "|" q.0 q.3) (list_derived ts level r.0 (omega arith) (omega arith) p.0 (outer level ts r.0 l r.3))
      (rest_derived ls level r.1 l (omega arith) r.4)

pub outer_derived : (ts : Tokens) (s : List ℕ) → SpellsList false ts s → depth ts ≤ level_limit → rule.TokenList 1 ts s
outer_derived ts s p d = list_derived ts 1 s (omega arith) (omega arith) p.0 (subst (λ (b : Bool). SpellsTokens b ts s) (sym (le-ltb 1 1 (omega arith))) p.1)
