-- What the grammar's rules derive is spelled as Spelling.antt says. Assumes nothing.
use mathlib.Core.Path.{◌≡◌, refl, sym, subst}
use mathlib.Core.Bool.{Bool, true, false}
use mathlib.Core.Logic.{inl, inr}
use mathlib.Core.Option.{Option, none, some}
use mathlib.Core.List.{List, [], ◌∷◌, ◌++◌, append_assoc, append-nil}
use Prim.Native.Char.{Char, code}
use Prim.Native.Nat.{ℕ, suc, ◌+◌, ◌-◌, ◌*◌, ◌^◌, ◌≤◌, ◌<◌}
use native.Mathlib.Nat.{pow-suc}
use native.Mathlib.Omega.{arith}
use borrow.Author.Tests.{ltb-true, lt-ltb, le-ltb}
use lib.Dec.{ltb}
use lib.ListN.{length, length-append}
use Rattle.def_meaning.specs.Limits.{level_limit, inner_jump_limit}
use Rattle.def_meaning.specs.Tokens.{Mask, all, Token, Tokens, Lists, nothing, ◌then◌}
use Rattle.def_grammar.specs.Grammar as rule
use Rattle.def_grammar.proofs.Spelling.{◌⨾◌, Blank, Blanks, Spaced, Sign, Marked, decimal, upper, lower, HexDigit, Whole, Masked, Decimals, value, Numeral, Number, From, To, Single, Dashed, Ordered, Bracketed, Bounds, Allowed, NotOne, AsJump, Negatable, NoJump, EndsWell, Bounded, SpellsToken, SpellsTokens, SpellsLists, SpellsRest, SpellsList, depth_in, depth, depths}

pub blank_spells : {c : ℕ} → rule.Blank c → Blank c
unfolding Blank
blank_spells rule.space = inl refl
blank_spells rule.tab = inr (inl refl)
blank_spells rule.return = inr (inr (inl refl))
blank_spells rule.feed = inr (inr (inr refl))

pub blanks_spell : {s : List ℕ} → rule.Blanks s → Blanks s
unfolding Blanks
blanks_spell rule.no_blank = tt
blanks_spell (rule.a_blank b p) = (blank_spells b, blanks_spell p)

pub mark_spells : {c : Char} {s : List ℕ} → rule.Mark c s → Marked (code c) s
unfolding Marked Spaced ◌⨾◌ Sign
mark_spells {c} (rule.mark {b = b} p) = (code c ∷ [], b, refl, refl, blanks_spell p)

digit_spells : {v : ℕ} {s : List ℕ} → rule.Digit v s → HexDigit v s
unfolding HexDigit
digit_spells (rule.decimal {v = v} h) = (code "0" + v, refl, decimal h refl)
digit_spells (rule.upper {v = v} h) = (code "A" + v, refl, upper (omega arith) (omega arith) (omega arith))
digit_spells (rule.lower {v = v} h) = (code "a" + v, refl, lower (omega arith) (omega arith) (omega arith))

whole_spells : {v : ℕ} {s : List ℕ} → rule.Whole v s → Spaced (Whole v) s
unfolding Spaced Whole ◌⨾◌
whole_spells (rule.whole {h = h} {l = l} {a = a} {b = b} {c = c} p q r) =
    (a ++ b, c, sym (append_assoc a b c), (h, l, refl, (a, b, refl, digit_spells p, digit_spells q)), blanks_spell r)

half_spells : {v : ℕ} {m : Mask} {s : List ℕ} → rule.Half v m s → Spaced (Masked v m) s × Negatable m
unfolding Spaced Masked ◌⨾◌ Sign Negatable
half_spells (rule.low {a = a} {b = b} p q) = ((code "?" ∷ a, b, refl, (code "?" ∷ [], a, refl, refl, digit_spells p), blanks_spell q), tt)
half_spells (rule.high {a = a} p (rule.mark {b = b} q)) =
    ((a ++ (code "?" ∷ []), b, sym (append_assoc a (code "?" ∷ []) b), (a, code "?" ∷ [], refl, digit_spells p, refl), blanks_spell q), tt)

any_spells : {s : List ℕ} → rule.Mark "?" s → Spaced (Masked 0 all) (code "?" ∷ s)
unfolding Spaced Masked ◌⨾◌ Sign
any_spells (rule.mark {b = b} q) = (code "?" ∷ (code "?" ∷ []), b, refl, (refl, (code "?" ∷ [], code "?" ∷ [], refl, refl, refl)), blanks_spell q)

-- one digit more
digit_after : (s : List ℕ) (v : ℕ) → v < 10 → Decimals s → Decimals (s ++ ((code "0" + v) ∷ [])) × (value (s ++ ((code "0" + v) ∷ [])) ≡ 10 * value s + v)
unfolding Decimals value
digit_after [] v h p = ((omega arith, omega arith, tt), omega arith)
digit_after (c ∷ s) v h p =
    let i = digit_after s v h p.2 in
    let k : length (s ++ ((code "0" + v) ∷ [])) ≡ length s + 1 = length-append s ((code "0" + v) ∷ []) in
    let l : length (s ++ ((code "0" + v) ∷ [])) ≡ suc (length s) = omega arith in
    let e : value (s ++ ((code "0" + v) ∷ [])) ≡ 10 * value s + v = i.1 in
    let q : 10 ^ suc (length s) ≡ 10 ^ length s * 10 = pow-suc 10 (length s) in
    ((p.0, p.1, i.0), rw (l, q, e) (omega arith))

pub numeral_spells : {n : ℕ} {s : List ℕ} → rule.Numeral n s → Decimals s × (0 < length s) × (n ≡ value s)
unfolding Decimals value
numeral_spells (rule.digit {v = v} h) = ((omega arith, omega arith, tt), omega arith, omega arith)
numeral_spells (rule.digits {n = n} {v = v} {s = s} p h) =
    let i = numeral_spells p in
    let j = digit_after s v h i.0 in
    let k : length (s ++ ((code "0" + v) ∷ [])) ≡ length s + 1 = length-append s ((code "0" + v) ∷ []) in
    let e : n ≡ value s = i.2 in
    let f : value (s ++ ((code "0" + v) ∷ [])) ≡ 10 * value s + v = j.1 in
    (j.0, omega arith, omega arith)

pub number_spells : {n : ℕ} {s : List ℕ} → rule.Number n s → Number n s
unfolding Number Numeral Spaced ◌⨾◌
number_spells (rule.number {a = a} {b = b} p q h) = let i = numeral_spells p in (a, b, refl, (i.0, i.1, i.2, h), blanks_spell q)

range_spells : {from : ℕ} {to : Option ℕ} {s : List ℕ} → rule.Range from to s → Bounds from to s
unfolding Bounds Ordered Bracketed Single Dashed From To ◌⨾◌
range_spells (rule.exactly {a = a} {b = b} {c = c} p q r h) = ((omega arith, h), inl (refl, (a, b ++ c, refl, mark_spells p, (b, c, refl, number_spells q, mark_spells r))))
range_spells (rule.between {a = a} {b = b} {c = c} {d = d} {e = e} p q r u v h k) =
    ((h, k), inr (a, b ++ (c ++ (d ++ e)), refl, mark_spells p, (b, c ++ (d ++ e), refl, inl (number_spells q), (c, d ++ e, refl, mark_spells r, (d, e, refl, number_spells u, mark_spells v)))))
range_spells (rule.at_least {a = a} {b = b} {c = c} {d = d} p q r u) =
    (tt, inr (a, b ++ (c ++ ([] ++ d)), refl, mark_spells p, (b, c ++ ([] ++ d), refl, inl (number_spells q), (c, [] ++ d, refl, mark_spells r, ([], d, refl, refl, mark_spells u)))))
range_spells (rule.at_most {a = a} {b = b} {c = c} {d = d} p q r u h) =
    ((omega arith, h), inr (a, [] ++ (b ++ (c ++ d)), refl, mark_spells p, ([], b ++ (c ++ d), refl, inr (refl, refl), (b, c ++ d, refl, mark_spells q, (c, d, refl, number_spells r, mark_spells u)))))
range_spells (rule.any_many {a = a} {b = b} {c = c} p q r) =
    (tt, inr (a, [] ++ (b ++ ([] ++ c)), refl, mark_spells p, ([], b ++ ([] ++ c), refl, inr (refl, refl), (b, [] ++ c, refl, mark_spells q, ([], c, refl, refl, mark_spells r)))))

allowed_some : (level n : ℕ) → (1 < level → n ≤ inner_jump_limit) → Allowed (ltb 1 level) (some n)
unfolding Allowed
allowed_some level n h = go (ltb 1 level) refl
  where
    go : (b : Bool) → ltb 1 level ≡ b → Allowed b (some n)
    go true e = h (ltb-true 1 level e)
    go false e = tt

allowed_none : (level : ℕ) → level ≡ 1 → Allowed (ltb 1 level) none
unfolding Allowed
allowed_none level h = let e : ltb 1 level ≡ false = le-ltb 1 level (omega arith) in subst (λ (b : Bool). Allowed b none) (sym e) tt

pub jump_spells : {level : ℕ} {tok : Token} {s : List ℕ} → rule.Gap level tok s → SpellsToken (ltb 1 level) tok s × (depth_in tok ≡ 0)
unfolding SpellsToken NotOne depth_in
jump_spells {level} (rule.bounded {n = n} p h k) = ((range_spells p, h, allowed_some level n k), refl)
jump_spells {level} (rule.unbounded p h) = ((range_spells p, tt, allowed_none level h), refl)

-- what is to be shown of tokens, lists and what follows them, on a level: how they are spelled, and that they are within the levels left
abbrev SolidSpells : ℕ → Token → List ℕ → Type 0
SolidSpells level tok s = SpellsToken (ltb 1 level) tok s × NoJump tok × (depth_in tok ≤ level_limit - level)

abbrev ListSpells : ℕ → Tokens → List ℕ → Type 0
ListSpells level ts s = SpellsTokens (ltb 1 level) ts s × Bounded ts × (depth ts ≤ suc level_limit - level)

abbrev TailSpells : ℕ → Tokens → List ℕ → Type 0
TailSpells level ts s = SpellsTokens (ltb 1 level) ts s × ((tok : Token) → EndsWell tok ts) × (depth ts ≤ suc level_limit - level)

abbrev RestSpells : ℕ → Lists → List ℕ → Type 0
RestSpells level ls s = SpellsRest ls s × (depths ls ≤ suc level_limit - level)

inner : (level : ℕ) (ts : Tokens) (s : List ℕ) → 1 < level → SpellsTokens (ltb 1 level) ts s → SpellsTokens true ts s
inner level ts s h = subst (λ (b : Bool). SpellsTokens b ts s) (lt-ltb 1 level h)

bounded_ends : (ts : Tokens) → Bounded ts → (tok : Token) → EndsWell tok ts
unfolding Bounded EndsWell
bounded_ends nothing p tok = absurd p
bounded_ends (next then ts) p tok = p.1

only_spells : (level : ℕ) (tok : Token) (s : List ℕ) → level ≤ level_limit → SolidSpells level tok s → ListSpells level (tok then nothing) s
unfolding SpellsTokens Bounded EndsWell depth ◌⨾◌
only_spells level tok s h p =
    let d : depth_in tok ≤ level_limit - level = p.2 in
    ((s, [], sym (append-nil s), p.0, refl), (p.1, p.1), omega arith)

then_spells : (level : ℕ) (tok : Token) (ts : Tokens) (s a b : List ℕ) → s ≡ a ++ b → level ≤ level_limit → SpellsToken (ltb 1 level) tok a → depth_in tok ≤ level_limit - level → SpellsTokens (ltb 1 level) ts b → depth ts ≤ suc level_limit - level
    → SpellsTokens (ltb 1 level) (tok then ts) s × (depth (tok then ts) ≤ suc level_limit - level)
unfolding SpellsTokens depth ◌⨾◌
then_spells level tok ts s a b e h p d q f = ((a, b, e, p, q), omega arith)

mutual
  unfolding SpellsToken AsJump SpellsLists SpellsRest Bounded EndsWell NoJump depth_in depths ◌⨾◌ Sign

  pub solid_spells : {level : ℕ} {tok : Token} {s : List ℕ} → 1 ≤ level → level ≤ level_limit → rule.Solid level tok s → SolidSpells level tok s
  solid_spells l h (rule.byte p) = (whole_spells p, tt, omega arith)
  solid_spells l h (rule.not_byte {s = s} p) = ((code "~" ∷ [], s, refl, refl, whole_spells p), tt, omega arith)
  solid_spells l h (rule.half p) = (inl (half_spells p).0, tt, omega arith)
  solid_spells l h (rule.not_half {s = s} p) = (((half_spells p).1, (code "~" ∷ [], s, refl, refl, (half_spells p).0)), tt, omega arith)
  solid_spells l h (rule.any p) = (inl (any_spells p), tt, omega arith)
  solid_spells l h (rule.one p) = (inr (refl, range_spells p), tt, omega arith)
  solid_spells l h (rule.alternatives {level = level} {ts = ts} {ls = ls} {a = a} {b = b} {c = c} e p q r k) =
      let i = list_spells (omega arith) (omega arith) q in
      let j = rest_spells (omega arith) (omega arith) r in
      let d : depth ts ≤ suc level_limit - suc level = i.2 in
      let f : depths ls ≤ suc level_limit - suc level = j.1 in
      ((a, b ++ c, e, mark_spells p, (i.1, (b, c, refl, inner (suc level) ts b (omega arith) i.0, j.0))), tt, omega arith)

  pub list_spells : {level : ℕ} {ts : Tokens} {s : List ℕ} → 1 ≤ level → level ≤ level_limit → rule.TokenList level ts s → ListSpells level ts s
  list_spells l h (rule.only {level = level} {tok = tok} {s = s} p) = only_spells level tok s h (solid_spells l h p)
  list_spells l h (rule.more {level = level} {tok = tok} {ts = ts} {s = s} {a = a} {b = b} e p q) =
      let i = solid_spells l h p in
      let j = tail_spells l h q in
      let k = then_spells level tok ts s a b e h i.0 i.2 j.0 j.2 in
      (k.0, (i.1, j.1 tok), k.1)

  tail_spells : {level : ℕ} {ts : Tokens} {s : List ℕ} → 1 ≤ level → level ≤ level_limit → rule.Tail level ts s → TailSpells level ts s
  tail_spells l h (rule.list {ts = ts} p) = let i = list_spells l h p in (i.0, bounded_ends ts i.1, i.2)
  tail_spells l h (rule.jump {level = level} {tok = tok} {ts = ts} {s = s} {a = a} {b = b} e p q) =
      let i = jump_spells p in
      let d : depth_in tok ≡ 0 = i.1 in
      let j = tail_spells l h q in
      let k = then_spells level tok ts s a b e h i.0 (omega arith) j.0 j.2 in
      (k.0, (λ x. j.1 tok), k.1)

  rest_spells : {level : ℕ} {ls : Lists} {s : List ℕ} → 1 < level → level ≤ level_limit → rule.Rest level ls s → RestSpells level ls s
  rest_spells l h (rule.close p) = (mark_spells p, omega arith)
  rest_spells l h (rule.bar {level = level} {ts = ts} {ls = ls} {a = a} {b = b} {c = c} e p q r) =
      let i = list_spells (omega arith) h q in
      let j = rest_spells l h r in
      let d : depth ts ≤ suc level_limit - level = i.2 in
      let f : depths ls ≤ suc level_limit - level = j.1 in
      ((i.1, (a, b ++ c, e, mark_spells p, (b, c, refl, inner level ts b l i.0, j.0))), omega arith)

pub outer_spells : {ts : Tokens} {s : List ℕ} → rule.TokenList 1 ts s → SpellsList false ts s × (depth ts ≤ level_limit)
outer_spells {ts} {s} p =
    let i = list_spells {level = 1} {ts = ts} {s = s} (omega arith) (omega arith) p in
    ((i.1, subst (λ (b : Bool). SpellsTokens b ts s) (le-ltb 1 1 (omega arith)) i.0), omega arith)
