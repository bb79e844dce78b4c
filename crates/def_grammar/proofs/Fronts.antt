-- How spellings begin, so that blanks before them end there; and what the reader sees of a sign and of two. Assumes nothing.
use mathlib.Core.Path.{◌≡◌, refl, sym, ap, ap₂, ◌∙◌, subst}
use mathlib.Core.Bool.{Bool}
use mathlib.Core.Logic.{◌⊎◌, inl, inr}
use mathlib.Core.Option.{Option, none, some}
use mathlib.Core.List.{List, [], ◌∷◌, ◌++◌}
use Prim.Native.Char.{code}
use Prim.Native.Nat.{ℕ, suc, ◌+◌, ◌<◌, ◌≤◌}
use native.Mathlib.Omega.{arith}
use lib.ListN.{length, drop}
use Rattle.def_meaning.specs.Tokens.{Mask, left, right, all, Token, Tokens, Byte, NotByte, MaskedByte, NotMaskedByte, Jump, Alternatives, nothing, ◌then◌}
use Rattle.def_reading.specs.Blanks.{here, skip}
use Rattle.def_grammar.proofs.Spelling.{Language, ◌⨾◌, Blank, Blanks, NoBlank, Spaced, Sign, Marked, Digit, decimal, upper, lower, HexDigit, Whole, Masked, Decimals, Numeral, Number, From, To, Single, Dashed, Bracketed, Bounds, AsJump, SpellsToken, SpellsTokens, SpellsLists}
use Rattle.def_grammar.proofs.Standing.{after, here_is, skips}

-- a string that begins with a byte past the blanks
abbrev pub Opens : List ℕ → Type 0
Opens w = (c : ℕ) × (u : List ℕ) × (w ≡ c ∷ u) × (code " " < c)

pub past_blanks : (c : ℕ) → code " " < c → Blank c → ⊥
unfolding Blank
past_blanks c h (inl e) = omega arith
past_blanks c h (inr (inl e)) = omega arith
past_blanks c h (inr (inr (inl e))) = omega arith
past_blanks c h (inr (inr (inr e))) = omega arith

pub cons_clear : (c : ℕ) (r : List ℕ) → code " " < c → NoBlank (c ∷ r)
unfolding NoBlank
cons_clear c r h = λ b. past_blanks c h b

pub opens_clear : (w r : List ℕ) → Opens w → NoBlank (w ++ r)
opens_clear w r o = subst NoBlank (ap (λ (s : List ℕ). s ++ r) (sym o.2)) (cons_clear o.0 (o.1 ++ r) o.3)

pub opens_seq : (w a b : List ℕ) → w ≡ a ++ b → Opens a → Opens w
opens_seq w a b h o = (o.0, o.1 ++ b, h ∙ ap (λ (s : List ℕ). s ++ b) o.2, o.3)

pub digit_range : (c v : ℕ) → Digit c v → (code "0" ≤ c) × (c ≤ code "f") × (c ≡ code "?" → ⊥)
digit_range c v (decimal l e) = (omega arith, omega arith, omega arith)
digit_range c v (upper k l e) = (omega arith, omega arith, omega arith)
digit_range c v (lower k l e) = (omega arith, omega arith, omega arith)

sign_opens : (c : ℕ) (w : List ℕ) → code " " < c → Sign c w → Opens w
unfolding Sign
sign_opens c w h p = (c, [], p, h)

pub mark_opens : (c : ℕ) (w : List ℕ) → code " " < c → Marked c w → Opens w
unfolding Marked Spaced ◌⨾◌
mark_opens c w h p = opens_seq w p.0 p.1 p.2 (sign_opens c p.0 h p.3)

-- and with none past the digits
abbrev pub OpensLow : List ℕ → Type 0
OpensLow w = (c : ℕ) × (u : List ℕ) × (w ≡ c ∷ u) × (code " " < c) × (c ≤ code "f")

low_opens : (w : List ℕ) → OpensLow w → Opens w
low_opens w o = (o.0, o.1, o.2, o.3)

low_seq : (w a b : List ℕ) → w ≡ a ++ b → OpensLow a → OpensLow w
low_seq w a b h o = (o.0, o.1 ++ b, h ∙ ap (λ (s : List ℕ). s ++ b) o.2, o.3, o.4)

sign_low : (w : List ℕ) → Sign (code "?") w → OpensLow w
unfolding Sign
sign_low w p = (code "?", [], p, omega arith, omega arith)

digit_low : (v : ℕ) (w : List ℕ) → HexDigit v w → OpensLow w
unfolding HexDigit
digit_low v w p = let d = digit_range p.0 v p.2 in (p.0, [], p.1, omega arith, omega arith)

numeral_opens : (n : ℕ) (w : List ℕ) → Numeral n w → Opens w
unfolding Numeral Decimals
numeral_opens n [] p = let z : 0 < 0 = p.1 in absurd (omega arith)
numeral_opens n (c ∷ w) p = let q : code "0" ≤ c = p.0.0 in (c, w, refl, omega arith)

pub number_opens : (n : ℕ) (w : List ℕ) → Number n w → Opens w
unfolding Number Spaced ◌⨾◌
number_opens n w p = opens_seq w p.0 p.1 p.2 (numeral_opens n p.0 p.3)

pub from_clear : (from : ℕ) (w r : List ℕ) → From from w → NoBlank r → NoBlank (w ++ r)
unfolding From
from_clear from w r (inl p) q = opens_clear w r (number_opens from w p)
from_clear from w r (inr p) q = subst NoBlank (ap (λ (s : List ℕ). s ++ r) (sym p.1)) q

pub to_clear : (to : Option ℕ) (w r : List ℕ) → To to w → NoBlank r → NoBlank (w ++ r)
unfolding To
to_clear none w r p q = subst NoBlank (ap (λ (s : List ℕ). s ++ r) (sym p)) q
to_clear (some to) w r p q = opens_clear w r (number_opens to w p)

pub whole_low : (v : ℕ) (w : List ℕ) → Spaced (Whole v) w → OpensLow w
unfolding Spaced Whole ◌⨾◌
whole_low v w p = let q = p.3.3 in low_seq w p.0 p.1 p.2 (low_seq p.0 q.0 q.1 q.2 (digit_low p.3.0 q.0 q.3))

pub masked_low : (v : ℕ) (m : Mask) (w : List ℕ) → Spaced (Masked v m) w → OpensLow w
unfolding Spaced Masked ◌⨾◌
masked_low v left w p = let q = p.3 in low_seq w p.0 p.1 p.2 (low_seq p.0 q.0 q.1 q.2 (sign_low q.0 q.3))
masked_low v right w p = let q = p.3 in low_seq w p.0 p.1 p.2 (low_seq p.0 q.0 q.1 q.2 (digit_low v q.0 q.3))
masked_low v all w p = let q = p.3.1 in low_seq w p.0 p.1 p.2 (low_seq p.0 q.0 q.1 q.2 (sign_low q.0 q.3))

not_opens : (P : Language) (w : List ℕ) → (Sign (code "~") ⨾ P) w → Opens w
unfolding ◌⨾◌
not_opens P w p = opens_seq w p.0 p.1 p.2 (sign_opens (code "~") p.0 (omega arith) p.3)

marked_opens : (c : ℕ) (P : Language) (w : List ℕ) → code " " < c → (Marked c ⨾ P) w → Opens w
unfolding ◌⨾◌
marked_opens c P w h p = opens_seq w p.0 p.1 p.2 (mark_opens c p.0 h p.3)

bounds_opens : (from : ℕ) (to : Option ℕ) (w : List ℕ) → Bounds from to w → Opens w
unfolding Bounds Bracketed Single Dashed
bounds_opens from to w p = go p.1
  where
    go : ((to ≡ some from) × Single from w) ⊎ Dashed from to w → Opens w
    go (inl q) = marked_opens (code "[") (Number from ⨾ Marked (code "]")) w (omega arith) q.1
    go (inr q) = marked_opens (code "[") (From from ⨾ (Marked (code "-") ⨾ (To to ⨾ Marked (code "]")))) w (omega arith) q

as_jump_opens : (v : ℕ) (m : Mask) (w : List ℕ) → AsJump v m w → Opens w
unfolding AsJump
as_jump_opens v left w p = absurd p
as_jump_opens v right w p = absurd p
as_jump_opens v all w p = bounds_opens 1 (some 1) w p.1

pub token_opens : (inside : Bool) (tok : Token) (w : List ℕ) → SpellsToken inside tok w → Opens w
unfolding SpellsToken
token_opens inside (Byte v) w p = low_opens w (whole_low v w p)
token_opens inside (NotByte v) w p = not_opens (Spaced (Whole v)) w p
token_opens inside (MaskedByte v m) w (inl p) = low_opens w (masked_low v m w p)
token_opens inside (MaskedByte v m) w (inr p) = as_jump_opens v m w p
token_opens inside (NotMaskedByte v m) w p = not_opens (Spaced (Masked v m)) w p.1
token_opens inside (Jump from to) w p = bounds_opens from to w p.0
token_opens inside (Alternatives ls) w p = marked_opens (code "(") (λ b. SpellsLists ls b) w (omega arith) p

-- blanks end at tokens, or at what follows where there are none
pub tokens_clear : (inside : Bool) (ts : Tokens) (w r : List ℕ) → SpellsTokens inside ts w → NoBlank r → NoBlank (w ++ r)
unfolding SpellsTokens ◌⨾◌
tokens_clear inside nothing w r p q = subst NoBlank (ap (λ (s : List ℕ). s ++ r) (sym p)) q
tokens_clear inside (tok then ts) w r p q = opens_clear w r (opens_seq w p.0 p.1 p.2 (token_opens inside tok p.0 p.3))

-- what the reader sees of a sign with its blanks
pub marked_form : (c : ℕ) (w : List ℕ) → Marked c w → (b : List ℕ) × (w ≡ c ∷ b) × Blanks b
unfolding Marked Spaced ◌⨾◌ Sign
marked_form c w p = (p.1, p.2 ∙ ap (λ (s : List ℕ). s ++ p.1) p.3, p.4)

pub mark_seen : (t : List ℕ) (at c : ℕ) (w r : List ℕ) → drop at t ≡ w ++ r → Marked c w → NoBlank r → (here t at ≡ c) × (skip t (at + 1) ≡ at + length w)
mark_seen t at c w r h m q =
    let f = marked_form c w m in
    let g : drop at t ≡ c ∷ (f.0 ++ r) = h ∙ ap (λ (s : List ℕ). s ++ r) f.1 in
    let l : length w ≡ suc (length f.0) = ap (λ (s : List ℕ). length s) f.1 in
    let k : skip t (at + 1) ≡ at + 1 + length f.0 = skips t (at + 1) f.0 r (after t at (c ∷ []) (f.0 ++ r) g) f.2 q in
    (here_is t at c (f.0 ++ r) g, omega arith)

-- and of two signs with the blanks after them
pub two_form : (c d : ℕ) (w u x y b : List ℕ) → w ≡ u ++ b → u ≡ x ++ y → x ≡ c ∷ [] → y ≡ d ∷ [] → w ≡ c ∷ (d ∷ b)
two_form c d w u x y b h k p q = h ∙ ap (λ (s : List ℕ). s ++ b) (k ∙ ap₂ (λ (i j : List ℕ). i ++ j) p q)

pub two_seen : (t : List ℕ) (at c d : ℕ) (b w r : List ℕ) → drop at t ≡ w ++ r → w ≡ c ∷ (d ∷ b) → Blanks b → NoBlank r
    → (here t at ≡ c) × (here t (at + 1) ≡ d) × (skip t (at + 2) ≡ at + length w)
two_seen t at c d b w r h f p q =
    let g : drop at t ≡ c ∷ (d ∷ (b ++ r)) = h ∙ ap (λ (s : List ℕ). s ++ r) f in
    let l : length w ≡ suc (suc (length b)) = ap (λ (s : List ℕ). length s) f in
    let k : skip t (at + 2) ≡ at + 2 + length b = skips t (at + 2) b r (after t at (c ∷ (d ∷ [])) (b ++ r) g) p q in
    (here_is t at c (d ∷ (b ++ r)) g, here_is t (at + 1) d (b ++ r) (after t at (c ∷ []) (d ∷ (b ++ r)) g), omega arith)
