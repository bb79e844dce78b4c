-- Hexadecimal strings as a grammar: YARA's, with `~` and the limits of 01. A rule says of which strings a string is made and which tokens it
-- spells; there is no offset in it, no order of trial and no refusal. Assumes nothing: these are definitions.
-- To be believed: all.
use Rattle.std.specs.Prelude.{◌≡◌, List, [], ◌∷◌, ◌++◌, ℕ, suc, ◌+◌, ◌*◌, ◌≤◌, ◌<◌, length}
use Rattle.std.proofs.Math.Option.{Option, none, some}
use Prim.Native.Char.{Char, code}
use Rattle.def_meaning.specs.Limits.{text_limit, token_limit, level_limit, number_limit, inner_jump_limit}
use Rattle.def_meaning.specs.Tokens.{Mask, left, right, all, Token, Tokens, Lists, Byte, NotByte, MaskedByte, NotMaskedByte, Jump, Alternatives, nothing, ◌then◌, neither, ◌or◌, total}

-- a text is its bytes
abbrev pub Text : Type 0
Text = List ℕ

-- space, tab, CR, LF
pub data Blank : ℕ → Type 0 where
  space : Blank (code " ")
  tab : Blank (code "\t")
  return : Blank (code "\r")
  feed : Blank (code "\n")

-- any number of them, also none
pub data Blanks : Text → Type 0 where
  no_blank : Blanks []
  a_blank : {c : ℕ} {s : Text} → Blank c → Blanks s → Blanks (c ∷ s)

-- no blank in front
pub data Clear : Text → Type 0 where
  end : Clear []
  other : {c : ℕ} {s : Text} → (Blank c → ⊥) → Clear (c ∷ s)

-- a sign, and the blanks that may follow it
pub data Mark (c : Char) : Text → Type 0 where
  mark : {b : Text} → Blanks b → Mark c (code c ∷ b)

-- a hexadecimal digit, by its value
pub data Digit : ℕ → Text → Type 0 where
  decimal : {v : ℕ} → v < 10 → Digit v ((code "0" + v) ∷ [])
  upper : {v : ℕ} → v < 6 → Digit (10 + v) ((code "A" + v) ∷ [])
  lower : {v : ℕ} → v < 6 → Digit (10 + v) ((code "a" + v) ∷ [])

-- `XX`: two digits with nothing between them, and blanks after them
pub data Whole : ℕ → Text → Type 0 where
  whole : {h l : ℕ} {a b c : Text} → Digit h a → Digit l b → Blanks c → Whole (16 * h + l) (a ++ (b ++ c))

-- `?X` and `X?`
pub data Half : ℕ → Mask → Text → Type 0 where
  low : {v : ℕ} {a b : Text} → Digit v a → Blanks b → Half v left (code "?" ∷ (a ++ b))
  high : {v : ℕ} {a b : Text} → Digit v a → Mark "?" b → Half v right (a ++ b)

-- one decimal digit or more, and the number that they spell
pub data Numeral : ℕ → Text → Type 0 where
  digit : {v : ℕ} → v < 10 → Numeral v ((code "0" + v) ∷ [])
  digits : {n v : ℕ} {s : Text} → Numeral n s → v < 10 → Numeral (10 * n + v) (s ++ ((code "0" + v) ∷ []))

-- a number, and the blanks after it
pub data Number (n : ℕ) : Text → Type 0 where
  number : {a b : Text} → Numeral n a → Blanks b → n ≤ number_limit → Number n (a ++ b)

-- a jump's from, and its to if it has one: `[n]`, `[m-n]`, `[m-]`, `[-n]`, `[-]`
pub data Range : ℕ → Option ℕ → Text → Type 0 where
  exactly : {n : ℕ} {a b c : Text} → Mark "[" a → Number n b → Mark "]" c → 0 < n → Range n (some n) (a ++ (b ++ c))
  between : {m n : ℕ} {a b c d e : Text} → Mark "[" a → Number m b → Mark "-" c → Number n d → Mark "]" e → m ≤ n → 0 < n → Range m (some n) (a ++ (b ++ (c ++ (d ++ e))))
  at_least : {m : ℕ} {a b c d : Text} → Mark "[" a → Number m b → Mark "-" c → Mark "]" d → Range m none (a ++ (b ++ (c ++ d)))
  at_most : {n : ℕ} {a b c d : Text} → Mark "[" a → Mark "-" b → Number n c → Mark "]" d → 0 < n → Range 0 (some n) (a ++ (b ++ (c ++ d)))
  any_many : {a b c : Text} → Mark "[" a → Mark "-" b → Mark "]" c → Range 0 none (a ++ (b ++ c))

-- a jump in a list of this level, but not `[1]`; from level 2 on, that is in alternatives, it has a to of at most 200
pub data Gap (level : ℕ) : Token → Text → Type 0 where
  bounded : {m n : ℕ} {s : Text} → Range m (some n) s → (m ≡ 1 → n ≡ 1 → ⊥) → (1 < level → n ≤ inner_jump_limit) → Gap level (Jump m (some n)) s
  unbounded : {m : ℕ} {s : Text} → Range m none s → level ≡ 1 → Gap level (Jump m none) s

mutual
  -- any other token: `XX`, `~XX`, half a byte, its negation, `??`, `[1]` for `??`, and alternatives, whose lists have the next level, up to 8
  pub data Solid : ℕ → Token → Text → Type 0 where
    byte : {level v : ℕ} {s : Text} → Whole v s → Solid level (Byte v) s
    not_byte : {level v : ℕ} {s : Text} → Whole v s → Solid level (NotByte v) (code "~" ∷ s)
    half : {level v : ℕ} {m : Mask} {s : Text} → Half v m s → Solid level (MaskedByte v m) s
    not_half : {level v : ℕ} {m : Mask} {s : Text} → Half v m s → Solid level (NotMaskedByte v m) (code "~" ∷ s)
    any : {level : ℕ} {s : Text} → Mark "?" s → Solid level (MaskedByte 0 all) (code "?" ∷ s)
    one : {level : ℕ} {s : Text} → Range 1 (some 1) s → Solid level (MaskedByte 0 all) s
    alternatives : {level : ℕ} {ts : Tokens} {ls : Lists} {s a b c : Text} → s ≡ a ++ (b ++ c) → Mark "(" a → TokenList (suc level) ts b → Rest (suc level) ls c → level < level_limit → Solid level (Alternatives (ts or ls)) s

  -- a list: such a token; or such a token, then jumps, if any, and a list. So it neither begins nor ends with a jump
  pub data TokenList : ℕ → Tokens → Text → Type 0 where
    only : {level : ℕ} {tok : Token} {s : Text} → Solid level tok s → TokenList level (tok then nothing) s
    more : {level : ℕ} {tok : Token} {ts : Tokens} {s a b : Text} → s ≡ a ++ b → Solid level tok a → Tail level ts b → TokenList level (tok then ts) s

  -- jumps, if any, and a list
  pub data Tail : ℕ → Tokens → Text → Type 0 where
    list : {level : ℕ} {ts : Tokens} {s : Text} → TokenList level ts s → Tail level ts s
    jump : {level : ℕ} {tok : Token} {ts : Tokens} {s a b : Text} → s ≡ a ++ b → Gap level tok a → Tail level ts b → Tail level (tok then ts) s

  -- what follows a list in brackets: `)`; or `|`, a list and what follows that
  pub data Rest : ℕ → Lists → Text → Type 0 where
    close : {level : ℕ} {s : Text} → Mark ")" s → Rest level neither s
    bar : {level : ℕ} {ts : Tokens} {ls : Lists} {s a b c : Text} → s ≡ a ++ (b ++ c) → Mark "|" a → TokenList level ts b → Rest level ls c → Rest level (ts or ls) s

-- `{`, a list, `}`
pub data Pattern : Tokens → Text → Type 0 where
  pattern : {ts : Tokens} {a b c : Text} → Mark "{" a → TokenList 1 ts b → Mark "}" c → Pattern ts (a ++ (b ++ c))

-- a text: a pattern with all its blanks, and anything after it; the offset reached is the pattern's length
pub data Derives : Text → ℕ → Tokens → Type 0 where
  derives : {ts : Tokens} {s r : Text} → Pattern ts s → Clear r → total ts ≤ token_limit → length (s ++ r) ≤ text_limit → Derives (s ++ r) (length s) ts
