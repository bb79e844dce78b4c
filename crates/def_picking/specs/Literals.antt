-- The literals of tokens, in 01's order, their combinations and their shortest length. Assumes nothing: these are definitions.
-- To be believed: `plain_list` `plain_lists` `before` `◌⊗◌` `singles` `followed` `spelt` `branched` `literals` `combinations_of` `combinations` `combinations_in`.
use Rattle.std.specs.Prelude.{Bool, true, false, not, ◌&&◌, List, [], ◌∷◌, ◌++◌, ℕ, zero, suc, ◌+◌, ◌*◌, ◌/◌, ◌%◌, ◌≤◌, min, eqb, length}
use Rattle.def_meaning.specs.Tokens.{left, right, all, Token, Tokens, Lists, Byte, NotByte, MaskedByte, NotMaskedByte, Jump, Alternatives, nothing, ◌then◌, neither, ◌or◌}

-- a number at the front if it is to be kept
unfoldable pub kept : Bool → ℕ → List ℕ → List ℕ
kept true v l = v ∷ l
kept false v l = l

-- those of the n numbers from v on that pass a test, rising
unfoldable pub passing : (ℕ → Bool) → ℕ → ℕ → List ℕ
passing p v zero = []
passing p v (suc n) = kept (p v) v (passing p (v + 1) n)

-- the bytes that pass a test, rising
abbrev pub bytes_that : (ℕ → Bool) → List ℕ
bytes_that p = passing p 0 256

-- the bytes that one token takes, rising: a byte itself, a class its members; for a token that is neither, none
unfoldable pub taken : Token → List ℕ
taken (Byte v) = v ∷ []
taken (NotByte v) = bytes_that (λ b. not (eqb b v))
taken (MaskedByte v left) = bytes_that (λ b. eqb (b % 16) v)
taken (MaskedByte v right) = bytes_that (λ b. eqb (b / 16) v)
taken (MaskedByte v all) = []
taken (NotMaskedByte v left) = bytes_that (λ b. not (eqb (b % 16) v))
taken (NotMaskedByte v right) = bytes_that (λ b. not (eqb (b / 16) v))
taken (NotMaskedByte v all) = []
taken (Jump from to) = []
taken (Alternatives ls) = []

unfoldable pub is_byte : Token → Bool
is_byte (Byte v) = true
is_byte (NotByte v) = false
is_byte (MaskedByte v m) = false
is_byte (NotMaskedByte v m) = false
is_byte (Jump from to) = false
is_byte (Alternatives ls) = false

-- a byte or a class: `~XX`, a half mask, or the negation of one (`~??` is never read)
unfoldable pub is_plain : Token → Bool
is_plain (Byte v) = true
is_plain (NotByte v) = true
is_plain (MaskedByte v left) = true
is_plain (MaskedByte v right) = true
is_plain (MaskedByte v all) = false
is_plain (NotMaskedByte v left) = true
is_plain (NotMaskedByte v right) = true
is_plain (NotMaskedByte v all) = false
is_plain (Jump from to) = false
is_plain (Alternatives ls) = false

-- a list of bytes and classes only
unfoldable pub plain_list : Tokens → Bool
plain_list nothing = true
plain_list (t then ts) = is_plain t && plain_list ts

unfoldable pub plain_lists : Lists → Bool
plain_lists neither = true
plain_lists (ts or ls) = plain_list ts && plain_lists ls

-- a literal before each of some
unfoldable pub before : List ℕ → List (List ℕ) → List (List ℕ)
before p [] = []
before p (s ∷ ss) = (p ++ s) ∷ before p ss

-- each prefix before each of some literals, the prefix deciding first
infixr 70 ◌⊗◌
unfoldable pub ◌⊗◌ : List (List ℕ) → List (List ℕ) → List (List ℕ)
[] ⊗ ss = []
(p ∷ ps) ⊗ ss = before p ss ++ ps ⊗ ss

-- each byte as a literal of its own
unfoldable pub singles : List ℕ → List (List ℕ)
singles [] = []
singles (b ∷ bs) = (b ∷ []) ∷ singles bs

unfoldable mutual
  -- prefixes, followed by what a token takes. A class: each prefix, members rising.
  -- Alternatives: branch outermost, then prefix, then branch literal. Repeats stay.
  pub followed : Token → List (List ℕ) → List (List ℕ)
  followed (Byte v) ps = ps ⊗ singles (taken (Byte v))
  followed (NotByte v) ps = ps ⊗ singles (taken (NotByte v))
  followed (MaskedByte v m) ps = ps ⊗ singles (taken (MaskedByte v m))
  followed (NotMaskedByte v m) ps = ps ⊗ singles (taken (NotMaskedByte v m))
  followed (Jump from to) ps = ps ⊗ singles (taken (Jump from to))
  followed (Alternatives ls) ps = branched ls ps

  -- prefixes, followed by what each token takes in turn
  pub spelt : Tokens → List (List ℕ) → List (List ℕ)
  spelt nothing ps = ps
  spelt (t then ts) ps = spelt ts (followed t ps)

  pub branched : Lists → List (List ℕ) → List (List ℕ)
  branched neither ps = []
  branched (ts or ls) ps = ps ⊗ spelt ts ([] ∷ []) ++ branched ls ps

-- the literals of a list of tokens, in order
abbrev pub literals : Tokens → List (List ℕ)
literals ts = spelt ts ([] ∷ [])

unfoldable mutual
  -- combinations: a byte has one, a class as many as it has members; they multiply over tokens, and in alternatives over all branches too
  pub combinations_of : Token → ℕ
  combinations_of (Byte v) = 1
  combinations_of (NotByte v) = length (taken (NotByte v))
  combinations_of (MaskedByte v m) = length (taken (MaskedByte v m))
  combinations_of (NotMaskedByte v m) = length (taken (NotMaskedByte v m))
  combinations_of (Jump from to) = length (taken (Jump from to))
  combinations_of (Alternatives ls) = combinations_in ls

  pub combinations : Tokens → ℕ
  combinations nothing = 1
  combinations (t then ts) = combinations_of t * combinations ts

  pub combinations_in : Lists → ℕ
  combinations_in neither = 1
  combinations_in (ts or ls) = combinations ts * combinations_in ls

unfoldable mutual
  -- lengths: a byte and a class have 1, alternatives that of their shortest branch
  pub length_of : Token → ℕ
  length_of (Byte v) = 1
  length_of (NotByte v) = 1
  length_of (MaskedByte v m) = 1
  length_of (NotMaskedByte v m) = 1
  length_of (Jump from to) = 1
  length_of (Alternatives ls) = shortest ls

  pub length_in : Tokens → ℕ
  length_in nothing = 0
  length_in (t then ts) = length_of t + length_in ts

  pub shortest : Lists → ℕ
  shortest neither = 0
  shortest (ts or ls) = shorter ls (length_in ts)

  -- the least of a length and those of some lists
  pub shorter : Lists → ℕ → ℕ
  shorter neither n = n
  shorter (ts or ls) n = shorter ls (min n (length_in ts))

unfoldable mutual
  -- neither `??` nor a jump at any depth
  pub listable_of : Token → Bool
  listable_of (Byte v) = true
  listable_of (NotByte v) = true
  listable_of (MaskedByte v m) = is_plain (MaskedByte v m)
  listable_of (NotMaskedByte v m) = is_plain (NotMaskedByte v m)
  listable_of (Jump from to) = false
  listable_of (Alternatives ls) = listable_in ls

  pub listable : Tokens → Bool
  listable nothing = true
  listable (t then ts) = listable_of t && listable ts

  pub listable_in : Lists → Bool
  listable_in neither = true
  listable_in (ts or ls) = listable ts && listable_in ls

unfoldable mutual
  -- alternatives have a list, and no list of them is empty, as everything that is read
  pub NonemptyOf : Token → Type 0
  NonemptyOf (Byte v) = Unit {0}
  NonemptyOf (NotByte v) = Unit {0}
  NonemptyOf (MaskedByte v m) = Unit {0}
  NonemptyOf (NotMaskedByte v m) = Unit {0}
  NonemptyOf (Jump from to) = Unit {0}
  NonemptyOf (Alternatives ls) = (1 ≤ shortest ls) × NonemptyIn ls

  pub Nonempty : Tokens → Type 0
  Nonempty nothing = Unit {0}
  Nonempty (t then ts) = NonemptyOf t × Nonempty ts

  pub NonemptyIn : Lists → Type 0
  NonemptyIn neither = Unit {0}
  NonemptyIn (ts or ls) = Nonempty ts × NonemptyIn ls
