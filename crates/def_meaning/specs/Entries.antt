-- Tokens as they lie in a pool: entries of four words, a kind and three values, as 01 lays them out.
-- Assumes nothing: these are definitions.
-- To be believed: all.
use Rattle.std.proofs.Math.Option.{none, some}
use Rattle.std.specs.Prelude.{List, [], ◌∷◌, ◌++◌, ℕ, suc, ◌/◌, length}
use Rattle.def_meaning.specs.Tokens.{Mask, left, right, all, Token, Tokens, Lists, Byte, NotByte, MaskedByte, NotMaskedByte, Jump, Alternatives, nothing, ◌then◌, neither, ◌or◌}

abbrev pub entry : ℕ → ℕ → ℕ → ℕ → List ℕ
entry kind a b c = kind ∷ a ∷ b ∷ c ∷ []

-- 0 for `?X`, 1 for `X?`, 2 for `??`
abbrev pub mask_number : Mask → ℕ
mask_number left = 0
mask_number right = 1
mask_number all = 2

-- how many entries so many words are
abbrev pub entries_in : List ℕ → ℕ
entries_in ws = length ws / 4

unfoldable pub token_count : Tokens → ℕ
token_count nothing = 0
token_count (t then ts) = suc (token_count ts)

unfoldable pub list_count : Lists → ℕ
list_count neither = 0
list_count (ts or ls) = suc (list_count ls)

-- each token's entries; alternatives are followed by each list's mark and entries, and the outer list has no mark
unfoldable mutual
  pub entries_of : Token → List ℕ
  entries_of (Byte v) = entry 0 v 0 0
  entries_of (NotByte v) = entry 1 v 0 0
  entries_of (MaskedByte v m) = entry 2 v (mask_number m) 0
  entries_of (NotMaskedByte v m) = entry 3 v (mask_number m) 0
  entries_of (Jump from none) = entry 4 from 0 0
  entries_of (Jump from (some to)) = entry 4 from to 1
  entries_of (Alternatives ls) = entry 5 (list_count ls) (entries_in (list_entries ls)) 0 ++ list_entries ls

  pub entries : Tokens → List ℕ
  entries nothing = []
  entries (t then ts) = entries_of t ++ entries ts

  pub list_entries : Lists → List ℕ
  list_entries neither = []
  list_entries (ts or ls) = entry 6 (token_count ts) (entries_in (entries ts)) 0 ++ (entries ts ++ list_entries ls)
