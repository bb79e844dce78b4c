-- How many literals tokens have, and literal number k of them, told without listing any. Assumes nothing: these are definitions;
-- proofs/NumberLaws.antt shows that they count and number the literals in their order.
-- To be believed: nothing.
use Rattle.std.specs.Prelude.{cond, List, [], ◌∷◌, ◌++◌, ℕ, ◌+◌, ◌-◌, ◌*◌, ◌/◌, ◌%◌, ltb, length, get_or}
use Rattle.def_meaning.specs.Tokens.{Token, Tokens, Lists, Byte, NotByte, MaskedByte, NotMaskedByte, Jump, Alternatives, nothing, ◌then◌, neither, ◌or◌}
use Rattle.def_picking.specs.Literals.{taken}

unfoldable mutual
  -- a token has as many as it takes bytes, alternatives those of all branches; they multiply over tokens
  pub count_of : Token → ℕ
  count_of (Byte v) = length (taken (Byte v))
  count_of (NotByte v) = length (taken (NotByte v))
  count_of (MaskedByte v m) = length (taken (MaskedByte v m))
  count_of (NotMaskedByte v m) = length (taken (NotMaskedByte v m))
  count_of (Jump from to) = length (taken (Jump from to))
  count_of (Alternatives ls) = count_in ls

  pub count : Tokens → ℕ
  count nothing = 1
  count (t then ts) = count_of t * count ts

  pub count_in : Lists → ℕ
  count_in neither = 0
  count_in (ts or ls) = count ts + count_in ls

-- The literals that follow p prefixes are numbered from 0. Those of a branch come before those of the next, and in a branch of n literals
-- number q begins with prefix q / n.
unfoldable pub prefix_in : Lists → ℕ → ℕ → ℕ
prefix_in neither p q = 0
prefix_in (ts or ls) p q = cond (ltb q (p * count ts)) (q / count ts) (prefix_in ls p (q - p * count ts))

-- the prefix with which literal number q begins, after one token
unfoldable pub prefix_of : Token → ℕ → ℕ → ℕ
prefix_of (Byte v) p q = q / count_of (Byte v)
prefix_of (NotByte v) p q = q / count_of (NotByte v)
prefix_of (MaskedByte v m) p q = q / count_of (MaskedByte v m)
prefix_of (NotMaskedByte v m) p q = q / count_of (NotMaskedByte v m)
prefix_of (Jump from to) p q = q / count_of (Jump from to)
prefix_of (Alternatives ls) p q = prefix_in ls p q

-- and after several: the last token is asked first
unfoldable pub prefixed : Tokens → ℕ → ℕ → ℕ
prefixed nothing p k = k
prefixed (t then ts) p k = prefix_of t p (prefixed ts (p * count_of t) k)

-- the byte number j that a token takes
abbrev pub single : Token → ℕ → List ℕ
single t j = get_or (taken t) (j % count_of t) 0 ∷ []

unfoldable mutual
  -- how literal number q ends, after its prefix: of one token
  pub ending_of : Token → ℕ → ℕ → List ℕ
  ending_of (Byte v) p q = single (Byte v) q
  ending_of (NotByte v) p q = single (NotByte v) q
  ending_of (MaskedByte v m) p q = single (MaskedByte v m) q
  ending_of (NotMaskedByte v m) p q = single (NotMaskedByte v m) q
  ending_of (Jump from to) p q = single (Jump from to) q
  ending_of (Alternatives ls) p q = ending_in ls p q

  -- of several
  pub ending : Tokens → ℕ → ℕ → List ℕ
  ending nothing p k = []
  ending (t then ts) p k = ending_of t p (prefixed ts (p * count_of t) k) ++ ending ts (p * count_of t) k

  -- of alternatives
  pub ending_in : Lists → ℕ → ℕ → List ℕ
  ending_in neither p q = []
  ending_in (ts or ls) p q = cond (ltb q (p * count ts)) (ending ts 1 (q % count ts)) (ending_in ls p (q - p * count ts))

-- literal number k
abbrev pub literal_at : Tokens → ℕ → List ℕ
literal_at ts k = ending ts 1 k
