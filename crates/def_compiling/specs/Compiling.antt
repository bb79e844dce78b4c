-- Compiling, as 01 and 02 have it: from tokens to a program and its words, both ways round, and the cases of refusals 12, 14 and 13.
-- Assumes nothing: these are definitions.
-- To be believed: `item_of` `added` `branches_for` `backwards_of` `backwards` `backwards_in` `forward_program` `reverse_program` `Either`.
use Rattle.std.specs.Prelude.{cond, ◌⊎◌, List, ℕ, ◌+◌, ◌*◌, ◌<◌, leb, ltb}
use Rattle.std.proofs.Math.Option.{Option, none, some}
use Rattle.def_meaning.specs.Limits.{jump_limit, branch_limit, node_limit}
use Rattle.def_meaning.specs.Tokens.{left, right, all, Token, Tokens, Lists, Byte, NotByte, MaskedByte, NotMaskedByte, Jump, Alternatives, nothing, ◌then◌, neither, ◌or◌, ◌⊕◌}
use Rattle.def_meaning.specs.Programs.{byte, mask, negated_mask, Item, Prog, Branches, one, jump, range, alt, end, ◌▹◌, stop, or as branch}
use Rattle.def_compiling.specs.ProgramWords.{words_of, nodes}

-- an item that is a jump, and its length
unfoldable pub jump_of : Item → Option ℕ
jump_of (one t) = none
jump_of (jump n) = some n
jump_of (range a b) = none
jump_of (alt bs) = none

-- the items i and j one after the other: two jumps are one if their sum is at most the limit
unfoldable pub pair_by : Option ℕ → Option ℕ → Item → Item → Prog
pair_by none n i j = i ▹ j ▹ end
pair_by (some m) none i j = i ▹ j ▹ end
pair_by (some m) (some n) i j = cond (leb (m + n) jump_limit) (jump (m + n) ▹ end) (i ▹ j ▹ end)

-- adding a jump enlarges the last node of the same list if that is a jump and the sum is at most the limit, else appends;
-- adding anything else appends
unfoldable pub add : Prog → Item → Prog
add end j = j ▹ end
add (i ▹ end) j = pair_by (jump_of i) (jump_of j) i j
add (i ▹ (k ▹ p)) j = i ▹ add (k ▹ p) j

unfoldable mutual
  -- a byte is Byte; `~AB` is NegatedMask AB, FF; `?X` has mask 0F; `X?` has value 16·X, mask F0; their negations are NegatedMask
  -- with the same fields; `??` and `[n]` add a jump; `[a-b]` with a below b is JumpRange; alternatives are an Alternation
  pub item_of : Token → Item
  item_of (Byte v) = one (byte v)
  item_of (NotByte v) = one (negated_mask v 0xFF)
  item_of (MaskedByte v left) = one (mask v 0x0F)
  item_of (MaskedByte v right) = one (mask (16 * v) 0xF0)
  item_of (MaskedByte v all) = jump 1
  item_of (NotMaskedByte v left) = one (negated_mask v 0x0F)
  item_of (NotMaskedByte v right) = one (negated_mask (16 * v) 0xF0)
  -- 9 refuses `~??`: no text has this token, and it matches nothing
  item_of (NotMaskedByte v all) = one (negated_mask 0 0)
  -- 12 refuses an unbounded jump: no program has this item
  item_of (Jump from none) = jump from
  item_of (Jump from (some to)) = cond (ltb from to) (range from to) (jump from)
  item_of (Alternatives ls) = alt (branches_for ls)

  -- the tokens added one by one to the program p
  pub added : Tokens → Prog → Prog
  added nothing p = p
  added (t then ts) p = added ts (add p (item_of t))

  -- each branch is a list of its own
  pub branches_for : Lists → Branches
  branches_for neither = stop
  branches_for (ts or ls) = branch (added ts end) (branches_for ls)

-- every list read backwards, branches in their order
unfoldable mutual
  pub backwards_of : Token → Token
  backwards_of (Byte v) = Byte v
  backwards_of (NotByte v) = NotByte v
  backwards_of (MaskedByte v m) = MaskedByte v m
  backwards_of (NotMaskedByte v m) = NotMaskedByte v m
  backwards_of (Jump from to) = Jump from to
  backwards_of (Alternatives ls) = Alternatives (backwards_in ls)

  pub backwards : Tokens → Tokens
  backwards nothing = nothing
  backwards (t then ts) = backwards ts ⊕ (backwards_of t then nothing)

  pub backwards_in : Lists → Lists
  backwards_in neither = neither
  backwards_in (ts or ls) = backwards ts or backwards_in ls

unfoldable pub forward_program : Tokens → Prog
forward_program ts = added ts end

unfoldable pub reverse_program : Tokens → Prog
reverse_program ts = added (backwards ts) end

unfoldable pub forward_words : Tokens → List ℕ
forward_words ts = words_of (forward_program ts)

unfoldable pub reverse_words : Tokens → List ℕ
reverse_words ts = words_of (reverse_program ts)

-- 12. A jump unbounded or above the limit
unfoldable pub TooFar : Token → Type 0
TooFar (Byte v) = ⊥
TooFar (NotByte v) = ⊥
TooFar (MaskedByte v m) = ⊥
TooFar (NotMaskedByte v m) = ⊥
TooFar (Jump from none) = Unit {0}
TooFar (Jump from (some to)) = jump_limit < to
TooFar (Alternatives ls) = ⊥

-- a range or nested alternatives, which no branch holds
unfoldable pub TooRich : Token → Type 0
TooRich (Byte v) = ⊥
TooRich (NotByte v) = ⊥
TooRich (MaskedByte v m) = ⊥
TooRich (NotMaskedByte v m) = ⊥
TooRich (Jump from none) = Unit {0}
TooRich (Jump from (some to)) = from < to
TooRich (Alternatives ls) = Unit {0}

-- one of the tokens is such; one in one of the lists is
unfoldable pub Some : (Token → Type 0) → Tokens → Type 0
Some P nothing = ⊥
Some P (t then ts) = P t ⊎ Some P ts

unfoldable pub SomeIn : (Token → Type 0) → Lists → Type 0
SomeIn P neither = ⊥
SomeIn P (ts or ls) = Some P ts ⊎ SomeIn P ls

-- inside a branch, a token that makes it not simple
unfoldable pub InBranch : Token → Type 0
InBranch (Byte v) = ⊥
InBranch (NotByte v) = ⊥
InBranch (MaskedByte v m) = ⊥
InBranch (NotMaskedByte v m) = ⊥
InBranch (Jump from to) = ⊥
InBranch (Alternatives ls) = SomeIn (λ t. TooFar t ⊎ TooRich t) ls

unfoldable pub Unsimple : Tokens → Type 0
Unsimple ts = Some (λ t. TooFar t ⊎ InBranch t) ts

-- 14. A branch above the limit of nodes
unfoldable pub LongIn : Branches → Type 0
LongIn stop = ⊥
LongIn (branch p bs) = (branch_limit < nodes p) ⊎ LongIn bs

unfoldable pub LongOf : Item → Type 0
LongOf (one t) = ⊥
LongOf (jump n) = ⊥
LongOf (range a b) = ⊥
LongOf (alt bs) = LongIn bs

unfoldable pub LongBranch : Prog → Type 0
LongBranch end = ⊥
LongBranch (i ▹ p) = LongOf i ⊎ LongBranch p

-- 13. More nodes than the limit
unfoldable pub ManyNodes : Prog → Type 0
ManyNodes p = node_limit < nodes p

-- given if either program breaks the limit
abbrev pub Either : (Prog → Type 0) → Tokens → Type 0
Either P ts = P (forward_program ts) ⊎ P (reverse_program ts)
