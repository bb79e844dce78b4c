-- What compiling gives, by computing: the refusals are tested in 01's order, 12, 14, 13. Assumes nothing: these are definitions.
-- To be believed: `Compiled`.
use Rattle.std.specs.Prelude.{Bool, true, false, cond, ◌&&◌, List, ℕ, leb}
use Rattle.std.proofs.Math.Option.{none, some}
use Rattle.base.specs.declared.Refusal.{Refusal}
use Rattle.base.specs.declared.Refusal.TheVariants.{NotSimple, TooManyNodes, BranchTooLong}
use Rattle.def_meaning.specs.Limits.{jump_limit, branch_limit, node_limit}
use Rattle.def_meaning.specs.Tokens.{Token, Tokens, Lists, Byte, NotByte, MaskedByte, NotMaskedByte, Jump, Alternatives, nothing, ◌then◌, neither, ◌or◌}
use Rattle.def_meaning.specs.Programs.{Item, Prog, Branches, one, jump, range, alt, end, ◌▹◌, stop, or as branch}
use Rattle.def_compiling.specs.ProgramWords.{nodes}
use Rattle.def_compiling.specs.Compiling.{forward_program, reverse_program, forward_words, reverse_words}

-- a token that may stand in a branch
unfoldable pub flat_token : Token → Bool
flat_token (Byte v) = true
flat_token (NotByte v) = true
flat_token (MaskedByte v m) = true
flat_token (NotMaskedByte v m) = true
flat_token (Jump from none) = false
flat_token (Jump from (some to)) = leb to jump_limit && leb to from
flat_token (Alternatives ls) = false

unfoldable pub flat_tokens : Tokens → Bool
flat_tokens nothing = true
flat_tokens (t then ts) = flat_token t && flat_tokens ts

unfoldable pub flat_branches : Lists → Bool
flat_branches neither = true
flat_branches (ts or ls) = flat_tokens ts && flat_branches ls

-- a token that may stand in the outer list
unfoldable pub simple_token : Token → Bool
simple_token (Byte v) = true
simple_token (NotByte v) = true
simple_token (MaskedByte v m) = true
simple_token (NotMaskedByte v m) = true
simple_token (Jump from none) = false
simple_token (Jump from (some to)) = leb to jump_limit
simple_token (Alternatives ls) = flat_branches ls

unfoldable pub simple : Tokens → Bool
simple nothing = true
simple (t then ts) = simple_token t && simple ts

-- no branch above the limit
unfoldable pub short_in : Branches → Bool
short_in stop = true
short_in (branch p bs) = leb (nodes p) branch_limit && short_in bs

unfoldable pub short_of : Item → Bool
short_of (one t) = true
short_of (jump n) = true
short_of (range a b) = true
short_of (alt bs) = short_in bs

unfoldable pub short : Prog → Bool
short end = true
short (i ▹ p) = short_of i && short p

-- no more nodes than the limit
unfoldable pub few : Prog → Bool
few p = leb (nodes p) node_limit

-- the words of the two programs, or a refusal
pub data Compiled : Type 0 where
  compiled : List ℕ → List ℕ → Compiled
  refused : Refusal → Compiled

unfoldable pub compile : Tokens → Compiled
compile ts =
    cond (simple ts)
    (cond (short (forward_program ts) && short (reverse_program ts))
    (cond (few (forward_program ts) && few (reverse_program ts)) (compiled (forward_words ts) (reverse_words ts)) (refused TooManyNodes))
    (refused BranchTooLong))
    (refused NotSimple)
