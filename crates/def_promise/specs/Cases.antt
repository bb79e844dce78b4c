-- When compiling refuses, by 12, by 14 and by 13. Assumes nothing: these are definitions.
-- To be believed: all.
use Rattle.std.proofs.Math.Option.{none, some}
use Rattle.std.specs.Prelude.{ℕ, suc, ◌+◌, ◌<◌}
use Rattle.def_meaning.specs.Limits.{jump_limit, branch_limit, node_limit}
use Rattle.def_meaning.specs.Tokens.{Token, Tokens, Lists, Jump, Alternatives, ◌then◌, ◌or◌}
use Rattle.def_meaning.specs.Programs.{Item, Prog, Branches, one, jump, range, alt, end, ◌▹◌, stop, or as branch}

-- 12: a jump unbounded or above 65,535
pub data Far : Token → Type 0 where
  unbounded : {from : ℕ} → Far (Jump from none)
  above : {from to : ℕ} → jump_limit < to → Far (Jump from (some to))

-- what no branch holds: such a jump, a range, nested alternatives
pub data Unfit : Token → Type 0 where
  a_jump : {t : Token} → Far t → Unfit t
  a_range : {from to : ℕ} → from < to → Unfit (Jump from (some to))
  nested : {ls : Lists} → Unfit (Alternatives ls)

-- a list that holds such a token; lists of which one does
pub data HoldsUnfit : Tokens → Type 0 where
  here : {t : Token} {ts : Tokens} → Unfit t → HoldsUnfit (t then ts)
  further : {t : Token} {ts : Tokens} → HoldsUnfit ts → HoldsUnfit (t then ts)

pub data OneHoldsUnfit : Lists → Type 0 where
  this_list : {ts : Tokens} {ls : Lists} → HoldsUnfit ts → OneHoldsUnfit (ts or ls)
  other_list : {ts : Tokens} {ls : Lists} → OneHoldsUnfit ls → OneHoldsUnfit (ts or ls)

-- so a pattern is not simple
pub data Complex : Tokens → Type 0 where
  far : {t : Token} {ts : Tokens} → Far t → Complex (t then ts)
  inside : {ls : Lists} {ts : Tokens} → OneHoldsUnfit ls → Complex (Alternatives ls then ts)
  next : {t : Token} {ts : Tokens} → Complex ts → Complex (t then ts)

-- the nodes of a program: alternatives and each of their branches are nodes too
unfoldable mutual
  pub size_of : Item → ℕ
  size_of (one t) = 1
  size_of (jump n) = 1
  size_of (range a b) = 1
  size_of (alt bs) = suc (size_in bs)

  pub size : Prog → ℕ
  size end = 0
  size (i ▹ p) = size_of i + size p

  pub size_in : Branches → ℕ
  size_in stop = 0
  size_in (branch p bs) = suc (size p + size_in bs)

-- 14: a branch above 255 nodes
pub data LongIn : Branches → Type 0 where
  this_branch : {p : Prog} {bs : Branches} → branch_limit < size p → LongIn (branch p bs)
  other_branch : {p : Prog} {bs : Branches} → LongIn bs → LongIn (branch p bs)

pub data Long : Prog → Type 0 where
  here : {bs : Branches} {p : Prog} → LongIn bs → Long (alt bs ▹ p)
  further : {i : Item} {p : Prog} → Long p → Long (i ▹ p)

-- 13: more than 512 nodes
abbrev pub Large : Prog → Type 0
Large p = node_limit < size p
