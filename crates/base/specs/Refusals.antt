-- The numbers of 01's refusal table. Assumes nothing: this is a definition.
-- To be believed: all.
use Rattle.std.specs.Prelude.{ℕ}
use Rattle.base.specs.declared.Refusal.{Refusal}
use Rattle.base.specs.declared.Refusal.TheVariants.{TextTooLong, Unexpected, NumberTooBig, JumpEmpty, JumpRangeInvalid, JumpAtBound, JumpUnboundedInAlternation, JumpTooBigInAlternation, CannotNegateMaskAll, HexStringTooDeep, TooManyTokens, NotSimple, TooManyNodes, BranchTooLong, Unsound, BadWindow, TooManyLiterals, NoRoom, NotPlain}

-- the number of each refusal
abbrev pub number_of : Refusal → ℕ
number_of TextTooLong = 1
number_of Unexpected = 2
number_of NumberTooBig = 3
number_of JumpEmpty = 4
number_of JumpRangeInvalid = 5
number_of JumpAtBound = 6
number_of JumpUnboundedInAlternation = 7
number_of JumpTooBigInAlternation = 8
number_of CannotNegateMaskAll = 9
number_of HexStringTooDeep = 10
number_of TooManyTokens = 11
number_of NotSimple = 12
number_of TooManyNodes = 13
number_of BranchTooLong = 14
number_of Unsound = 15
number_of BadWindow = 16
number_of TooManyLiterals = 17
number_of NoRoom = 18
number_of NotPlain = 19
