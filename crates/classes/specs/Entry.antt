-- A token entry by its kind and first two values, taken for the token that it stands for. Total: what is no entry of a byte or a class is taken for a jump.
-- Assumes nothing: these are definitions.
-- To be believed: nothing.
use Rattle.std.specs.Prelude.{cond, List, ℕ, ◌%◌, eqb, get_or}
use Rattle.std.proofs.Math.Option.{none}
use Rattle.def_meaning.specs.Tokens as token
use Rattle.def_meaning.specs.Tokens.{Mask, left, right, all, Token, NotByte, MaskedByte, NotMaskedByte, Jump}
use Rattle.classes.specs.declared.Entry.{Entry}
use Rattle.classes.specs.declared.Entry.TheVariants as entry

unfoldable pub mask_in : ℕ → Mask
mask_in m = cond (eqb m 0) left (cond (eqb m 1) right all)

-- an entry's kind and first two values
unfoldable pub entry_token : ℕ → ℕ → ℕ → Token
entry_token k v m =
    cond (eqb k 0) (token.Byte (v % 256))
    (cond (eqb k 1) (NotByte (v % 256))
    (cond (eqb k 2) (MaskedByte (v % 16) (mask_in m)) (cond (eqb k 3) (NotMaskedByte (v % 16) (mask_in m)) (Jump 0 none))))

-- the entry at the front of some words
abbrev pub entry_at : List ℕ → Token
entry_at ws = entry_token (get_or ws 0 0) (get_or ws 1 0) (get_or ws 2 0)

-- the code's entry
abbrev pub token_of : Entry → Token
token_of (entry.Byte x) = token.Byte x
token_of (entry.NotByte x) = NotByte x
token_of (entry.Low x) = MaskedByte (x % 16) left
token_of (entry.High x) = MaskedByte (x % 16) right
token_of (entry.Any x) = MaskedByte (x % 16) all
token_of (entry.NotLow x) = NotMaskedByte (x % 16) left
token_of (entry.NotHigh x) = NotMaskedByte (x % 16) right
token_of (entry.NotAny x) = NotMaskedByte (x % 16) all
token_of entry.Other = Jump 0 none
