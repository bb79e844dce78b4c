-- Each leaf has the entry that the definition gives it. Assumes nothing.
use Rattle.std.proofs.Common.{[], ◌∷◌, sym, ap, ap₂, ◌∙◌}
use Rattle.def_meaning.specs.Entries.{entries_of}
use Rattle.digits.specs.declared.Leaf.{Leaf}
use Rattle.digits.specs.Answers.{token_of}
use Rattle.reader.proofs.entry.Goals as goal

pub returns-in-Byte : goal.returns-in-Byte
unfolding entries_of
returns-in-Byte c = ap (λ v. 0 ∷ v ∷ 0 ∷ 0 ∷ []) c.into.ensures ∙ ap (λ (k : Leaf). entries_of (token_of k)) (sym c.in-Byte.is)

pub returns-in-NotByte : goal.returns-in-NotByte
unfolding entries_of
returns-in-NotByte c = ap (λ v. 1 ∷ v ∷ 0 ∷ 0 ∷ []) c.into-in-NotByte.ensures ∙ ap (λ (k : Leaf). entries_of (token_of k)) (sym c.in-NotByte.is)

pub returns-in-MaskedByte : goal.returns-in-MaskedByte
unfolding entries_of
returns-in-MaskedByte c = ap₂ (λ v m. 2 ∷ v ∷ m ∷ 0 ∷ []) c.into-in-MaskedByte.ensures c.into-in-MaskedByte-2.ensures ∙ ap (λ (k : Leaf). entries_of (token_of k)) (sym c.in-MaskedByte.is)

pub returns-in-NotMaskedByte : goal.returns-in-NotMaskedByte
unfolding entries_of
returns-in-NotMaskedByte c = ap₂ (λ v m. 3 ∷ v ∷ m ∷ 0 ∷ []) c.into-in-NotMaskedByte.ensures c.into-in-NotMaskedByte-2.ensures ∙ ap (λ (k : Leaf). entries_of (token_of k)) (sym c.in-NotMaskedByte.is)

pub returns-in-Jump : goal.returns-in-Jump
unfolding entries_of
returns-in-Jump c = ap (λ (k : Leaf). entries_of (token_of k)) (sym c.in-Jump.is)

pub returns-in-OpenJump : goal.returns-in-OpenJump
unfolding entries_of
returns-in-OpenJump c = ap (λ (k : Leaf). entries_of (token_of k)) (sym c.in-OpenJump.is)
