-- A leaf of either kind of jump, and no other. Assumes nothing.
use Rattle.std.proofs.Common.{◌≡◌, ℕ, false, inl, inr, refl}
use Rattle.def_reading.specs.Lists.{is_jump}
use Rattle.digits.specs.declared.Leaf.{Leaf}
use Rattle.digits.specs.declared.Leaf.TheVariants.{Byte, NotByte, MaskedByte, NotMaskedByte, Jump, OpenJump}
use Rattle.digits.specs.Answers.{token_of}
use Rattle.reader.proofs.is_jump.Goals as goal

no_jump : (k : Leaf) → ((f t : ℕ) → k ≡ Jump f t → ⊥) → ((f : ℕ) → k ≡ OpenJump f → ⊥) → false ≡ is_jump (token_of k)
unfolding is_jump
no_jump (Byte v) a b = refl
no_jump (NotByte v) a b = refl
no_jump (MaskedByte v m) a b = refl
no_jump (NotMaskedByte v m) a b = refl
no_jump (Jump f t) a b = absurd (a f t refl)
no_jump (OpenJump f) a b = absurd (b f refl)

pub returns-in-Jump : goal.returns-in-Jump
unfolding is_jump
returns-in-Jump c = elim c.in-Jump.is [ inl (f, t, e) ↦ rw e refl | inr (f, e) ↦ rw e refl ]

pub returns-in_default : goal.returns-in_default
returns-in_default c = no_jump c.args.tok c.in_default.not-Jump c.in_default.not-OpenJump
