-- The four blanks, and no other byte. Assumes nothing.
use Rattle.std.proofs.Common.{◌≡◌, ℕ, false, inl, inr, refl, arith, ne_eqb, rules}
use Rattle.std.proofs.lemmas.Bool.Decides.{nat_tests}
use Prim.Native.Char.{code}
use Rattle.def_reading.specs.Blanks.{blank}
use Rattle.digits.proofs.is_blank.Goals as goal

none_of : (c : ℕ) → (c ≡ 32 → ⊥) → (c ≡ 9 → ⊥) → (c ≡ 13 → ⊥) → (c ≡ 10 → ⊥) → false ≡ blank c
unfolding blank
none_of c h i j k = simp (ne_eqb c (code " ") h, ne_eqb c (code "\t") i, ne_eqb c (code "\r") j, ne_eqb c (code "\n") k)

pub returns-in_default : goal.returns-in_default
returns-in_default c = none_of c.args.c (λ e. omega arith) (λ e. omega arith) (λ e. omega arith) (λ e. omega arith)

pub returns-in-32 : goal.returns-in-32
unfolding blank
returns-in-32 c = elim c.in-32.is [ inl e ↦ rw e refl | inr e ↦ rw e refl ]

pub returns-in-32-2 : goal.returns-in-32-2
unfolding blank
returns-in-32-2 c = search rules

pub returns-in_default-2 : goal.returns-in_default-2
unfolding blank
returns-in_default-2 c = grind (arith, nat_tests)
