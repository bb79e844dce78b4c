-- A jump of one is any byte. Assumes nothing.
use Rattle.std.proofs.Common.{inl, inr, refl, rules, ne_eqb}
use Rattle.def_reading.specs.Pieces.{jump_token}
use Rattle.digits.proofs.one_jump.Goals as goal

pub returns-then-to-eq1 : goal.returns-then-to-eq1
unfolding jump_token
returns-then-to-eq1 c = search rules

pub returns-else-from-eq1 : goal.returns-else-from-eq1
unfolding jump_token
returns-else-from-eq1 c = elim c.else-from-eq1.either [ inl w ↦ rw (w.0, ne_eqb c.args.to 1 w.1) refl | inr w ↦ rw (ne_eqb c.args.from 1 w) refl ]
