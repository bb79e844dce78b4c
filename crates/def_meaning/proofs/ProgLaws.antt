-- Laws of programs. Assumes nothing.
use mathlib.Core.Path.{◌≡◌, sym}
use Rattle.def_meaning.specs.Programs.{Prog, end, ◌▹◌, ◌⧺◌}
use Rattle.def_meaning.specs.Choices.{Order}
use Rattle.def_meaning.specs.Rows.{◌⊗◌, rows, rows_of}
use Rattle.def_meaning.proofs.RowLaws.{times_assoc, one_times}

pub rows_join : (o : Order) (p q : Prog) → rows o (p ⧺ q) ≡ rows o p ⊗ rows o q
unfolding rows ◌⧺◌
rows_join o end q = sym (one_times (rows o q))
rows_join o (i ▹ p) q = rw (rows_join o p q) (sym (times_assoc (rows_of o i) (rows o p) (rows o q)))
