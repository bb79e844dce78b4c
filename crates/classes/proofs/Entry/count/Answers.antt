-- `classes::Entry::count` meets its contract. Assumes nothing.
use Rattle.std.proofs.Common.{◌∙◌, arith}
use Rattle.classes.proofs.ClassLaws.{held_size, size_le}
use Rattle.classes.proofs.EntryLaws.{only_byte}
use Rattle.def_picking.specs.Literals.{taken}
use Rattle.classes.proofs.Entry.count.Goals as goal

pub returns-in-Byte : goal.returns-in-Byte
unfolding taken
returns-in-Byte c = rw c.in-Byte.is (omega arith, omega arith)

pub returns-in_default : goal.returns-in_default
returns-in_default c =
    (c.count.ensures ∙ held_size _ _ (λ v e. c.in_default.not-Byte v (only_byte _ v e)) c.class.ensures, omega (arith, c.count.ensures, size_le c.class.result))
