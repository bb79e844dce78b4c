-- `classes::Entry::from` meets its contract. Assumes nothing.
use Rattle.std.proofs.Common.{arith}
use Rattle.classes.proofs.EntryLaws as law
use Rattle.classes.proofs.EntryFromArrayU324.from.Goals as goal

pub returns-in-0-default : goal.returns-in-0-default
returns-in-0-default c = law.is_byte _ _ _ c.in-0-default.is-0

pub returns-in-1-default : goal.returns-in-1-default
returns-in-1-default c = law.is_not_byte _ _ _ c.in-1-default.is-0

pub returns-in-2-eq0 : goal.returns-in-2-eq0
returns-in-2-eq0 c = law.is_low _ _ _ c.in-2-eq0.is-0 c.in-2-eq0.is-1

pub returns-in-2-eq1 : goal.returns-in-2-eq1
returns-in-2-eq1 c = law.is_high _ _ _ c.in-2-eq1.is-0 c.in-2-eq1.is-1

pub returns-in-2-default : goal.returns-in-2-default
returns-in-2-default c = law.is_any _ _ _ c.in-2-default.is-0 (omega arith)

pub returns-in-3-eq0 : goal.returns-in-3-eq0
returns-in-3-eq0 c = law.is_not_low _ _ _ c.in-3-eq0.is-0 c.in-3-eq0.is-1

pub returns-in-3-eq1 : goal.returns-in-3-eq1
returns-in-3-eq1 c = law.is_not_high _ _ _ c.in-3-eq1.is-0 c.in-3-eq1.is-1

pub returns-in-3-default : goal.returns-in-3-default
returns-in-3-default c = law.is_not_any _ _ _ c.in-3-default.is-0 (omega arith)

pub returns-in_default : goal.returns-in_default
returns-in_default c = law.is_other _ _ _ (omega arith)
