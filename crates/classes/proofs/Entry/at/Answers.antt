-- `classes::Entry::at` meets its contract. Assumes nothing.
use Rattle.std.proofs.Common.{◌*◌, ◌%◌, ◌<◌, arith, rules}
use Rattle.classes.proofs.EntryLaws.{neither_taken}
use Rattle.classes.proofs.MemberLaws as law
use Rattle.classes.proofs.Entry.at.Goals as goal

pub past_gap-requires : goal.past_gap-requires
past_gap-requires c =
    let l : c.in-NotByte.x < 256 = search rules in
    let h = law.not_in c.in-NotByte.x c.args.j l (rw c.in-NotByte.is at c.requires) in
    (omega (arith, h.0), omega arith)

pub overflow_cast-result : goal.overflow_cast-result
overflow_cast-result c =
    let l : c.in-NotByte.x < 256 = search rules in
    let h = law.not_in c.in-NotByte.x c.args.j l (rw c.in-NotByte.is at c.requires) in
    record { fits = omega (arith, h.0, c.past_gap.ensures, law.gapped_le c.args.j c.from.result 1) }

pub overflow_mul-result : goal.overflow_mul-result
overflow_mul-result c = let h = law.low_in _ _ (rw c.in-Low.is at c.requires) in record { fits = omega (arith, h.0) }

pub overflow_add-result : goal.overflow_add-result
overflow_add-result c = let h = law.low_in _ _ (rw c.in-Low.is at c.requires) in record { fits = omega (arith, h.0, c.from-in-Low.ensures) }

pub overflow_cast-result-in-Low : goal.overflow_cast-result-in-Low
overflow_cast-result-in-Low c = let h = law.low_in _ _ (rw c.in-Low.is at c.requires) in record { fits = omega (arith, h.0, c.from-in-Low.ensures) }

pub overflow_add-result-in-High : goal.overflow_add-result-in-High
overflow_add-result-in-High c = let h = law.high_in _ _ (rw c.in-High.is at c.requires) in record { fits = omega (arith, h.0, c.from-in-High.ensures) }

pub overflow_cast-result-in-High : goal.overflow_cast-result-in-High
overflow_cast-result-in-High c = let h = law.high_in _ _ (rw c.in-High.is at c.requires) in record { fits = omega (arith, h.0, c.from-in-High.ensures) }

pub overflow_mul-result-in-NotLow : goal.overflow_mul-result-in-NotLow
overflow_mul-result-in-NotLow c = let h = law.not_low_in _ _ (rw c.in-NotLow.is at c.requires) in record { fits = omega (arith, h.0) }

pub overflow_add-result-in-NotLow : goal.overflow_add-result-in-NotLow
overflow_add-result-in-NotLow c =
    let h = law.not_low_in _ _ (rw c.in-NotLow.is at c.requires) in
    record { fits = omega (arith, h.0, c.past_gap-in-NotLow.ensures, law.gapped_le (c.args.j % 15) c.from-in-NotLow.result 1) }

pub overflow_cast-result-in-NotLow : goal.overflow_cast-result-in-NotLow
overflow_cast-result-in-NotLow c =
    let h = law.not_low_in _ _ (rw c.in-NotLow.is at c.requires) in
    record { fits = omega (arith, h.0, c.past_gap-in-NotLow.ensures, law.gapped_le (c.args.j % 15) c.from-in-NotLow.result 1) }

pub past_gap-requires-in-NotHigh : goal.past_gap-requires-in-NotHigh
past_gap-requires-in-NotHigh c = let h = law.not_high_in _ _ (rw c.in-NotHigh.is at c.requires) in (omega (arith, h.0), omega arith)

pub overflow_cast-result-in-NotHigh : goal.overflow_cast-result-in-NotHigh
overflow_cast-result-in-NotHigh c =
    let h = law.not_high_in _ _ (rw c.in-NotHigh.is at c.requires) in
    record { fits = omega (arith, h.0, c.past_gap-in-NotHigh.ensures, law.gapped_le c.args.j (16 * c.from-in-NotHigh.result) 16) }

pub returns-in-Byte : goal.returns-in-Byte
returns-in-Byte c = rw c.in-Byte.is (law.byte_in c.in-Byte.x c.args.j (rw c.in-Byte.is at c.requires))

pub returns-in-NotByte : goal.returns-in-NotByte
returns-in-NotByte c =
    let l : c.in-NotByte.x < 256 = search rules in
    rw (c.in-NotByte.is, c.past_gap.ensures, c.from.ensures) (law.not_in c.in-NotByte.x c.args.j l (rw c.in-NotByte.is at c.requires)).1

pub returns-in-Low : goal.returns-in-Low
returns-in-Low c = rw (c.in-Low.is, c.from-in-Low.ensures) (law.low_in c.in-Low.x c.args.j (rw c.in-Low.is at c.requires)).1

pub returns-in-High : goal.returns-in-High
returns-in-High c = rw (c.in-High.is, c.from-in-High.ensures) (law.high_in c.in-High.x c.args.j (rw c.in-High.is at c.requires)).1

pub returns-in-NotLow : goal.returns-in-NotLow
returns-in-NotLow c =
    rw (c.in-NotLow.is, c.past_gap-in-NotLow.ensures, c.from-in-NotLow.ensures) (law.not_low_in c.in-NotLow.x c.args.j (rw c.in-NotLow.is at c.requires)).1

pub returns-in-NotHigh : goal.returns-in-NotHigh
returns-in-NotHigh c =
    rw (c.in-NotHigh.is, c.past_gap-in-NotHigh.ensures, c.from-in-NotHigh.ensures) (law.not_high_in c.in-NotHigh.x c.args.j (rw c.in-NotHigh.is at c.requires)).1

pub returns-in-Any : goal.returns-in-Any
returns-in-Any c = let h = rw (neither_taken c.args.self c.in-Any.is) at c.requires in absurd (omega (arith, h))
