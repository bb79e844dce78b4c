-- `classes::Entry::class` meets its contract. Assumes nothing.
use Rattle.std.proofs.Common.{◌∙◌, ap, not}
use Rattle.classes.specs.Classes.{passes}
use Rattle.classes.proofs.EntryLaws.{no_class}
use Rattle.classes.proofs.Entry.class.Goals as goal

pub returns-in-NotByte : goal.returns-in-NotByte
unfolding passes
returns-in-NotByte c = rw c.in-NotByte.is c.all_but.ensures

pub returns-in-Low : goal.returns-in-Low
unfolding passes
returns-in-Low c = rw c.in-Low.is c.low_half.ensures

pub returns-in-High : goal.returns-in-High
unfolding passes
returns-in-High c = rw c.in-High.is c.high_half.ensures

pub returns-in-NotLow : goal.returns-in-NotLow
unfolding passes
returns-in-NotLow c = rw c.in-NotLow.is (λ b l. c.invert.ensures b l ∙ ap not (c.low_half-in-NotLow.ensures b l))

pub returns-in-NotHigh : goal.returns-in-NotHigh
unfolding passes
returns-in-NotHigh c = rw c.in-NotHigh.is (λ b l. c.invert-in-NotHigh.ensures b l ∙ ap not (c.high_half-in-NotHigh.ensures b l))

pub returns-in-Byte : goal.returns-in-Byte
returns-in-Byte c = λ b l. c.new.ensures b l ∙ no_class _ c.in-Byte.is b
