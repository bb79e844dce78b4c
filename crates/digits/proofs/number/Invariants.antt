-- The digits from here spell, after the value so far, what all of them spell. Assumes nothing.
use Rattle.std.proofs.Common.{◌≡◌, ◌+◌, ◌≤◌, drop}
use Rattle.def_reading.specs.Pieces.{decimals, numeral}
use Rattle.def_meaning.specs.Limits.{number_limit}
use Rattle.digits.proofs.number.Given as goal

abbrev pub invariant-loop-c : goal.invariant-loop-c
invariant-loop-c l = (numeral 0 (drop l.at l.text) ≡ numeral l.value (drop l.stop l.text)) × (l.at + decimals (drop l.at l.text) ≡ l.stop + decimals (drop l.stop l.text)) × (l.value ≤ number_limit) × (l.stop ≡ l.at + l.c-index)
