-- The digits before the last are those of a tenth. Assumes nothing.
use Rattle.printing.proofs.Writer.+put_decimal.Given as goal

abbrev pub decreases-put_decimal : goal.decreases-put_decimal
decreases-put_decimal l = l.n
