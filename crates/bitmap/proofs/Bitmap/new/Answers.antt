-- `bitmap::Bitmap::new` meets its contract. Assumes nothing.
use Rattle.std.proofs.Common.{◌∙◌}
use Rattle.bitmap.specs.Bitmap.{has}
use Rattle.bitmap.proofs.Bits.{bit_zero}
use Rattle.bitmap.proofs.Words.{four}
use Rattle.bitmap.proofs.Bitmap.new.Goals as goal

pub returns : goal.returns
unfolding has
returns c = λ v h. four (λ i. 0) v h ∙ bit_zero _
