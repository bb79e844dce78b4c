-- `bitmap::Bitmap::high_half` meets its contract. Assumes nothing.
use Rattle.bitmap.specs.Bitmap.{has}
use Rattle.bitmap.proofs.Halves.{high_bits}
use Rattle.bitmap.proofs.Bitmap.high_half.Goals as goal

pub returns : goal.returns
unfolding has
returns c =
    rw c.from-i.ensures (high_bits c.args.x)
