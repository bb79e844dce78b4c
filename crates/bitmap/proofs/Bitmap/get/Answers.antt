-- `bitmap::Bitmap::get` meets its contract. Assumes nothing.
use Rattle.bitmap.specs.Bitmap.{bit, has}
use Rattle.bitmap.proofs.Bitmap.get.Goals as goal

pub returns : goal.returns
unfolding bit has
returns c = rw c.from-i.ensures
