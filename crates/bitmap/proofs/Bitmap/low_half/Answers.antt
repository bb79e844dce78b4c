-- `bitmap::Bitmap::low_half` meets its contract. Assumes nothing.
use Rattle.std.proofs.Common.{◌∙◌, ◌*◌, ◌%◌, ◌^◌, arith}
use Rattle.bitmap.specs.Bitmap.{has}
use Rattle.bitmap.proofs.Words.{four}
use Rattle.bitmap.proofs.Halves.{low_bits}
use Rattle.bitmap.proofs.Bitmap.low_half.Goals as goal

pub returns : goal.returns
unfolding has
returns c =
    λ v h. four (λ i. (0x0001_0001_0001_0001 * 2 ^ (c.args.x % 16)) % 2 ^ 64) v h ∙ low_bits (c.args.x % 16) v (omega arith) h
