-- `bitmap::Bitmap::with` meets its contract. Assumes nothing.
use Rattle.std.proofs.Common.{◌≡◌, length, arith, rules}
use Rattle.bitmap.specs.Bitmap.{has}
use Rattle.bitmap.proofs.Words.{set_one}
use Rattle.bitmap.proofs.Bitmap.with.Goals as goal

pub returns : goal.returns
unfolding has
returns c =
    let four : length c.args.self.words ≡ 4 = search rules in
    rw c.from-i.ensures (λ v h. set_one c.args.self.words c.args.b v (omega arith))
