-- `bitmap::word_count` meets its contract. Assumes nothing.
use lib.Count.{ones-le}
use Rattle.bitmap.proofs.Tally.{tally_ones}
use Rattle.bitmap.proofs.word_count.Goals as goal

pub returns : goal.returns
returns c =
    (tally_ones 64 c.args.w c.ranges.w.fits, ones-le 64 c.args.w c.ranges.w.fits)
