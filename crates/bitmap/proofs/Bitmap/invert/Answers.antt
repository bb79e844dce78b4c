-- `bitmap::Bitmap::invert` meets its contract. Assumes nothing.
use Rattle.std.proofs.Common.{◌≡◌, ◌/◌, ◌%◌, ◌-◌, ◌∙◌, ap, get_or, Fits, w64, arith, rules, ℕ}
use Rattle.bitmap.specs.Bitmap.{bit, has}
use Rattle.bitmap.proofs.Bits.{bit_not}
use Rattle.bitmap.proofs.Bitmap.invert.Goals as goal

pub returns : goal.returns
unfolding has
returns c =
    λ v h.
    let ws = c.args.self.words in
    let word : Fits w64 (get_or ws (v / 64) 0) = search rules in
    let at : _ = c.map.ensures.items.at (v / 64) 0 0 (omega arith) in
    let e : get_or c.map.result (v / 64) 0 ≡ 18446744073709551615 - get_or ws (v / 64) 0 = search rules in
    ap (λ (w : ℕ). bit w (v % 64)) e ∙ bit_not 64 (get_or ws (v / 64) 0) (v % 64) word.fits (omega arith)
