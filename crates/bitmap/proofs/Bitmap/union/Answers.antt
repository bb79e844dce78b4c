-- `bitmap::Bitmap::union` meets its contract. Assumes nothing.
use Rattle.std.proofs.Common.{◌≡◌, ◌/◌, ◌%◌, ◌∙◌, ap, get_or, arith, rules, bit_or, ℕ}
use Rattle.bitmap.specs.Bitmap.{bit, has}
use Rattle.bitmap.proofs.Bits.{bit_or_lem}
use Rattle.bitmap.proofs.Bitmap.union.Goals as goal

pub returns : goal.returns
unfolding has
returns c =
    λ v h.
    let ws = c.args.self.words in
    let us = c.args.other.words in
    let at = c.from_fn.ensures.items.at (v / 64) 0 (omega arith) in
    let e : get_or c.from_fn.result (v / 64) 0 ≡ bit_or (get_or ws (v / 64) 0) (get_or us (v / 64) 0) = search rules in
    ap (λ (w : ℕ). bit w (v % 64)) e ∙ bit_or_lem (get_or ws (v / 64) 0) (get_or us (v / 64) 0) (v % 64)
