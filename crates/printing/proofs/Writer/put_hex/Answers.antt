-- One digit after the other. Assumes nothing.
use Rattle.std.proofs.Common.{ℕ, ◌/◌, [], ◌∷◌, ap, ◌∙◌}
use Rattle.printing.specs.Numbers.{digit, hex_of}
use Rattle.printing.proofs.WriterLaws.{writes_then, writes_same}
use Rattle.printing.proofs.Writer.put_hex.Goals as goal

pub returns : goal.returns
unfolding hex_of
returns c =
    let b = c.args.b in
    let x = c.digit_of in
    let y = c.digit_of-2 in
    writes_same (hex_of b) (writes_then c.put_byte.ensures c.put_byte-2.ensures) (ap (λ (d : ℕ). d ∷ y.result ∷ []) x.ensures ∙ ap (λ (d : ℕ). digit (b / 16) ∷ d ∷ []) y.ensures)
