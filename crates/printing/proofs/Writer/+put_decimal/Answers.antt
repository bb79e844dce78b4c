-- The digits before the last are those of a tenth. Assumes nothing.
use Rattle.std.proofs.Common.{◌≡◌, ℕ, ◌/◌, ◌%◌, ◌≤◌, List, [], ◌∷◌, ◌++◌, length, sym, ap, ◌∙◌, arith}
use Rattle.printing.specs.Numbers.{digit, decimal_of}
use Rattle.printing.proofs.WriterLaws.{writes_then, writes_same}
use Rattle.printing.proofs.NumberLaws.{decimal_one, decimal_more, decimal_length}
use Rattle.printing.proofs.Writer.+put_decimal.Goals.{then-n-ge10, else-n-ge10}
use Rattle.printing.proofs.Writer.+put_decimal.Goals as goal

pub put_byte-requires : goal.put_byte-requires
put_byte-requires t c =
    let n = c.args.n in
    elim c.if-n-ge10.branch [
      | then-n-ge10 w ↦ (
          let l : length (decimal_of (n / 10)) ≤ 19 = decimal_length 18 (n / 10) (omega arith) in
          let m = w.put_decimal.ensures.put.next in
          rw w.self-is (omega arith)
          )
      | else-n-ge10 w ↦ rw w.self-is (omega arith)
    ]

pub returns : goal.returns
returns t c =
    let n = c.args.n in
    let last = ap (λ (x : ℕ). x ∷ []) c.digit_of.ensures in
    elim c.if-n-ge10.branch [
      | then-n-ge10 w ↦ (
          let b = rw w.self-is at c.put_byte.ensures in
          writes_same (decimal_of n) (writes_then w.put_decimal.ensures b) (ap (λ (x : List ℕ). decimal_of (n / 10) ++ x) last ∙ sym (decimal_more n w.if-n-ge10.true))
          )
      | else-n-ge10 w ↦ (
          let b = rw w.self-is at c.put_byte.ensures in
          let e : n % 10 ≡ n = omega arith in
          writes_same (decimal_of n) b (last ∙ ap (λ (d : ℕ). digit d ∷ []) e ∙ sym (decimal_one n w.if-n-ge10.false))
          )
    ]
