-- What fits is copied; what stands past the end is left out. Assumes nothing.
use Rattle.std.proofs.Common.{refl, sym}
use Rattle.printing.proofs.LaidLaws.{laid_past, laid_copied}
use Rattle.printing.proofs.Writer.put_bytes.Goals.{then-at-end, else-at-end}
use Rattle.printing.proofs.Writer.put_bytes.Goals as goal

pub returns : goal.returns
returns c =
    let p = c.args.self.now in
    let s = c.args.s.now in
    elim c.if-at-end.branch [
      | then-at-end w ↦ (
          let e = laid_copied s p.out.now w.copy_from_slice.new.self p.at w.min-n.result w.if-at-end.true w.min-n.ensures w.copy_from_slice.ensures.after in
          rw w.self-is record { same = refl; put = record { next = refl; holds = e } }
          )
      | else-at-end w ↦ rw w.self-is record { same = refl; put = record { next = refl; holds = sym (laid_past s p.out.now p.at w.if-at-end.false) } }
    ]
