-- Past the end nothing is stored; before it, one byte. Assumes nothing.
use Rattle.std.proofs.Common.{refl, sym}
use Rattle.std.proofs.Math.Seq.{set_out}
use Rattle.printing.specs.Laid.{laid}
use Rattle.printing.proofs.Writer.put_byte.Goals.{then-self, else-self}
use Rattle.printing.proofs.Writer.put_byte.Goals as goal

pub returns : goal.returns
unfolding laid
returns c =
    let p = c.args.self.now in
    elim c.if-self.branch [
      | then-self w ↦ rw w.self-is record { same = refl; put = record { next = refl; holds = refl } }
      | else-self w ↦ rw w.self-is record { same = refl; put = record { next = refl; holds = sym (set_out p.out.now p.at c.args.b w.if-self.false) } }
    ]
