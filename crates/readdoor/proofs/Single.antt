-- The door's promise leaves one answer and one pool. Assumes nothing.
use Rattle.std.proofs.Common.{◌≡◌, ℕ, List, Result, Ok, Err, sym, ap₂, ◌∙◌}
use Rattle.base.specs.declared.Refused.{Refused}
use Rattle.base.specs.Refusals.{number_of}
use Rattle.base.proofs.RefusalLaws.{number_one}
use Rattle.def_reading.proofs.PieceLaws.{never}
use Rattle.readdoor.specs.declared.Reading.{Reading}
use Rattle.readdoor.specs.Door.{reads, refused, read_said, read_says, read_leaves}

-- an answer is known by what it says
said_one : (r s : Result Reading Refused) → read_said r ≡ read_said s → r ≡ s
said_one (Ok a) (Ok b) h = let e : a.end ≡ b.end = cc in let u : a.words ≡ b.words = cc in ap₂ reads e u
said_one (Ok a) (Err y) h = never (cc)
said_one (Err x) (Ok b) h = never (cc)
said_one (Err x) (Err y) h = let n : number_of x.why ≡ number_of y.why = cc in let p : x.place ≡ y.place = cc in ap₂ refused (number_one x.why y.why n) p

pub read_single : (t p : List ℕ) (r s : Result Reading Refused) (a b : List ℕ) → read_said r ≡ read_says t p → read_said s ≡ read_says t p → a ≡ read_leaves t p → b ≡ read_leaves t p → (r ≡ s) × (a ≡ b)
read_single t p r s a b h k i j = (said_one r s (h ∙ sym k), i ∙ sym j)
