-- The line of each node in a listing, kind by kind. Assumes nothing: these are definitions.
-- To be believed: all.
use Rattle.std.specs.Prelude.{List, ℕ, ◌<◌}
use Rattle.base.specs.Text.{ascii}
use Rattle.lines.specs.Lines.{blank, number_line, numbers_line, byte_line, mask_line}
use Rattle.def_meaning.specs.NodeWords.{word}

pub data NodeLine : ℕ → List ℕ → Type 0 where
  kind_0 : {v : ℕ} → v < 256 → NodeLine (word 0 v 0) (byte_line (ascii "byte ") v)
  kind_1 : {v m : ℕ} → v < 256 → m < 256 → NodeLine (word 1 v m) (mask_line (ascii "mask ") v m)
  kind_2 : {v m : ℕ} → v < 256 → m < 256 → NodeLine (word 2 v m) (mask_line (ascii "not ") v m)
  kind_3 : {n : ℕ} → n < 65536 → NodeLine (word 3 n 0) (number_line (ascii "jump ") n)
  kind_4 : {a b : ℕ} → a < 65536 → b < 65536 → NodeLine (word 4 a b) (numbers_line (ascii "range ") a blank b)
  kind_5 : NodeLine (word 5 0 0) (ascii "dot\n")
  kind_6 : {n : ℕ} → n < 65536 → NodeLine (word 6 n 0) (number_line (ascii "alt ") n)
  kind_7 : {n : ℕ} → n < 256 → NodeLine (word 7 n 0) (number_line (ascii "branch ") n)
