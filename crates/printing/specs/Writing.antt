-- What a writer into a lent buffer does. Assumes nothing: these are definitions.
-- To be believed: nothing.
use Rattle.std.specs.Prelude.{◌≡◌, List, ℕ, ◌+◌, ◌^◌, ◌<◌}
use Rattle.printing.specs.Laid.{Put}
use Rattle.printing.specs.declared.Writer.{Writer}

-- the place after n bytes more is a number of the machine
abbrev pub Room : Writer → ℕ → Type 0
Room w n = w.at + n < 2 ^ 64

-- the same buffer, with the bytes bs laid in where the writer stood, and the place after them
pub record Writes (w : Writer) (bs : List ℕ) (v : Writer) : Type 0 where
  pub same : v.out.ghost_name ≡ w.out.ghost_name
  pub put : Put w.out.now w.at bs v.at v.out.now
