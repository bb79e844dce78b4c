-- What a reader of an input may answer. Assumes nothing: this is a definition.
-- To be believed: nothing.
use Rattle.std.specs.Prelude.{ℕ, ◌≤◌, Result, IfOk}

-- no more bytes than there is room for
abbrev pub Within : {E : Type 0} → Result ℕ E → ℕ → Type 0
Within r room = IfOk r (λ n. n ≤ room)
