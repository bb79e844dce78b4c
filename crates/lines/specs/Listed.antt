-- How long a node's line can be, and what a door says of a listing that it was to write. Assumes nothing: these are definitions.
-- To be believed: nothing.
use Rattle.std.specs.Prelude.{Result, Ok, Err, cond, ℕ, leb}
use Rattle.lines.specs.declared.NoRoom.{NoRoom}

-- `range 65535 65535` and its end
abbrev pub line_limit : ℕ
line_limit = 18

-- the length, and that it fits the room or does not
abbrev pub listed_of : ℕ → ℕ → Result ℕ NoRoom
listed_of n room = cond (leb n room) (Ok n) (Err (record { length = n }))
