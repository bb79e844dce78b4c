-- Values that a text can spell, and bytes. Assumes nothing.
use mathlib.Core.List.{List, [], ◌∷◌, ◌++◌}
use Prim.Native.Nat.{ℕ}
use Rattle.def_meaning.specs.Tokens.{Lists, neither, ◌or◌}
use Rattle.def_meaning.specs.Values.{Bytes, SpelledOne, SpelledFirst, SpelledMore}

-- lists of which there is one are lists, one or none
pub any_spelled : (ls : Lists) → SpelledFirst ls → SpelledMore ls
unfolding SpelledOne
any_spelled neither h = absurd h
any_spelled (ts or ls) h = h

-- bytes end to end are bytes, and so are the parts of bytes
pub bytes_join : (a b : List ℕ) → Bytes a → Bytes b → Bytes (a ++ b)
unfolding Bytes
bytes_join [] b h g = g
bytes_join (x ∷ a) b h g = (h.0, bytes_join a b h.1 g)

pub bytes_left_lem : (a b : List ℕ) → Bytes (a ++ b) → Bytes a
unfolding Bytes
bytes_left_lem [] b h = tt
bytes_left_lem (x ∷ a) b h = (h.0, bytes_left_lem a b h.1)

pub bytes_right : (a b : List ℕ) → Bytes (a ++ b) → Bytes b
unfolding Bytes
bytes_right [] b h = h
bytes_right (x ∷ a) b h = bytes_right a b h.1
