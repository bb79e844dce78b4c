-- A quoted text as bytes. Assumes nothing: this is a definition.
-- To be believed: all.
use Rattle.std.specs.Prelude.{List, [] as none, ◌∷◌ as ◌and◌, ℕ}
use Prim.Native.Char.{code}
use Prim.Native.String.{String, [], ◌∷◌}

-- the bytes of a text of which every character is ASCII
abbrev pub ascii : String → List ℕ
ascii [] = none
ascii (c ∷ s) = code c and ascii s
