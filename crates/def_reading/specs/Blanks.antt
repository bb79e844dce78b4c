-- Blanks. Assumes nothing: these are definitions.
-- To be believed: nothing.
use Rattle.std.specs.Prelude.{Bool, cond, ◌||◌, List, [], ◌∷◌, ℕ, suc, ◌+◌, eqb, drop, get_or}
use Prim.Native.Char.{code}

-- the byte at an offset; past the text's end stands 0, which is no blank and begins nothing
abbrev pub here : List ℕ → ℕ → ℕ
here t at = get_or t at 0

-- space, tab, CR, LF
unfoldable pub blank : ℕ → Bool
blank c = eqb c (code " ") || (eqb c (code "\t") || (eqb c (code "\r") || eqb c (code "\n")))

-- how many blanks stand at the front
unfoldable pub blanks : List ℕ → ℕ
blanks [] = 0
blanks (c ∷ s) = cond (blank c) (suc (blanks s)) 0

-- the first offset from `at` on at which no blank stands
unfoldable pub skip : List ℕ → ℕ → ℕ
skip t at = at + blanks (drop at t)
