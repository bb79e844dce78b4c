-- What tokens yield, and what the literal door answers and leaves in the two lent buffers, case by case. Assumes nothing: these are definitions.
-- To be believed: all.
use Rattle.std.specs.Prelude.{◌≡◌, true, false, ◌⊎◌, ℕ, ◌≤◌, ◌<◌, length}
use mathlib.Core.List.{List, [], map, flatten}
use Rattle.base.specs.declared.Refusal.{Refusal}
use Rattle.base.specs.declared.Refusal.TheVariants.{TooManyLiterals, NotPlain}
use Rattle.base.specs.Refusals.{number_of}
use Rattle.def_meaning.specs.Tokens.{Tokens}
use Rattle.def_grammar.specs.Grammar.{Derives}
use Rattle.def_grammar.specs.Faults.{Fault}
use Rattle.def_picking.specs.Literals.{literals}
use Rattle.def_picking.specs.Runs.{plain_alternatives}
use Rattle.def_picking.specs.Candidates.{unranked, chosen, too_many_literals, Picked, picked, unpicked}
use Rattle.generator.specs.Output.{over}
use Rattle.literaldoor.specs.Door as literaldoor
use Rattle.def_promise.specs.Winners.{Wins}

-- what the tokens ts yield: 19, else 17, else the rank and the literals of what wins; where nothing has a rank, no literals and rank 0
pub data Yields (ts : Tokens) : Picked → Type 0 where
  not_plain : plain_alternatives ts ≡ false → Yields ts (unpicked NotPlain)
  too_many : plain_alternatives ts ≡ true → Wins ts too_many_literals → Yields ts (unpicked TooManyLiterals)
  none_ranked : plain_alternatives ts ≡ true → Wins ts unranked → Yields ts (picked 0 [])
  winner : {rank : ℕ} {us : Tokens} → plain_alternatives ts ≡ true → Wins ts (chosen rank us) → Yields ts (picked rank (literals us))

-- picking from the text t into the bytes b and the lengths l
pub data Picks (t b l : List ℕ) : literaldoor.LiteralsSaid → List ℕ → List ℕ → Type 0 where
  rejected : {x : Refusal} {place : ℕ} → Fault t x place → Picks t b l (literaldoor.refuses (number_of x) place) b l
  refused : {x : Refusal} {reached : ℕ} {ts : Tokens} → Derives t reached ts → Yields ts (unpicked x) → Picks t b l (literaldoor.refuses (number_of x) 0) b l
  no_room : {reached rank : ℕ} {ts : Tokens} {ls : List (List ℕ)} → Derives t reached ts → Yields ts (picked rank ls) → (length l < length ls) ⊎ (length b < length (flatten ls)) → Picks t b l (literaldoor.refuses 18 0) b l
  handed : {reached rank : ℕ} {ts : Tokens} {ls : List (List ℕ)} → Derives t reached ts → Yields ts (picked rank ls) → length ls ≤ length l → length (flatten ls) ≤ length b → Picks t b l (literaldoor.gives reached (length ls) rank) (over (flatten ls) b) (over (map length ls) l)
