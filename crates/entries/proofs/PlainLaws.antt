-- The token at the front, by its kind; and a list at its end. Assumes nothing.
use Rattle.std.proofs.Common.{◌≡◌, true, ℕ, ◌<◌, List, length, get_or}
use borrow.Author.Tests.{eq-eqb, ne_eqb}
use Rattle.def_meaning.specs.Tokens.{Alternatives}
use Rattle.def_picking.specs.Literals.{plain_list}
use Rattle.entries.specs.Words.{first_entry, branch_in, inside, lists_in, token_in}
use Rattle.entries.proofs.StepLaws.{branch_end}

pub list_end_lem : (ws : List ℕ) → length ws < 4 → plain_list (branch_in ws) ≡ true
unfolding plain_list
list_end_lem ws h = rw (branch_end ws h)

pub token_alternatives : (ws : List ℕ) → get_or ws 0 0 ≡ 5 → token_in ws ≡ Alternatives (lists_in (inside ws))
unfolding token_in
token_alternatives ws e = rw (eq-eqb (get_or ws 0 0) 5 e)

pub token_entry : (ws : List ℕ) → (get_or ws 0 0 ≡ 5 → ⊥) → token_in ws ≡ first_entry ws
unfolding token_in
token_entry ws f = rw (ne_eqb (get_or ws 0 0) 5 f)
