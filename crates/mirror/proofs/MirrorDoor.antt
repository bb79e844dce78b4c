-- What is known of the mirror's door, whose promise is in specs/MirrorDoor.antt. Assumes nothing.
use Rattle.std.proofs.Common.{◌≡◌, refl, sym, ap, ◌∙◌, List, [], ◌∷◌, ℕ, Result, Ok, Err}
use Rattle.def_meaning.specs.NodeWords.{word}
use Rattle.def_meaning.specs.Words.{shape, shape_by, mirror_words, mirror_items}
use Rattle.base.specs.declared.Refusal.{Refusal}
use Rattle.base.specs.Refusals.{number_of}
use Rattle.base.proofs.RefusalLaws.{number_one}
use Rattle.mirror.specs.MirrorDoor.{mirror_said, mirror_says, mirror_leaves}

-- an answer is known by what it says
said_one : (r s : Result ℕ Refusal) → mirror_said r ≡ mirror_said s → r ≡ s
said_one (Ok n) (Ok m) e = let z : n ≡ m = cc in ap Ok z
said_one (Ok n) (Err r) e = cc
said_one (Err r) (Ok n) e = cc
said_one (Err r) (Err s) e = let z : number_of r ≡ number_of s = cc in ap Err (number_one r s z)

-- the promise leaves one outcome: one answer, and one content of the pool
pub one_outcome : (words pool : List ℕ) (r s : Result ℕ Refusal) (p q : List ℕ) → (mirror_said r ≡ mirror_says words pool) × (p ≡ mirror_leaves words pool) → (mirror_said s ≡ mirror_says words pool) × (q ≡ mirror_leaves words pool) → (r ≡ s) × (p ≡ q)
one_outcome words pool r s p q a b = (said_one r s (a.0 ∙ sym b.0), a.1 ∙ sym b.1)

-- 61 (62 63 | 64) [0-2] and its mirror: items and contents in reverse, branches in their order
pub sample : mirror_words (word 0 0x61 0 ∷ word 6 5 0 ∷ word 7 2 0 ∷ word 0 0x62 0 ∷ word 0 0x63 0 ∷ word 7 1 0 ∷ word 0 0x64 0 ∷ word 4 0 2 ∷ []) ≡ (word 4 0 2 ∷ word 6 5 0 ∷ word 7 2 0 ∷ word 0 0x63 0 ∷ word 0 0x62 0 ∷ word 7 1 0 ∷ word 0 0x64 0 ∷ word 0 0x61 0 ∷ [])
unfolding mirror_words mirror_items shape shape_by
sample = refl
