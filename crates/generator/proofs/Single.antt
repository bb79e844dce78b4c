-- A call has one outcome, and it is 01's: all literals and their lengths where both fit, and nothing where one does not. Assumes nothing.
use Rattle.std.proofs.Common.{◌≡◌, refl, sym, ap, ◌∙◌, ◌⊎◌, List, ◌++◌, ℕ, ◌≤◌, ◌<◌, length, drop, Result, Ok, Err, map}
use mathlib.Core.List.{flatten}
use Rattle.std.proofs.lemmas.List.{length-map}
use Rattle.base.specs.declared.Refusal.{Refusal}
use Rattle.base.specs.declared.Refusal.TheVariants.{NoRoom}
use Rattle.generator.specs.Output.{over, Generated}
use Rattle.generator.proofs.OutputLaws as law

-- what a call leaves: its answer, its bytes and its lengths
pub record Same (r s : Result ℕ Refusal) (b c l m : List ℕ) : Type 0 where
  pub answers : r ≡ s
  pub bytes : b ≡ c
  pub lengths : l ≡ m

-- two outcomes of one call are the same
pub single : (ls : List (List ℕ)) (r s : Result ℕ Refusal) (bytes lengths b c l m : List ℕ) → Generated ls r bytes lengths b l → Generated ls s bytes lengths c m → Same r s b c l m
single ls r s bytes lengths b c l m g h =
    record { answers = g.answer_is ∙ sym h.answer_is; bytes = g.bytes_are ∙ sym h.bytes_are; lengths = g.lengths_are ∙ sym h.lengths_are }

-- where both fit
pub when_fitting : (ls : List (List ℕ)) (r : Result ℕ Refusal) (bytes lengths b l : List ℕ) → length ls ≤ length lengths → length (flatten ls) ≤ length bytes
    → Generated ls r bytes lengths b l → Same r (Ok (length ls)) b (flatten ls ++ drop (length (flatten ls)) bytes) l (map length ls ++ drop (length ls) lengths)
when_fitting ls r bytes lengths b l h k g =
    single ls r (Ok (length ls)) bytes lengths b (over (flatten ls) bytes) l (map length ls ++ drop (length ls) lengths) g
    (law.all_fit ls (length ls) bytes lengths (over (flatten ls) bytes) (map length ls ++ drop (length ls) lengths) refl h k refl
    (ap (λ (x : ℕ). map length ls ++ drop x lengths) (sym (length-map ls length))))

-- where one does not
pub when_short : (ls : List (List ℕ)) (r : Result ℕ Refusal) (bytes lengths b l : List ℕ) → (length lengths < length ls) ⊎ (length bytes < length (flatten ls))
    → Generated ls r bytes lengths b l → Same r (Err NoRoom) b bytes l lengths
when_short ls r bytes lengths b l w g = single ls r (Err NoRoom) bytes lengths b bytes l lengths g (law.too_short ls bytes lengths w)
