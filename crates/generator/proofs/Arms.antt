-- What a caller knows in each arm of a match on the answer. Assumes nothing.
use Rattle.std.proofs.Common.{◌≡◌, refl, sym, ap, ◌∙◌, Bool, true, false, cond, List, ℕ, length, Result, Ok, Err, map}
use mathlib.Core.List.{flatten}
use Rattle.base.specs.declared.Refusal.{Refusal}
use Rattle.base.specs.declared.Refusal.TheVariants.{NoRoom}
use Rattle.generator.specs.Output.{over, fits, answered, bytes_left, lengths_left, Generated}

-- all literals fit, so many they are, and they were written
pub record AllWritten (ls : List (List ℕ)) (n : ℕ) (bytes lengths bytes_after lengths-after : List ℕ) : Type 0 where
  pub fitting : fits ls bytes lengths ≡ true
  pub number : n ≡ length ls
  pub bytes_are : bytes_after ≡ over (flatten ls) bytes
  pub lengths_are : lengths-after ≡ over (map length ls) lengths

-- they do not fit, and nothing was written
pub record NoneWritten (ls : List (List ℕ)) (bytes lengths bytes_after lengths-after : List ℕ) : Type 0 where
  pub short : fits ls bytes lengths ≡ false
  pub bytes_stay : bytes_after ≡ bytes
  pub lengths_stay : lengths-after ≡ lengths

module _ (ls : List (List ℕ)) (r : Result ℕ Refusal) (bytes lengths b l : List ℕ) (g : Generated ls r bytes lengths b l) where
  answer_when : (t : Bool) → fits ls bytes lengths ≡ t → r ≡ cond t (Ok (length ls)) (Err NoRoom)
  unfolding answered
  answer_when t e = g.answer_is ∙ ap (λ (x : Bool). cond x (Ok (length ls)) (Err NoRoom)) e

  bytes_when : (t : Bool) → fits ls bytes lengths ≡ t → b ≡ cond t (over (flatten ls) bytes) bytes
  unfolding bytes_left
  bytes_when t e = g.bytes_are ∙ ap (λ (x : Bool). cond x (over (flatten ls) bytes) bytes) e

  lengths_when : (t : Bool) → fits ls bytes lengths ≡ t → l ≡ cond t (over (map length ls) lengths) lengths
  unfolding lengths_left
  lengths_when t e = g.lengths_are ∙ ap (λ (x : Bool). cond x (over (map length ls) lengths) lengths) e

  pub wrote_all : (n : ℕ) → r ≡ Ok n → AllWritten ls n bytes lengths b l
  wrote_all n h = go (fits ls bytes lengths) refl
    where
      go : (t : Bool) → fits ls bytes lengths ≡ t → AllWritten ls n bytes lengths b l
      go true e =
          let a : ◌≡◌ {A = Result ℕ Refusal} (Ok n) (Ok (length ls)) = sym h ∙ answer_when true e in
          record { fitting = e; number = cc; bytes_are = bytes_when true e; lengths_are = lengths_when true e }
      go false e = let a : ◌≡◌ {A = Result ℕ Refusal} (Ok n) (Err NoRoom) = sym h ∙ answer_when false e in cc

  pub wrote_none : (x : Refusal) → r ≡ Err x → (x ≡ NoRoom) × NoneWritten ls bytes lengths b l
  wrote_none x h = go (fits ls bytes lengths) refl
    where
      go : (t : Bool) → fits ls bytes lengths ≡ t → (x ≡ NoRoom) × NoneWritten ls bytes lengths b l
      go true e = let a : ◌≡◌ {A = Result ℕ Refusal} (Ok (length ls)) (Err x) = sym (answer_when true e) ∙ h in cc
      go false e =
          let a : ◌≡◌ {A = Result ℕ Refusal} (Err x) (Err NoRoom) = sym h ∙ answer_when false e in
          (cc, record { short = e; bytes_stay = bytes_when false e; lengths_stay = lengths_when false e })
