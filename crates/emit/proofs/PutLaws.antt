-- One addend more at the end of words. Assumes nothing.
use Rattle.std.proofs.Common.{◌≡◌, refl, ap, Bool, true, false, cond, leb, Option, Some, None, SomeIff, List, ℕ, ◌+◌, ◌-◌, ◌≤◌, ◌<◌, arith, set}
use Rattle.std.proofs.lemmas.Bool.{le-leb, lt-leb}
use Rattle.def_meaning.specs.Limits.{jump_limit}
use Rattle.def_meaning.specs.NodeWords.{word}
use Rattle.emit.specs.declared.Addend.{Addend}
use Rattle.emit.specs.declared.Addend.TheVariants.{Gap}
use Rattle.emit.specs.Items.{Behind, grown_of, put_count, put_last, put_out}

-- what an addend more leaves: the count, the last node and the buffer
abbrev pub Puts : List ℕ → ℕ → Option ℕ → Addend → ℕ → Option ℕ → List ℕ → Type 0
Puts out n last addend count next now = (count ≡ put_count n last addend) × (next ≡ put_last last addend) × (now ≡ put_out out n last addend)

-- a sum that a field holds is within the limit
pub grown_sum : (r : Option ℕ) (l m : ℕ) → SomeIff r (l + m < 65536) (l + m) → r ≡ grown_of (Some l) m
unfolding grown_of
grown_sum None l m h = rw (lt-leb (l + m) jump_limit (omega arith))
grown_sum (Some s) l m h = rw (le-leb (l + m) jump_limit (omega arith)) (ap (λ (x : ℕ). Some x) h.1)

-- what grows stands before the next word
pub grown_behind : (n : ℕ) (last : Option ℕ) (m s : ℕ) → Some s ≡ grown_of last m → Behind n last → 1 ≤ n
unfolding grown_of
grown_behind n None m s e h = let z : ◌≡◌ {A = ℕ} 0 1 = cc in absurd (omega arith)
grown_behind n (Some l) m s e h = h

module _ (out : List ℕ) (n : ℕ) (last : Option ℕ) (m : ℕ) where
  pub put_grown : (s : ℕ) → Some s ≡ grown_of last m → Puts out n last (Gap m) n (Some s) (set out (n - 1) (word 3 s 0))
  unfolding put_count put_last put_out grown_of
  put_grown s e = go last e
    where
      go : (l : Option ℕ) → Some s ≡ grown_of l m → Puts out n l (Gap m) n (Some s) (set out (n - 1) (word 3 s 0))
      go None f = let z : ◌≡◌ {A = ℕ} 0 1 = cc in absurd (omega arith)
      go (Some l) f = by (leb (l + m) jump_limit) refl f
        where
          by : (t : Bool) → leb (l + m) jump_limit ≡ t → Some s ≡ cond t (Some (l + m)) None → Puts out n (Some l) (Gap m) n (Some s) (set out (n - 1) (word 3 s 0))
          by true g f = rw g (refl, f, let z : s ≡ l + m = cc in ap (λ (x : ℕ). set out (n - 1) (word 3 x 0)) z)
          by false g f = let z : ◌≡◌ {A = ℕ} 0 1 = cc in absurd (omega arith)

  pub put_beside : None ≡ grown_of last m → Puts out n last (Gap m) (n + 1) (Some m) (set out n (word 3 m 0))
  unfolding put_count put_last put_out grown_of
  put_beside e = go last e
    where
      go : (l : Option ℕ) → None ≡ grown_of l m → Puts out n l (Gap m) (n + 1) (Some m) (set out n (word 3 m 0))
      go None f = (refl, refl, refl)
      go (Some l) f = by (leb (l + m) jump_limit) refl f
        where
          by : (t : Bool) → leb (l + m) jump_limit ≡ t → None ≡ cond t (Some (l + m)) None → Puts out n (Some l) (Gap m) (n + 1) (Some m) (set out n (word 3 m 0))
          by true g f = let z : ◌≡◌ {A = ℕ} 0 1 = cc in absurd (omega arith)
          by false g f = rw g (refl, refl, refl)
