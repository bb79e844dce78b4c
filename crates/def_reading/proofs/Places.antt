-- A refusal's place lies in the text, or is its length. Assumes nothing.
use mathlib.Core.Path.{◌≡◌}
use mathlib.Core.Bool.{Bool}
use mathlib.Core.Option.{Option}
use mathlib.Core.List.{List}
use Prim.Native.Char.{code}
use Prim.Native.Nat.{ℕ, ◌+◌, ◌≤◌, ◌<◌}
use native.Mathlib.Omega.{arith}
use lib.ListN.{length, get_or}
use Rattle.base.specs.declared.Refusal.{Refusal}
use Rattle.def_reading.specs.Blanks.{skip}
use Rattle.def_reading.specs.Lists.{rejected, reading}
use Rattle.def_reading.specs.Given as goal
use Rattle.def_reading.proofs.PieceLaws.{here_at, skip_in}
use Rattle.def_reading.proofs.ListSteps.{token_gone, list_gone}
use Rattle.def_reading.proofs.GivenLaws.{rejected_given}

after : (t : List ℕ) (at c : ℕ) → get_or t at 0 ≡ c → 0 < c → skip t (at + 1) ≤ length t
after t at c h k = skip_in t (at + 1) (omega (arith, here_at t at c h k))

mutual
  begins_in : {t : List ℕ} {l c at : ℕ} → goal.Begins t l c at → at ≤ length t
  begins_in {t} (goal.outermost s o e f g) = omega (arith, g, after t 0 (code "{") o (omega arith))
  begins_in (goal.bracketed a h) = (in_brackets a).0

  looked_in : {t : List ℕ} {l c at : ℕ} → goal.Looked t l c at → at ≤ length t
  looked_in (goal.first b) = begins_in b
  looked_in {t} {l} (goal.next {count = c} {at = at} k h) = (token_gone t l c at h).inside

  in_brackets : {t : List ℕ} {l c at miss : ℕ} → goal.InBrackets t l c at miss → (at ≤ length t) × (miss ≤ length t)
  in_brackets {t} (goal.opened {at = at} k h f e g i j) = let w = after t at (code "(") h (omega arith) in (omega arith, omega arith)
  in_brackets {t} {l} (goal.barred {count = c} {at = at} {e = e} a h b i) = let w = after t e (code "|") b (omega arith) in let g = list_gone t l c at h in (omega arith, g.inside)

opens_in : {t : List ℕ} {at from stop : ℕ} {to : Option ℕ} → goal.Jumps t at from to stop → at ≤ length t
opens_in {t} {at} (goal.single h q k) = omega (arith, here_at t at (code "[") h (omega arith))
opens_in {t} {at} (goal.bounded h f d q k) = omega (arith, here_at t at (code "[") h (omega arith))
opens_in {t} {at} (goal.unbounded h f d q k) = omega (arith, here_at t at (code "[") h (omega arith))

token_place : {t : List ℕ} {inside : Bool} {at p : ℕ} {r : Refusal} → goal.InToken t inside at r p → p ≤ length t
token_place {t} {at = at} (goal.after_tilde h q) = omega (arith, here_at t at (code "~") h (omega arith))
token_place {t} {at = at} (goal.tilde_all h k l) = omega (arith, here_at t at (code "~") h (omega arith))
token_place {t} {at = at} (goal.big_from h b) = after t at (code "[") h (omega arith)
token_place {t} {at = at} (goal.big_to {x = x} h f d b) = after t x (code "-") d (omega arith)
token_place (goal.empty j) = opens_in j
token_place (goal.backwards j h) = opens_in j
token_place (goal.open_inside i j) = opens_in j
token_place (goal.long_inside i j h k) = opens_in j

given_place : {t : List ℕ} {r : Refusal} {p : ℕ} → goal.Given t r p → p ≤ length t
given_place (goal.too_long h) = omega arith
given_place (goal.not_opened h k) = omega arith
given_place {t} (goal.no_outer h k q) = after t 0 (code "{") k (omega arith)
given_place (goal.no_list a q) = (in_brackets a).1
given_place {t} (goal.not_closed h k q n) = (list_gone t 1 0 (skip t 1) q).inside
given_place {t} (goal.not_bracketed {level = l} {count = c} {at = at} a q n m) = (list_gone t l c at q).inside
given_place (goal.in_token k q) = token_place q
given_place (goal.jump_at_bound b q h) = begins_in b
given_place (goal.too_deep a h) = (in_brackets a).0
given_place (goal.too_many k h q) = looked_in k
given_place (goal.too_many_brackets k h q) = looked_in k

pub rejected_place : (t : List ℕ) (r : Refusal) (p : ℕ) → reading t ≡ rejected r p → p ≤ length t
rejected_place t r p h = given_place (rejected_given t r p h)
