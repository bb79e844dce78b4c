-- What stands at an offset by the grammar, and what the small readers see there: signs, numbers, jumps. Assumes nothing.
use mathlib.Core.Path.{◌≡◌, refl, sym, ap, ◌∙◌, subst}
use mathlib.Core.Bool.{false}
use mathlib.Core.Option.{Option}
use mathlib.Core.List.{List, [], ◌∷◌, ◌++◌}
use Prim.Native.Char.{Char, code}
use Prim.Native.Nat.{ℕ, suc, ◌+◌, ◌-◌, ◌*◌, ◌^◌, ◌≤◌, ◌<◌}
use native.Mathlib.Nat.{pow-suc}
use native.Mathlib.Omega.{arith}
use lib.ListN.{length, drop}
use Rattle.def_meaning.specs.Limits.{number_limit}
use Rattle.def_reading.specs.Blanks.{here, skip}
use Rattle.def_reading.specs.Given as goal
use Rattle.def_reading.specs.Pieces.{Seen, found, within, numeral, number_at}
use Rattle.def_reading.proofs.PieceLaws.{numeral_from}
use Rattle.def_reading.proofs.PieceSteps.{number_absent}
use Rattle.def_grammar.specs.Grammar.{Mark, Number}
use Rattle.def_grammar.specs.Faults as fault
use Rattle.def_grammar.proofs.Spelling as spelling
use Rattle.def_grammar.proofs.Spelling.{NoBlank, Decimals, value}
use Rattle.def_grammar.proofs.Standing.{after, here_is, here_cons, skip_clear, mark_stands}
use Rattle.def_grammar.proofs.DigitLaws.{in_within, digits_split}
use Rattle.def_grammar.proofs.Fronts.{cons_clear, mark_seen}
use Rattle.def_grammar.proofs.PiecesSpelled.{Sound, number_sound, decimals_here}
use Rattle.def_grammar.proofs.PiecesRead.{digits_front, number_seen, no_digit_dash, no_digit_closing}
use Rattle.def_grammar.proofs.RulesSpell.{mark_spells, number_spells, numeral_spells}
use Rattle.def_grammar.proofs.SpellingDerived.{clear_spells, clear_derived, mark_derived, number_derived, numeral_derived}

-- a string that stands, and what follows it
pub stood : {t : List ℕ} {K : List ℕ → Type 0} {at e : ℕ} → fault.Stands t K at e
    → (s : List ℕ) × (r : List ℕ) × (drop at t ≡ s ++ r) × K s × NoBlank r × (e ≡ at + length s)
stood (fault.stands {s = s} {r = r} h k c) = (s, r, h, k, clear_spells c, refl)

pub stand : (t : List ℕ) (K : List ℕ → Type 0) (at e : ℕ) (s : List ℕ) → drop at t ≡ s ++ drop e t → K s → NoBlank (drop e t) → e ≡ at + length s → fault.Stands t K at e
stand t K at e s h k n q = subst (λ (x : ℕ). fault.Stands t K at x) (sym q) (fault.stands h k (clear_derived (drop e t) n))

-- a sign, and the blanks after it
pub mark_there : (t : List ℕ) (c : Char) (at : ℕ) → here t at ≡ code c → 0 < code c → fault.Stands t (Mark c) at (skip t (at + 1))
mark_there t c at h p =
    let m = mark_stands t at (code c) h p in
    stand t (Mark c) at (skip t (at + 1)) m.string m.split (mark_derived c m.string m.spelled) (skip_clear t (at + 1)) m.reach

pub mark_here : {t : List ℕ} {c : Char} {at x : ℕ} → fault.Stands t (Mark c) at x → (here t at ≡ code c) × (x ≡ skip t (at + 1))
mark_here {t} {c} {at} m =
    let s = stood m in
    let q = mark_seen t at (code c) s.0 s.1 s.2 (mark_spells s.3) s.4 in
    (q.0, s.5 ∙ sym q.1)

-- no blank stands at a sign
sign_clear : (t : List ℕ) (x c : ℕ) → here t x ≡ c → code " " < c → NoBlank (drop x t)
sign_clear t x c h k = subst NoBlank (sym (here_cons t x c h (omega arith))) (cons_clear c (drop (suc x) t) k)

-- a number before a sign
pub number_there : (t : List ℕ) (x n s y c : ℕ) → number_at t x ≡ found n s y → here t y ≡ c → code " " < c → fault.Stands t (Number n) x y
unfolding Sound
number_there t x n s y c q h k =
    let m = subst (λ (v : Seen ℕ). Sound spelling.Number t x v) q (number_sound t x) in
    stand t (Number n) x y m.string m.split (number_derived n m.string m.spelled) (sign_clear t y c h k) m.reach

pub number_here : {t : List ℕ} {x n y : ℕ} (c : ℕ) → fault.Stands t (Number n) x y → here t y ≡ c → within (code "0") (code "9") c ≡ false → code " " < c → (s : ℕ) × (number_at t x ≡ found n s y)
number_here {t} {x} {n} {y} c m h d k =
    let s = stood m in
    let w = s.0 in
    let e : drop y t ≡ s.1 = ap (λ (i : ℕ). drop i t) s.5 ∙ after t x w s.1 s.2 in
    let g : drop x t ≡ w ++ (c ∷ drop (suc y) t) = s.2 ∙ ap (λ (r : List ℕ). w ++ r) (sym e ∙ here_cons t y c h (omega arith)) in
    let f = number_seen t x n w c (drop (suc y) t) g (number_spells s.3) d k in
    (f.0, f.1 ∙ ap (λ (i : ℕ). found n f.0 i) (sym s.5))

-- what stands before a jump's dash
pub from_there : {t : List ℕ} {x n y : ℕ} → goal.From t x n y → here t y ≡ code "-" → fault.From t x n y
from_there {t} {x} (goal.number {n = n} {s = s} {x = y} q) h = fault.number (number_there t x n s y (code "-") q h (omega arith))
from_there (goal.nothing q) h = fault.nothing

pub from_here : {t : List ℕ} {x n y : ℕ} → fault.From t x n y → here t y ≡ code "-" → goal.From t x n y
from_here (fault.number m) h = goal.number (number_here (code "-") m h no_digit_dash (omega arith)).1
from_here {t} {x} fault.nothing h = goal.nothing (number_absent t x (ap (within (code "0") (code "9")) h ∙ no_digit_dash))

-- jumps
pub jumps_there : {t : List ℕ} {at m stop : ℕ} {to : Option ℕ} → goal.Jumps t at m to stop → fault.Jumps t at m to
jumps_there {t} {at} (goal.single {n = n} {s = s} {x = x} h q k) =
    fault.single (mark_there t "[" at h (omega arith)) (number_there t (skip t (at + 1)) n s x (code "]") q k (omega arith)) (mark_there t "]" x k (omega arith))
jumps_there {t} {at} (goal.bounded {to = to} {s = s} {x = x} {y = y} h f d q k) =
    fault.bounded (mark_there t "[" at h (omega arith)) (from_there f d) (mark_there t "-" x d (omega arith)) (number_there t (skip t (x + 1)) to s y (code "]") q k (omega arith)) (mark_there t "]" y k (omega arith))
jumps_there {t} {at} (goal.unbounded {x = x} h f d q k) =
    fault.unbounded (mark_there t "[" at h (omega arith)) (from_there f d) (mark_there t "-" x d (omega arith)) (mark_there t "]" (skip t (x + 1)) k (omega arith))

pub jumps_here : {t : List ℕ} {at m : ℕ} {to : Option ℕ} → fault.Jumps t at m to → (stop : ℕ) × goal.Jumps t at m to stop
jumps_here {t} {at} (fault.single {n = n} {x = x} {y = y} a b c) =
    let i = mark_here a in
    let k = mark_here c in
    let q = number_here (code "]") b k.0 no_digit_closing (omega arith) in
    (y + 1, goal.single i.0 (ap (number_at t) (sym i.1) ∙ q.1) k.0)
jumps_here {t} {at} (fault.bounded {m = m} {n = n} {x = x} {y = y} {z = z} {u = u} a f b c d) =
    let i = mark_here a in
    let j = mark_here b in
    let k = mark_here d in
    let q = number_here (code "]") c k.0 no_digit_closing (omega arith) in
    (u + 1, goal.bounded i.0 (subst (λ (v : ℕ). goal.From t v m y) i.1 (from_here f j.0)) j.0 (ap (number_at t) (sym j.1) ∙ q.1) k.0)
jumps_here {t} {at} (fault.unbounded {m = m} {x = x} {y = y} {z = z} a f b c) =
    let i = mark_here a in
    let j = mark_here b in
    let k = mark_here c in
    let e : here t (skip t (y + 1)) ≡ code "]" = ap (λ (v : ℕ). here t v) (sym j.1) ∙ k.0 in
    (skip t (y + 1) + 1, goal.unbounded i.0 (subst (λ (v : ℕ). goal.From t v m y) i.1 (from_here f j.0)) j.0 (number_absent t (skip t (y + 1)) (ap (within (code "0") (code "9")) e ∙ no_digit_closing)) e)

-- digits spell no less with more digits after them
digits_least : (n : ℕ) (d r : List ℕ) → Decimals d → n * 10 ^ length d + value d ≤ numeral n (d ++ r)
unfolding numeral Decimals value
digits_least n [] r p = let h : n ≤ numeral n r = numeral_from n r in omega arith
digits_least n (x ∷ d) r p =
    let q : 10 ^ suc (length d) ≡ 10 ^ length d * 10 = pow-suc 10 (length d) in
    let i : (10 * n + (x - code "0")) * 10 ^ length d + value d ≤ numeral (10 * n + (x - code "0")) (d ++ r) = digits_least (10 * n + (x - code "0")) d r p.2 in
    let e : n * 10 ^ suc (length d) + ((x - code "0") * 10 ^ length d + value d) ≡ (10 * n + (x - code "0")) * 10 ^ length d + value d = rw q (omega arith) in
    rw (in_within (code "0") (code "9") x p.0 p.1) (omega arith)

-- numbers that are too big
pub big_there : (t : List ℕ) (x : ℕ) → goal.Big t x → fault.Big t x
big_there t x b =
    let p = digits_split 0 (drop x t) in
    let k = decimals_here t x b.0 in
    let v = p.5 in
    let l = p.4 in
    let h : number_limit < numeral 0 (drop x t) = b.1 in
    fault.big p.1 p.2 (numeral_derived p.0 p.3 (omega arith)) (omega arith)

pub big_here : {t : List ℕ} {x : ℕ} → fault.Big t x → goal.Big t x
big_here {t} {x} (fault.big {n = n} {s = s} r h p l) =
    let q = numeral_spells p in
    let f = digits_front s q.0 q.1 in
    let i : here t x ≡ f.0 = here_is t x f.0 (f.1 ++ r) (h ∙ ap (λ (u : List ℕ). u ++ r) f.2) in
    let k : 0 * 10 ^ length s + value s ≤ numeral 0 (s ++ r) = digits_least 0 s r q.0 in
    let e : numeral 0 (drop x t) ≡ numeral 0 (s ++ r) = ap (numeral 0) h in
    let v : n ≡ value s = q.2 in
    (ap (within (code "0") (code "9")) i ∙ f.3, omega arith)
