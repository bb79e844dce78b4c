-- Tokens are no more than the entries they stand in. Assumes nothing.
use Rattle.std.proofs.Common.{◌≡◌, refl, ap, ◌∙◌, Bool, true, false, List, [], ◌∷◌, ℕ, zero, suc, ◌*◌, ◌≤◌, ◌<◌, arith, le_refl, eqb, ltb, length, get_or, drop, length-drop, eqb-true, ltb-true, ltb-false}
use mathlib.Core.List.{Memᴰ}
use borrow.Author.Tests.{eqb-false}
use Rattle.def_meaning.specs.Tokens.{total_in, total, totals}
use Rattle.classes.specs.Entry.{entry_token}
use Rattle.entries.specs.Words.{branch_in, ends, inside, lists_in, token_in, width, tokens_in}
use Rattle.entries.proofs.StepLaws.{branch_end, branch_step, lists_end, lists_step, tokens_end, tokens_step, ends_le, ends_long, width_long, width_le, width_inside, by_entries}
use Rattle.entries.proofs.PlainLaws.{token_alternatives, token_entry}
use Rattle.classes.proofs.KindLaws.{entry_cases}
use Rattle.tallies.proofs.TallyLaws.{length_inside}
use Rattle.def_picking.specs.Literals.{literals}
use Rattle.def_picking.specs.Numbers.{count, literal_at}
use Rattle.def_picking.proofs.NumberLaws.{count_literals, literal_numbered}
use Rattle.def_picking.proofs.LengthLaws.{literal_lengths}

entry_size : (k v m : ℕ) → total_in (entry_token k v m) ≡ 1
unfolding total_in
entry_size = entry_cases (λ t. total_in t ≡ 1) (λ v. refl) (λ v. refl) (λ v m. refl) (λ v m. refl) refl

branch_size : (ws : List ℕ) → 4 * total (branch_in ws) ≤ length ws
unfolding total
branch_size =
    by_entries (λ ws. 4 * total (branch_in ws) ≤ length ws) (λ ws h. rw (branch_end ws h) (omega arith))
    (λ ws h e. rw (branch_step ws h) (let l = entry_size (get_or ws 0 0) (get_or ws 1 0) (get_or ws 2 0) in let d = length-drop 4 ws in omega arith))

-- what holds of fewer than four words, and of more where it holds of what follows a step of at least four, holds of all
pub by_steps : (step : List ℕ → ℕ) → ((ws : List ℕ) → 4 ≤ length ws → 4 ≤ step ws) → (P : List ℕ → Type 0) → ((ws : List ℕ) → length ws < 4 → P ws)
    → ((ws : List ℕ) → 4 ≤ length ws → P (drop (step ws) ws) → P ws) → (ws : List ℕ) → P ws
by_steps step far P stop more ws = go (length ws) ws (le_refl (length ws))
  where
    go : (n : ℕ) (w : List ℕ) → length w ≤ n → P w
    go zero w h = stop w (omega arith)
    go (suc n) w h = at (ltb (length w) 4) refl (λ l. go n (drop (step w) w) (let s = far w l in let d = length-drop (step w) w in omega arith))
      where
        at : (t : Bool) → ltb (length w) 4 ≡ t → (4 ≤ length w → P (drop (step w) w)) → P w
        at true e f = stop w (ltb-true (length w) 4 e)
        at false e f = more w (ltb-false (length w) 4 e) (f (ltb-false (length w) 4 e))

lists_size : (ws : List ℕ) → 4 * totals (lists_in ws) ≤ length ws
unfolding total
lists_size =
    by_steps ends ends_long (λ ws. 4 * totals (lists_in ws) ≤ length ws) (λ ws h. rw (lists_end ws h) (omega arith))
    (λ ws h e.
    rw (lists_step ws h)
    (let a = branch_size (inside ws) in let b = length_inside ws h in let c = ends_le ws in let f = ends_long ws h in let d = length-drop (ends ws) ws in omega arith))

token_size : (ws : List ℕ) → 4 ≤ length ws → 4 * total_in (token_in ws) ≤ width ws
unfolding total_in
token_size ws h = go (eqb (get_or ws 0 0) 5) refl
  where
    go : (t : Bool) → eqb (get_or ws 0 0) 5 ≡ t → 4 * total_in (token_in ws) ≤ width ws
    go true e =
        let k = eqb-true (get_or ws 0 0) 5 e in
        let s : total_in (token_in ws) ≡ suc (totals (lists_in (inside ws))) = ap total_in (token_alternatives ws k) in
        let a = lists_size (inside ws) in
        let b = length_inside ws h in
        let c = ends_long ws h in
        let w = width_inside ws k in
        omega arith
    go false e =
        let s : total_in (token_in ws) ≡ 1 = ap total_in (token_entry ws (eqb-false (get_or ws 0 0) 5 e)) ∙ entry_size (get_or ws 0 0) (get_or ws 1 0) (get_or ws 2 0) in
        let w = width_long ws h in
        omega arith

pub tokens_size : (ws : List ℕ) → 4 * total (tokens_in ws) ≤ length ws
unfolding total
tokens_size =
    by_steps width width_long (λ ws. 4 * total (tokens_in ws) ≤ length ws) (λ ws h. rw (tokens_end ws h) (omega arith))
    (λ ws h e. rw (tokens_step ws h) (let a = token_size ws h in let b = width_le ws h in let d = length-drop (width ws) ws in omega arith))

-- ---- literals

nth_in : (l : List (List ℕ)) (k : ℕ) → k < length l → Memᴰ (get_or l k []) l
nth_in [] k h = absurd (omega arith)
nth_in (x ∷ l) zero h = mathlib.Core.List.Memᴰ.head refl
nth_in (x ∷ l) (suc k) h = mathlib.Core.List.Memᴰ.tail (nth_in l k (omega arith))

-- a literal is no longer than the entries
pub literal_fits : (ws : List ℕ) (k : ℕ) → k < count (tokens_in ws) → 4 * length (literal_at (tokens_in ws) k) ≤ length ws
literal_fits ws k h =
    let T = tokens_in ws in
    let m : Memᴰ (get_or (literals T) k []) (literals T) = nth_in (literals T) k (let e = count_literals T in omega arith) in
    let l : length (get_or (literals T) k []) ≤ total T = (literal_lengths T (get_or (literals T) k []) m).1 in
    let e : length (get_or (literals T) k []) ≡ length (literal_at T k) = ap length (literal_numbered T k h) in
    let s = tokens_size ws in
    omega arith
