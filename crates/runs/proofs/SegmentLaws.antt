-- The segments of whole words. Assumes nothing.
use Rattle.std.proofs.Common.{◌≡◌, refl, sym, ap, ap₂, ◌∙◌, subst, Bool, true, false, cond, not, ◌||◌, List, [], ◌∷◌, ◌++◌, ℕ, ◌+◌, ◌≤◌, ◌<◌, arith, length, take, drop, length-drop, drop-drop, take-add}
use Rattle.def_meaning.specs.Tokens.{Tokens, Lists, MaskedByte, NotMaskedByte, Alternatives, ◌then◌, ◌⊕◌}
use Rattle.def_picking.specs.Literals.{is_plain}
use Rattle.def_picking.specs.Runs.{closes, is_alternatives, segmented, at_front, segments}
use Rattle.classes.specs.declared.Entry.{Entry}
use Rattle.classes.specs.Entry.{token_of}
use Rattle.entries.specs.Words.{token_in, width, tokens_in}
use Rattle.entries.proofs.StepLaws.{tokens_end, tokens_step, width_le, width_long, walk_end, walk_step}
use Rattle.classes.proofs.EntryLaws.{one_cases}
use Rattle.runs.specs.Whole.{Entire, Whole, none, more, run_end, afterward}
use Rattle.runs.proofs.WholeLaws.{split, both_whole, front_whole, front_token}

pub record Segment (ws : List ℕ) (n : ℕ) : Type 0 where
  pub fits : n ≤ length ws
  pub segment_whole : Whole (take n ws)
  pub rest_whole : Whole (drop n ws)
  pub segment_is : segments (tokens_in ws) ≡ tokens_in (take n ws) ∷ afterward (tokens_in (drop n ws))

pub run_end_none : (ws : List ℕ) → length ws < 4 → run_end ws ≡ 0
unfolding run_end
run_end_none ws h = walk_end 0 (λ w n. cond (closes (token_in w)) 0 (width w + n)) width (length ws) ws h

run_end_step : (ws : List ℕ) → 4 ≤ length ws → run_end ws ≡ cond (closes (token_in ws)) 0 (width ws + run_end (drop (width ws) ws))
unfolding run_end
run_end_step ws h = walk_step 0 (λ w n. cond (closes (token_in w)) 0 (width w + n)) width width_long ws h

pub run_end_closed : (ws : List ℕ) → 4 ≤ length ws → closes (token_in ws) ≡ true → run_end ws ≡ 0
run_end_closed ws h e = run_end_step ws h ∙ ap (λ (b : Bool). cond b 0 (width ws + run_end (drop (width ws) ws))) e

pub run_end_open : (ws : List ℕ) → 4 ≤ length ws → closes (token_in ws) ≡ false → run_end ws ≡ width ws + run_end (drop (width ws) ws)
run_end_open ws h e = run_end_step ws h ∙ ap (λ (b : Bool). cond b 0 (width ws + run_end (drop (width ws) ws))) e

closed_segment : (ws : List ℕ) → Entire ws → Whole ws → closes (token_in ws) ≡ true → Segment ws 0
unfolding segments segmented afterward
closed_segment ws e w c =
    record {
      fits = (omega arith);
      segment_whole = none;
      rest_whole = w;
      segment_is =
          ap segments (tokens_step ws e.entry) ∙ ap (λ (b : Bool). segmented b (token_in ws) (segments (tokens_in (drop (width ws) ws)))) c
          ∙ ap₂ (λ (x : Tokens) (y : List Tokens). x ∷ y) (sym (tokens_end [] (omega arith))) (sym (ap afterward (tokens_step ws e.entry)));
    }

open_segment : (ws : List ℕ) (m : ℕ) → Entire ws → closes (token_in ws) ≡ false → Segment (drop (width ws) ws) m → Segment ws (width ws + m)
unfolding segments segmented at_front ◌⊕◌
open_segment ws m e c s =
    let n = e.entry in
    let d = length-drop (width ws) ws in
    let f : take (width ws + m) ws ≡ take (width ws) ws ++ take m (drop (width ws) ws) = take-add (width ws) m ws in
    let r : drop m (drop (width ws) ws) ≡ drop (width ws + m) ws = drop-drop m (width ws) ws in
    let own : tokens_in (take (width ws + m) ws) ≡ token_in ws then tokens_in (take m (drop (width ws) ws)) =
    ap tokens_in f ∙ split (take (width ws) ws) (take m (drop (width ws) ws)) (front_whole ws e) ∙ ap (λ (x : Tokens). x ⊕ tokens_in (take m (drop (width ws) ws))) (front_token ws e) in
    record {
      fits = (let a = s.fits in let b = width_le ws n in omega arith);
      segment_whole = subst Whole (sym f) (both_whole (take (width ws) ws) (take m (drop (width ws) ws)) (front_whole ws e) s.segment_whole);
      rest_whole = subst Whole r s.rest_whole;
      segment_is =
          ap segments (tokens_step ws n) ∙ ap (λ (b : Bool). segmented b (token_in ws) (segments (tokens_in (drop (width ws) ws)))) c
          ∙ ap (at_front (token_in ws)) s.segment_is ∙ ap₂ (λ (x : Tokens) (l : List ℕ). x ∷ afterward (tokens_in l)) (sym own) r;
    }

-- the words before the first closing token are the first segment
pub first_segment : (ws : List ℕ) → Whole ws → Segment ws (run_end ws)
unfolding segments afterward
first_segment ws none =
    subst (Segment []) (sym (run_end_none [] (omega arith)))
    (record {
      fits = (omega arith);
      segment_whole = none;
      rest_whole = none;
      segment_is = ap (λ (x : Tokens). segments x) (tokens_end [] (omega arith)) ∙ ap₂ (λ (x : Tokens) (y : Tokens). x ∷ afterward y) (sym (tokens_end [] (omega arith))) (sym (tokens_end [] (omega arith)));
    })
first_segment ws (more us e w) = go (closes (token_in us)) refl (first_segment (drop (width us) us) w)
  where
    go : (b : Bool) → closes (token_in us) ≡ b → Segment (drop (width us) us) (run_end (drop (width us) us)) → Segment us (run_end us)
    go true c s = subst (Segment us) (sym (run_end_closed us e.entry c)) (closed_segment us e (more us e w) c)
    go false c s = subst (Segment us) (sym (run_end_open us e.entry c)) (open_segment us (run_end (drop (width us) us)) e c s)

-- ---- in the words of the code

pub alternatives_open : (ls : Lists) → false ≡ closes (Alternatives ls)
unfolding is_plain is_alternatives
alternatives_open ls = refl

or-false : (b : Bool) → not b ≡ not (b || false)
or-false true = refl
or-false false = refl

pub one_closes : (e : Entry) → not (is_plain (token_of e)) ≡ closes (token_of e)
unfolding is_plain is_alternatives
one_closes =
    one_cases (λ t. not (is_plain t) ≡ closes t) (λ v. refl) (λ v. refl) (λ v m. or-false (is_plain (MaskedByte v m))) (λ v m. or-false (is_plain (NotMaskedByte v m))) refl
