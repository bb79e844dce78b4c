-- Whole entries: they are taken for their tokens wherever they stand. Assumes nothing.
use Rattle.std.proofs.Common.{◌≡◌, refl, sym, ap, ap₂, ◌∙◌, subst, Bool, true, false, cond, List, [], ◌++◌, ℕ, ◌+◌, ◌-◌, ◌*◌, ◌≤◌, ◌<◌, min, arith, eqb, length, get_or, take, drop, length-append, length-drop, take-append-drop, drop_of_length-le, length-take-le, get_or-take, eqb-true}
use Rattle.std.proofs.Math.ListN.{get_or-append}
use Rattle.std.proofs.Math.Seq.{take-append-le, drop-append-le}
use borrow.Author.Tests.{eqb-false}
use Rattle.def_meaning.specs.Tokens.{Token, Tokens, Alternatives, nothing, ◌then◌, ◌⊕◌}
use Rattle.classes.specs.Entry.{entry_token}
use Rattle.entries.specs.Words.{first_entry, ends, inside, lists_in, token_in, width, tokens_in}
use Rattle.entries.proofs.StepLaws.{tokens_end, tokens_step, width_le, width_long, width_inside, ends_le}
use Rattle.entries.proofs.PlainLaws.{token_alternatives, token_entry}
use Rattle.runs.specs.Whole.{Entire, Whole, none, more}

ends_plain : (ws : List ℕ) → ends ws ≡ min (length ws) (4 + 4 * get_or ws 2 0)
unfolding ends
ends_plain ws = refl

-- ---- the token at the front, with words after it

module _ (a b : List ℕ) (h : Entire a) where
  first : (i : ℕ) → i < 4 → get_or (a ++ b) i 0 ≡ get_or a i 0
  first i l = get_or-append a b 0 i (let g = h.entry in omega arith)

  entry_before : first_entry (a ++ b) ≡ first_entry a
  entry_before =
      ap (λ (x : ℕ). entry_token x (get_or (a ++ b) 1 0) (get_or (a ++ b) 2 0)) (first 0 (omega arith))
      ∙ ap (λ (x : ℕ). entry_token (get_or a 0 0) x (get_or (a ++ b) 2 0)) (first 1 (omega arith)) ∙ ap (entry_token (get_or a 0 0) (get_or a 1 0)) (first 2 (omega arith))

  ends_before : get_or a 0 0 ≡ 5 → ends (a ++ b) ≡ ends a
  unfolding ends
  ends_before k =
      let l = h.within k in
      let e = first 2 (omega arith) in
      let f = length-append a b in
      omega arith

  inside_before : get_or a 0 0 ≡ 5 → inside (a ++ b) ≡ inside a
  inside_before k =
      let l = ends_le a in
      let d : ends a - 4 ≤ length (drop 4 a) = (let e = length-drop 4 a in omega arith) in
      ap₂ (λ (x : ℕ) (y : List ℕ). take (x - 4) y) (ends_before k) (drop-append-le 4 a b h.entry) ∙ take-append-le (ends a - 4) (drop 4 a) b d

  pub token_before : token_in (a ++ b) ≡ token_in a
  token_before = go (eqb (get_or a 0 0) 5) refl
    where
      go : (t : Bool) → eqb (get_or a 0 0) 5 ≡ t → token_in (a ++ b) ≡ token_in a
      go true e =
          let k = eqb-true (get_or a 0 0) 5 e in
          token_alternatives (a ++ b) (first 0 (omega arith) ∙ k) ∙ ap (λ (x : List ℕ). Alternatives (lists_in x)) (inside_before k) ∙ sym (token_alternatives a k)
      go false e =
          let k : get_or a 0 0 ≡ 5 → ⊥ = eqb-false (get_or a 0 0) 5 e in
          token_entry (a ++ b) (λ f. k (sym (first 0 (omega arith)) ∙ f)) ∙ entry_before ∙ sym (token_entry a k)

  pub width_before : width (a ++ b) ≡ width a
  unfolding width
  width_before = go (eqb (get_or a 0 0) 5) refl
    where
      go : (t : Bool) → eqb (get_or a 0 0) 5 ≡ t → cond (eqb (get_or (a ++ b) 0 0) 5) (ends (a ++ b)) 4 ≡ cond (eqb (get_or a 0 0) 5) (ends a) 4
      go true e =
          ap (λ (x : ℕ). cond (eqb x 5) (ends (a ++ b)) 4) (first 0 (omega arith)) ∙ ap (λ (x : ℕ). cond (eqb (get_or a 0 0) 5) x 4) (ends_before (eqb-true (get_or a 0 0) 5 e))
      go false e =
          ap (λ (x : ℕ). cond (eqb x 5) (ends (a ++ b)) 4) (first 0 (omega arith)) ∙ ap (λ (t : Bool). cond t (ends (a ++ b)) 4) e ∙ sym (ap (λ (t : Bool). cond t (ends a) 4) e)

  rest_before : drop (width (a ++ b)) (a ++ b) ≡ drop (width a) a ++ b
  rest_before = ap (λ (x : ℕ). drop x (a ++ b)) width_before ∙ drop-append-le (width a) a b (width_le a h.entry)

  long_before : 4 ≤ length (a ++ b)
  long_before = let e = length-append a b in let g = h.entry in omega arith

  pub tokens_before : tokens_in (a ++ b) ≡ token_in a then tokens_in (drop (width a) a ++ b)
  tokens_before = tokens_step (a ++ b) long_before ∙ ap₂ (λ (t : Token) (x : List ℕ). t then tokens_in x) token_before rest_before

  pub entire_before : Entire (a ++ b)
  entire_before =
      record {
        entry = long_before;
        within = λ k. (let l = h.within (sym (first 0 (omega arith)) ∙ k) in let e = first 2 (omega arith) in let f = length-append a b in omega arith);
      }

-- ---- whole words before others

pub split : (a b : List ℕ) → Whole a → tokens_in (a ++ b) ≡ tokens_in a ⊕ tokens_in b
unfolding ◌⊕◌
split a b none = sym (ap (λ (t : Tokens). t ⊕ tokens_in b) (tokens_end [] (omega arith)))
split a b (more ws e w) =
    tokens_before ws b e ∙ ap (λ (x : Tokens). token_in ws then x) (split (drop (width ws) ws) b w)
    ∙ sym (ap (λ (t : Tokens). t ⊕ tokens_in b) (tokens_step ws e.entry))

pub both_whole : (a b : List ℕ) → Whole a → Whole b → Whole (a ++ b)
both_whole a b none v = v
both_whole a b (more ws e w) v =
    more (ws ++ b) (entire_before ws b e) (subst Whole (sym (rest_before ws b e)) (both_whole (drop (width ws) ws) b w v))

-- ---- the first token of whole words

pub whole_first : (ws : List ℕ) → Whole ws → 0 < length ws → Entire ws × Whole (drop (width ws) ws)
whole_first ws none h = absurd (omega arith)
whole_first ws (more us e w) h = (e, w)

pub whole_short : (ws : List ℕ) → Whole ws → length ws < 4 → ws ≡ []
whole_short ws none h = refl
whole_short ws (more us e w) h = absurd (let l = e.entry in omega arith)

module _ (ws : List ℕ) (h : Entire ws) where
  front_long : length (take (width ws) ws) ≡ width ws
  front_long = length-take-le (width ws) ws (width_le ws h.entry)

  whole_is : take (width ws) ws ++ drop (width ws) ws ≡ ws
  whole_is = take-append-drop (width ws) ws

  front_first : (i : ℕ) → i < 4 → get_or (take (width ws) ws) i 0 ≡ get_or ws i 0
  front_first i l = get_or-take (width ws) ws i 0 (let g = width_long ws h.entry in omega arith)

  pub front_entire : Entire (take (width ws) ws)
  front_entire =
      record {
        entry = (let g = width_long ws h.entry in let e = front_long in omega arith);
        within = λ k.
            (let k' : get_or ws 0 0 ≡ 5 = sym (front_first 0 (omega arith)) ∙ k in
            let l = h.within k' in
            let e = front_first 2 (omega arith) in
            let w = width_inside ws k' in
            let n = ends_is k' in
            let f = front_long in
            omega arith);
      }
    where
      ends_is : get_or ws 0 0 ≡ 5 → ends ws ≡ min (length ws) (4 + 4 * get_or ws 2 0)
      ends_is k = ends_plain ws

  front_width : width (take (width ws) ws) ≡ width ws
  front_width = sym (width_before (take (width ws) ws) (drop (width ws) ws) front_entire) ∙ ap width whole_is

  front_rest : drop (width (take (width ws) ws)) (take (width ws) ws) ≡ []
  front_rest = drop_of_length-le (take (width ws) ws) {i = width (take (width ws) ws)} (let e = front_long in let f = front_width in omega arith)

  pub front_whole : Whole (take (width ws) ws)
  front_whole = more (take (width ws) ws) front_entire (subst Whole (sym front_rest) none)

  pub front_token : tokens_in (take (width ws) ws) ≡ token_in ws then nothing
  front_token =
      tokens_step (take (width ws) ws) front_entire.entry
      ∙ ap₂ (λ (t : Token) (x : List ℕ). t then tokens_in x) (sym (token_before (take (width ws) ws) (drop (width ws) ws) front_entire) ∙ ap token_in whole_is) front_rest
      ∙ ap (λ (x : Tokens). token_in ws then x) (tokens_end [] (omega arith))
