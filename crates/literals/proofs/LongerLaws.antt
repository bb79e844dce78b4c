-- The loop over the slices with one first part. Assumes nothing.
use Rattle.std.proofs.Common.{length-take, ◌≡◌, sym, ap, ap₂, ◌∙◌, subst, List, ◌∷◌, ℕ, ◌+◌, ◌-◌, ◌≤◌, ◌<◌, arith, eqb, length, get_or, take, drop, length-drop, Option, Result, Ok, Err}
use Rattle.def_meaning.specs.Limits.{token_pool}
use Rattle.def_meaning.specs.Tokens.{Tokens, ◌⊕◌}
use Rattle.def_meaning.proofs.PartLaws.{to_end, length_from}
use Rattle.def_picking.specs.Literals.{length_in}
use Rattle.def_picking.specs.Runs.{parts, slice, longer}
use Rattle.def_picking.specs.Candidates.{Candidate, rank, widened, best, too_many_literals}
use Rattle.entries.specs.Words.{tokens_in}
use Rattle.picks.specs.declared.Pick.{Pick}
use Rattle.picks.specs.declared.TooMany.{TooMany}
use Rattle.picks.specs.Ranks.{rank_says, pick_says, winner_says, Settles}
use Rattle.runs.specs.Whole.{Whole, byte_end, part_end, Placed}
use Rattle.runs.proofs.PartLaws.{Part, first_part}
use Rattle.picks.proofs.WinnerLaws.{Stands}
use Rattle.def_picking.proofs.RefusalLaws.{best_full}
use Rattle.literals.proofs.SliceLaws.{next_literal, further, turn, further_more, Next, next_of, widened_words, grown_words, grown_whole, later_words}

-- the tokens of the words from a to b
abbrev pub words : List ℕ → ℕ → ℕ → Tokens
words run a b = tokens_in (take (b - a) (drop a run))

-- the slices from `at` on have been weighed up to the one that ends at `to`, and c has become d
pub record Going (run : List ℕ) (prior at to len : ℕ) (c d : Candidate) : Type 0 where
  pub ahead : at + 4 ≤ to
  pub inside : to ≤ length run
  pub small : len ≤ 4100
  pub own_whole : Whole (take (to - at) (drop at run))
  pub rest_whole : Whole (drop to run)
  pub same : (own : Tokens) (ps : List Tokens) → parts (tokens_in (drop at run)) ≡ own ∷ ps
      → best c (longer ps (words run prior at) own 0) ≡ best d (longer (parts (tokens_in (drop to run))) (words run prior at) (words run at to) len)

module _ (run : List ℕ) (prior at : ℕ) (p : Placed run prior at) where
  at_part : Part (drop at run) (part_end (drop at run)) (eqb (get_or (drop at run) 0 0) 0)
  at_part = first_part (drop at run) p.rest_whole (let d = length-drop at run in let h = p.here in omega arith)

  pub part_there : 4 ≤ length (take (length run - at) (drop at run))
  part_there = let e = length_from at run in let h = p.here in omega arith

  pub going_start : (n : ℕ) (c : Candidate) → n ≡ part_end (take (length run - at) (drop at run)) → Going run prior at (at + n) 0 c c
  going_start n c e =
      let f : n ≡ part_end (drop at run) = e ∙ ap part_end (to_end at run) in
      let q = at_part in
      let d = length-drop at run in
      let s : at + n - at ≡ n = omega arith in
      let w : take (at + n - at) (drop at run) ≡ take (part_end (drop at run)) (drop at run) = ap (λ (x : ℕ). take x (drop at run)) (s ∙ f) in
      let r : drop (part_end (drop at run)) (drop at run) ≡ drop (at + n) run = ap (λ (x : ℕ). drop x (drop at run)) (sym f) ∙ later_words run at n in
      record {
        ahead = (let l = q.some in omega arith);
        inside = (let l = q.fits in let h = p.here in omega arith);
        small = (omega arith);
        own_whole = subst Whole (sym w) q.part_whole;
        rest_whole = subst Whole r q.rest_whole;
        same = λ own ps k.
            (let a : own ≡ tokens_in (take (part_end (drop at run)) (drop at run)) = head_is (sym k ∙ q.part_is) in
            let b : ps ≡ parts (tokens_in (drop (part_end (drop at run)) (drop at run))) = tail_is (sym k ∙ q.part_is) in
            ap₂ (λ (x : List Tokens) (y : Tokens). best c (longer x (words run prior at) y 0)) (b ∙ ap (λ (x : List ℕ). parts (tokens_in x)) r) (a ∙ ap tokens_in (sym w)));
      }
    where
      head_is : {a b : Tokens} {s t : List Tokens} → (a ∷ s) ≡ (b ∷ t) → a ≡ b
      head_is e = cc

      tail_is : {a b : Tokens} {s t : List Tokens} → (a ∷ s) ≡ (b ∷ t) → s ≡ t
      tail_is e = cc

module _ (run : List ℕ) (prior at to len : ℕ) (c : Candidate) (top : Option Pick) (p : Placed run prior at) (g : Going run prior at to len c (pick_says run top)) where
  after : Next (drop to run)
  after = next_of (drop to run) g.rest_whole

  at_le : at ≤ to
  at_le = let h = g.ahead in omega arith

  pub slice_few : length (take (to - at) (drop at run)) ≤ token_pool
  slice_few =
      let a = length-take (to - at) (drop at run) in
      let b = length-drop at run in
      let d = p.few in
      omega arith

  -- one slice is weighed, and what comes next is known
  pub weighed : (now : Result (Option Pick) TooMany) (next : ℕ) (r : Result (Option ℕ) TooMany) → next ≡ byte_end (take (length run - to) (drop to run)) → Settles (Ok top) r (rank (words run at to))
      → Stands now (Ok top) prior (to + next) (rank_says r) → (own : Tokens) (ps : List Tokens) → parts (tokens_in (drop at run)) ≡ own ∷ ps
      → best c (longer ps (words run prior at) own 0) ≡ best (winner_says run now) (further (parts (tokens_in (drop to run))) (words run prior at) (words run at to) len)
  unfolding widened
  weighed now next r e f s own ps k =
      let n : next ≡ byte_end (drop to run) = e ∙ ap byte_end (to_end to run) in
      let nx = after in
      let ww : Whole (take next (drop to run)) = subst (λ (x : ℕ). Whole (take x (drop to run))) (sym n) nx.next_whole in
      let is : next_literal (parts (tokens_in (drop to run))) ≡ tokens_in (take next (drop to run)) = nx.next_is ∙ ap (λ (x : ℕ). tokens_in (take x (drop to run))) (sym n) in
      let wide : widened (slice (words run prior at) (words run at to) (next_literal (parts (tokens_in (drop to run))))) ≡ tokens_in (take (to + next - prior) (drop prior run)) =
      ap (λ (x : Tokens). words run prior at ⊕ (words run at to ⊕ x)) is ∙ sym (widened_words run prior at to p.behind at_le p.before_whole g.own_whole next ww) in
      g.same own ps k
      ∙ turn (pick_says run top) (winner_says run now) (parts (tokens_in (drop to run))) (words run prior at) (words run at to) len
      (s run (slice (words run prior at) (words run at to) (next_literal (parts (tokens_in (drop to run))))) wide
      ∙ f run (slice (words run prior at) (words run at to) (next_literal (parts (tokens_in (drop to run))))))

  -- too many literals, whatever comes next
  pub overfull : (e : TooMany) → ((own : Tokens) (ps : List Tokens) → parts (tokens_in (drop at run)) ≡ own ∷ ps
      → best c (longer ps (words run prior at) own 0) ≡ best (winner_says run (Err e)) (further (parts (tokens_in (drop to run))) (words run prior at) (words run at to) len))
      → (own : Tokens) (ps : List Tokens) → parts (tokens_in (drop at run)) ≡ own ∷ ps → too_many_literals ≡ best c (longer ps (words run prior at) own 0)
  overfull e s own ps k = sym (s own ps k ∙ best_full (further (parts (tokens_in (drop to run))) (words run prior at) (words run at to) len))

  pub rest_there : 4 ≤ length run - to → 4 ≤ length (take (length run - to) (drop to run))
  rest_there h = let e = length_from to run in omega arith

  to_part : 4 ≤ length run - to → Part (drop to run) (part_end (drop to run)) (eqb (get_or (drop to run) 0 0) 0)
  to_part h = first_part (drop to run) g.rest_whole (let d = length-drop to run in omega arith)

  pub part_inside : (n : ℕ) → n ≡ part_end (take (length run - to) (drop to run)) → 4 ≤ length run - to → (to + n ≤ length run) × (4 ≤ n)
  part_inside n e h =
      let f : n ≡ part_end (drop to run) = e ∙ ap part_end (to_end to run) in
      let q = to_part h in
      let d = length-drop to run in
      let a = q.fits in
      let b = q.some in
      (omega arith, omega arith)

  -- the next longer slice
  pub going_on : (now : Option Pick) (n m e : ℕ) → n ≡ part_end (take (length run - to) (drop to run)) → 4 ≤ length run - to → len < 4 → e ≡ to + n → m ≡ length_in (tokens_in (take (e - to) (drop to run))) → m ≤ length (take (e - to) (drop to run))
      → ((own : Tokens) (ps : List Tokens) → parts (tokens_in (drop at run)) ≡ own ∷ ps
      → best c (longer ps (words run prior at) own 0) ≡ best (pick_says run now) (further (parts (tokens_in (drop to run))) (words run prior at) (words run at to) len))
      → Going run prior at e (len + m) c (pick_says run now)
  going_on now n m e n-is h l e-is m-is m-le s =
      let f : n ≡ part_end (drop to run) = n-is ∙ ap part_end (to_end to run) in
      let q = to_part h in
      let ins = part_inside n n-is h in
      let x : e - to ≡ n = omega arith in
      let tk : take (e - to) (drop to run) ≡ take (part_end (drop to run)) (drop to run) = ap (λ (y : ℕ). take y (drop to run)) (x ∙ f) in
      let dr : drop (part_end (drop to run)) (drop to run) ≡ drop e run = ap (λ (y : ℕ). drop y (drop to run)) (sym f) ∙ later_words run to n ∙ ap (λ (y : ℕ). drop y run) (sym e-is) in
      let wh : Whole (take n (drop to run)) = subst (λ (y : ℕ). Whole (take y (drop to run))) (sym f) q.part_whole in
      let ow : words run at e ≡ words run at to ⊕ tokens_in (take (part_end (drop to run)) (drop to run)) =
      ap (λ (y : ℕ). words run at y) e-is ∙ grown_words run prior at to p.behind at_le p.before_whole g.own_whole n ∙ ap (λ (y : ℕ). words run at to ⊕ tokens_in (take y (drop to run))) f in
      let le : len + m ≡ len + length_in (tokens_in (take (part_end (drop to run)) (drop to run))) = ap (λ (y : ℕ). len + y) (m-is ∙ ap (λ (y : List ℕ). length_in (tokens_in y)) tk) in
      let tl = length-take (e - to) (drop to run) in
      let dl = length-drop to run in
      let few = p.few in
      record {
        ahead = (let a = g.ahead in let b = ins.1 in omega arith);
        inside = (let a = ins.0 in omega arith);
        small = (omega arith);
        own_whole = subst (λ (y : ℕ). Whole (take (y - at) (drop at run))) (sym e-is) (grown_whole run prior at to p.behind at_le p.before_whole g.own_whole n wh);
        rest_whole = subst Whole dr q.rest_whole;
        same = λ own ps k.
            (s own ps k
            ∙ ap (best (pick_says run now))
            (further_more (drop to run) (part_end (drop to run)) (eqb (get_or (drop to run) 0 0) 0) (words run prior at) (words run at to) len l q
            ∙ ap₂ (λ (y : Tokens) (z : ℕ). longer (parts (tokens_in (drop (part_end (drop to run)) (drop to run)))) (words run prior at) y z) (sym ow) (sym le)
            ∙ ap (λ (y : List ℕ). longer (parts (tokens_in y)) (words run prior at) (words run at e) (len + m)) dr));
      }
