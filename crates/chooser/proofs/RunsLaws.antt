-- The runs of a pattern, one after another, and the first segment last. Assumes nothing.
use Rattle.std.proofs.Common.{◌≡◌, refl, sym, ap, ap₂, ◌∙◌, subst, List, [], ◌∷◌, ◌++◌, ℕ, ◌+◌, ◌-◌, ◌≤◌, ◌<◌, arith, length, take, drop, length-drop, Option, None, drop-drop}
use Rattle.def_meaning.specs.Limits.{token_pool}
use Rattle.def_meaning.specs.Tokens.{Tokens, nothing, ◌then◌}
use Rattle.def_meaning.proofs.PartLaws.{to_end}
use Rattle.def_picking.specs.Runs.{segments, filled_ones, first_last, runs}
use Rattle.def_picking.specs.Candidates.{Candidate, unranked, too_many_literals, in_run, between, among_runs, in_pattern}
use Rattle.def_picking.proofs.RefusalLaws.{among_full}
use Rattle.entries.specs.Words.{width, tokens_in}
use Rattle.entries.proofs.StepLaws.{tokens_end, tokens_step, width_le, width_long}
use Rattle.picks.specs.declared.Pick.{Pick}
use Rattle.picks.specs.Ranks.{pick_says}
use Rattle.runs.specs.Whole.{Whole, run_end, afterward}
use Rattle.runs.proofs.WholeLaws.{whole_first}
use Rattle.runs.proofs.SegmentLaws.{Segment, first_segment}
use Rattle.chooser.specs.Kept.{Kept, Told, AllTold, Stretch, later_runs}

among_first : (c : Candidate) (s : Tokens) (ss : List Tokens) → among_runs c (filled_ones (s ∷ ss)) ≡ among_runs (among_runs c (filled_ones (s ∷ []))) (filled_ones ss)
unfolding among_runs filled_ones
among_first c nothing ss = refl
among_first c (t then s) ss = refl

among_last : (c : Candidate) (ss : List Tokens) (s : Tokens) → among_runs c (filled_ones (ss ++ (s ∷ []))) ≡ among_runs (among_runs c (filled_ones ss)) (filled_ones (s ∷ []))
unfolding among_runs filled_ones
among_last c [] s = refl
among_last c (nothing ∷ ss) s = among_last c ss s
among_last c ((t then r) ∷ ss) s = among_last (between c (in_run (t then r))) ss s

-- the first segment, which is asked last
module _ (ws : List ℕ) (n : ℕ) (e : n ≡ run_end ws) (w : Whole ws) where
  first_is : Segment ws n
  first_is = subst (Segment ws) (sym e) (first_segment ws w)

  pub first_fits : n ≤ length ws
  first_fits = first_is.fits

  pub rest_whole : Whole (drop n ws)
  rest_whole = first_is.rest_whole

  front : n - 0 ≡ n
  front = omega arith

  split_told : AllTold (segments (tokens_in ws)) → AllTold (tokens_in (take n ws) ∷ afterward (tokens_in (drop n ws)))
  split_told g = subst AllTold first_is.segment_is g

  pub rest_told : AllTold (segments (tokens_in ws)) → AllTold (afterward (tokens_in (drop n ws)))
  rest_told g = (split_told g).1

  pub first_stretch : length ws ≤ token_pool → AllTold (segments (tokens_in ws)) → Stretch ws 0 n
  first_stretch few g =
      record {
        few = few;
        ordered = (omega arith);
        inside = first_is.fits;
        stretch_whole = subst (λ (x : ℕ). Whole (take x ws)) (sym front) first_is.segment_whole;
        told = subst (λ (x : ℕ). Told (tokens_in (take x ws))) (sym front) (split_told g).0;
      }

  pub first_asked_last : (c : Candidate) → c ≡ among_runs unranked (later_runs (drop n ws)) → among_runs c (filled_ones (tokens_in (take (n - 0) ws) ∷ [])) ≡ in_pattern (tokens_in ws)
  unfolding in_pattern runs first_last
  first_asked_last c h =
      ap₂ (λ (x : Candidate) (m : ℕ). among_runs x (filled_ones (tokens_in (take m ws) ∷ []))) h front
      ∙ sym (ap (λ (ss : List Tokens). among_runs unranked (filled_ones (first_last ss))) first_is.segment_is
      ∙ among_last unranked (afterward (tokens_in (drop n ws))) (tokens_in (take n ws)))

-- a token that closed a run, and the run after it
module _ (us : List ℕ) (w : Whole us) (long : 4 ≤ length us) where
  rest_after : Whole (drop (width us) us)
  rest_after = (whole_first us w (omega arith)).1

  after_token : (n : ℕ) → n ≡ run_end (drop (width us) us) → (c : Candidate)
      → among_runs c (later_runs us) ≡ among_runs (among_runs c (filled_ones (tokens_in (take n (drop (width us) us)) ∷ []))) (later_runs (drop n (drop (width us) us)))
  unfolding afterward
  after_token n e c =
      subst
      (λ (x : ℕ). among_runs c (later_runs us) ≡ among_runs (among_runs c (filled_ones (tokens_in (take x (drop (width us) us)) ∷ []))) (later_runs (drop x (drop (width us) us)))) (sym e)
      (ap (λ (ts : Tokens). among_runs c (filled_ones (afterward ts))) (tokens_step us long)
      ∙ ap (λ (ss : List Tokens). among_runs c (filled_ones ss)) (first_segment (drop (width us) us) rest_after).segment_is
      ∙ among_first c (tokens_in (take (run_end (drop (width us) us)) (drop (width us) us))) (afterward (tokens_in (drop (run_end (drop (width us) us)) (drop (width us) us)))))

-- the runs up to `at` are asked, and `top` is the winner among them
pub record Asked (ws : List ℕ) (first at : ℕ) (top : Option Pick) : Type 0 where
  pub here : at ≤ length ws
  pub rest_whole : Whole (drop at ws)
  pub rest_told : AllTold (afterward (tokens_in (drop at ws)))
  pub kept : Kept ws top
  pub same : among_runs unranked (later_runs (drop first ws)) ≡ among_runs (pick_says ws top) (later_runs (drop at ws))

pub asked_none : (ws : List ℕ) (first : ℕ) → first ≤ length ws → Whole (drop first ws) → AllTold (afterward (tokens_in (drop first ws))) → Asked ws first first None
asked_none ws first h w g = record { here = h; rest_whole = w; rest_told = g; kept = tt; same = refl }

pub asked_all : (ws : List ℕ) (first at : ℕ) (top : Option Pick) → Asked ws first at top → length ws - at < 4
    → (pick_says ws top ≡ among_runs unranked (later_runs (drop first ws))) × Kept ws top
unfolding afterward filled_ones among_runs
asked_all ws first at top a h =
    let l = length-drop at ws in
    (sym (a.same ∙ ap (λ (ts : Tokens). among_runs (pick_says ws top) (filled_ones (afterward ts))) (tokens_end (drop at ws) (omega arith))), a.kept)

module _ (ws : List ℕ) (first at from : ℕ) (top : Option Pick) (a : Asked ws first at top) (few : length ws ≤ token_pool) (long : 4 ≤ length ws - at)
    (f : from ≡ at + width (take (length ws - at) (drop at ws))) where
  there : 4 ≤ length (drop at ws)
  there = rw (length-drop at ws) long

  from_is : from ≡ at + width (drop at ws)
  from_is = f ∙ ap (λ (l : List ℕ). at + width l) (to_end at ws)

  pub from_fits : (from ≤ length ws) × (at + 4 ≤ from)
  from_fits =
      let e = from_is in
      let l = length-drop at ws in
      let b = width_le (drop at ws) there in
      let c = width_long (drop at ws) there in
      (omega arith, omega arith)

  after_is : drop (width (drop at ws)) (drop at ws) ≡ drop from ws
  after_is = drop-drop (width (drop at ws)) at ws ∙ ap (λ (x : ℕ). drop x ws) (sym from_is)

  rest : Whole (drop from ws)
  rest = subst Whole after_is (rest_after (drop at ws) a.rest_whole there)

  after_told : AllTold (segments (tokens_in (drop from ws)))
  unfolding afterward
  after_told =
      subst (λ (l : List ℕ). AllTold (segments (tokens_in l))) after_is (subst (λ (ts : Tokens). AllTold (afterward ts)) (tokens_step (drop at ws) there) a.rest_told)

  module _ (n to : ℕ) (t : to ≡ from + n) (e : n ≡ run_end (take (length ws - from) (drop from ws))) where
    run_is : n ≡ run_end (drop from ws)
    run_is = e ∙ ap run_end (to_end from ws)

    seg : Segment (drop from ws) n
    seg = subst (Segment (drop from ws)) (sym run_is) (first_segment (drop from ws) rest)

    both_told : AllTold (tokens_in (take n (drop from ws)) ∷ afterward (tokens_in (drop n (drop from ws))))
    both_told = subst AllTold seg.segment_is after_told

    words_are : take (to - from) (drop from ws) ≡ take n (drop from ws)
    words_are = ap (λ (x : ℕ). take x (drop from ws)) (let q : to - from ≡ n = omega (arith, t) in q)

    pub run_stretch : Stretch ws from to
    run_stretch =
        let q = t in
        let l = length-drop from ws in
        let s = seg.fits in
        let k = from_fits.0 in
        record {
          few = few;
          ordered = (omega arith);
          inside = (omega arith);
          stretch_whole = subst Whole (sym words_are) seg.segment_whole;
          told = subst (λ (l : List ℕ). Told (tokens_in l)) (sym words_are) both_told.0;
        }

    pub asked_full : too_many_literals ≡ among_runs (pick_says ws top) (filled_ones (tokens_in (take (to - from) (drop from ws)) ∷ [])) → too_many_literals ≡ among_runs unranked (later_runs (drop first ws))
    asked_full h =
        sym (a.same ∙ after_token (drop at ws) a.rest_whole there n (run_is ∙ ap run_end (sym after_is)) (pick_says ws top)
        ∙ ap (λ (c : Candidate). among_runs c (later_runs (drop n (drop (width (drop at ws)) (drop at ws)))))
        (ap (λ (l : List ℕ). among_runs (pick_says ws top) (filled_ones (tokens_in (take n l) ∷ []))) after_is
        ∙ ap (λ (l : List ℕ). among_runs (pick_says ws top) (filled_ones (tokens_in l ∷ []))) (sym words_are) ∙ sym h)
        ∙ among_full (later_runs (drop n (drop (width (drop at ws)) (drop at ws)))))

    pub asked_more : (next : Option Pick) → pick_says ws next ≡ among_runs (pick_says ws top) (filled_ones (tokens_in (take (to - from) (drop from ws)) ∷ [])) → Kept ws next
        → Asked ws first to next
    asked_more next h k =
        record {
          here = run_stretch.inside;
          rest_whole = subst Whole (drop-drop n from ws ∙ ap (λ (x : ℕ). drop x ws) (sym t)) seg.rest_whole;
          rest_told = subst (λ (l : List ℕ). AllTold (afterward (tokens_in l))) (drop-drop n from ws ∙ ap (λ (x : ℕ). drop x ws) (sym t)) both_told.1;
          kept = k;
          same =
              a.same ∙ after_token (drop at ws) a.rest_whole there n (run_is ∙ ap run_end (sym after_is)) (pick_says ws top)
              ∙ ap₂ (λ (c : Candidate) (l : List ℕ). among_runs c (later_runs l))
              (ap (λ (l : List ℕ). among_runs (pick_says ws top) (filled_ones (tokens_in (take n l) ∷ []))) after_is
              ∙ ap (λ (l : List ℕ). among_runs (pick_says ws top) (filled_ones (tokens_in l ∷ []))) (sym words_are) ∙ sym h)
              (ap (drop n) after_is ∙ drop-drop n from ws ∙ ap (λ (x : ℕ). drop x ws) (sym t));
        }
