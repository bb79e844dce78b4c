-- All slices of a run, and the literal part that wins alone. Assumes nothing.
use Rattle.std.proofs.Common.{length-take, get_or-drop, add-zero, ◌≡◌, refl, sym, ap, ap₂, ◌∙◌, subst, Bool, true, false, cond, ◌&&◌, List, [], ◌∷◌, ◌++◌, ℕ, ◌+◌, ◌-◌, ◌*◌, ◌≤◌, ◌<◌, arith, eqb, leb, length, get_or, take, drop, length-drop, one-mul, eq-eqb, ne_eqb, le-leb}
use borrow.Author.Tests.{lt-leb}
use Rattle.std.proofs.Math.Nat.{mod-one}
use Rattle.std.proofs.Common as Std
use Rattle.std.proofs.Math.Option.{Option, none, some}
use Rattle.def_meaning.specs.Limits.{literal_limit, token_pool}
use Rattle.def_meaning.specs.Tokens.{Tokens, Byte, NotByte, MaskedByte, NotMaskedByte, Jump, Alternatives, nothing, ◌then◌}
use Rattle.atoms.specs.Score.{literal_score}
use Rattle.def_meaning.proofs.SoundLaws.{and_left, and_right}
use Rattle.def_meaning.proofs.PartLaws.{to_end, length_from}
use Rattle.def_picking.specs.Literals.{taken, is_byte}
use Rattle.def_picking.specs.Numbers.{count, prefixed, ending, literal_at}
use Rattle.def_picking.specs.Runs.{is_literal, joins_part, part_before, parts, Slice, literal_only, longer, slices}
use Rattle.def_picking.specs.Candidates.{Candidate, unranked, chosen, too_many_literals, against, rank_of, best, bytes_of, byte_of, strong, alone_or, in_run}
use Rattle.def_picking.proofs.RefusalLaws.{best_full}
use Rattle.entries.specs.Words.{tokens_in}
use Rattle.entries.proofs.StepLaws.{tokens_end}
use Rattle.picks.specs.declared.Pick.{Pick}
use Rattle.picks.specs.Ranks.{pick_says}
use Rattle.runs.specs.Whole.{Whole, none as empty, part_end, Placed}
use Rattle.runs.proofs.PartLaws.{Part, first_part}
use Rattle.literals.proofs.SliceLaws.{later_words}
use Rattle.literals.proofs.LongerLaws.{words}

best_append : (xs ys : List Slice) (c : Candidate) → best c (xs ++ ys) ≡ best (best c xs) ys
unfolding best
best_append [] ys c = refl
best_append (x ∷ xs) ys c = best_append xs ys (against c x (rank_of x))

no_tokens : (run : List ℕ) (a : ℕ) → words run a a ≡ nothing
no_tokens run a = let e : a - a ≡ 0 = omega arith in ap (λ (x : ℕ). tokens_in (take x (drop a run))) e ∙ tokens_end (take 0 (drop a run)) (omega arith)

-- the slices of the first parts up to `at` have been weighed
pub record Weighed (run : List ℕ) (prior at : ℕ) (top : Std.Option Pick) : Type 0 where
  pub behind : prior ≤ at
  pub inside : at ≤ length run
  pub before_whole : Whole (take (at - prior) (drop prior run))
  pub rest_whole : Whole (drop at run)
  pub same : best unranked (slices (parts (tokens_in run)) nothing) ≡ best (pick_says run top) (slices (parts (tokens_in (drop at run))) (words run prior at))

-- where an entry is left of a run, so it is of its part from there on, and the first part of that is told
pub rest_long : (run : List ℕ) (at : ℕ) → 4 ≤ length run - at → 4 ≤ length (take (length run - at) (drop at run))
rest_long run at h = let e = length_from at run in omega arith

part_there : (run : List ℕ) (at : ℕ) → Whole (drop at run) → 4 ≤ length run - at → Part (drop at run) (part_end (drop at run)) (eqb (get_or (drop at run) 0 0) 0)
part_there run at w h = first_part (drop at run) w (let d = length-drop at run in omega arith)

module _ (run : List ℕ) (few : length run ≤ token_pool) where
  pub weighed_start : Whole run → Weighed run 0 0 Std.None
  weighed_start w =
      record {
        behind = (omega arith);
        inside = (omega arith);
        before_whole = empty;
        rest_whole = w;
        same = sym (ap (λ (x : Tokens). best unranked (slices (parts (tokens_in run)) x)) (no_tokens run 0));
      }

  module _ (prior at : ℕ) (top : Std.Option Pick) (g : Weighed run prior at top) where
    pub weighed_done : length run - at < 4 → pick_says run top ≡ best unranked (slices (parts (tokens_in run)) nothing)
    unfolding parts slices best
    weighed_done h =
        let e = tokens_end (drop at run) (let d = length-drop at run in omega arith) in
        sym (g.same ∙ ap (λ (x : Tokens). best (pick_says run top) (slices (parts x) (words run prior at))) e)

    pub weighed_full : ((own : Tokens) (ps : List Tokens) → parts (tokens_in (drop at run)) ≡ own ∷ ps → too_many_literals ≡ best (pick_says run top) (longer ps (words run prior at) own 0))
        → 4 ≤ length run - at → too_many_literals ≡ best unranked (slices (parts (tokens_in run)) nothing)
    unfolding slices
    weighed_full w h =
        let q = part_there run at g.rest_whole h in
        sym (g.same ∙ ap (λ (y : List Tokens). best (pick_says run top) (slices y (words run prior at))) q.part_is
        ∙ best_append (longer (parts (tokens_in (drop (part_end (drop at run)) (drop at run)))) (words run prior at) (tokens_in (take (part_end (drop at run)) (drop at run))) 0) _ (pick_says run top)
        ∙ ap (λ (y : Candidate). best y (slices (parts (tokens_in (drop (part_end (drop at run)) (drop at run)))) (literal_only (tokens_in (take (part_end (drop at run)) (drop at run)))))) (sym (w _ _ q.part_is))
        ∙ best_full (slices (parts (tokens_in (drop (part_end (drop at run)) (drop at run)))) (literal_only (tokens_in (take (part_end (drop at run)) (drop at run))))))

    pub placed : 4 ≤ length run - at → Placed run prior at
    placed h = record { few = few; behind = g.behind; here = (omega arith); before_whole = g.before_whole; rest_whole = g.rest_whole }

    pub here_inside : 4 ≤ length run - at → (n : ℕ) → n ≡ part_end (take (length run - at) (drop at run)) → (at + n ≤ length run) × (4 ≤ n)
    here_inside h n e =
        let f : n ≡ part_end (drop at run) = e ∙ ap part_end (to_end at run) in
        let q = part_there run at g.rest_whole h in
        let d = length-drop at run in
        let a = q.fits in
        let b = q.some in
        (omega arith, omega arith)

    -- the next first part; s is where a literal part begins, or where it would end
    pub weighed_on : (h : 4 ≤ length run - at) (n e s : ℕ) (now : Std.Option Pick) → n ≡ part_end (take (length run - at) (drop at run)) → e ≡ at + n → s ≡ cond (eqb (get_or run at 0) 0) at e
        → ((own : Tokens) (ps : List Tokens) → parts (tokens_in (drop at run)) ≡ own ∷ ps → pick_says run now ≡ best (pick_says run top) (longer ps (words run prior at) own 0))
        → Weighed run s e now
    unfolding slices literal_only
    weighed_on h n e s now n-is e-is s-is w =
        let f : n ≡ part_end (drop at run) = n-is ∙ ap part_end (to_end at run) in
        let q = part_there run at g.rest_whole h in
        let ins = here_inside h n n-is in
        let k : get_or (drop at run) 0 0 ≡ get_or run at 0 = get_or-drop at run 0 0 ∙ ap (λ (x : ℕ). get_or run x 0) (add-zero at) in
        let x : e - at ≡ n = omega arith in
        let own : tokens_in (take (part_end (drop at run)) (drop at run)) ≡ words run at e = ap (λ (y : ℕ). tokens_in (take y (drop at run))) (sym (x ∙ f)) in
        let dr : drop (part_end (drop at run)) (drop at run) ≡ drop e run = ap (λ (y : ℕ). drop y (drop at run)) (sym f) ∙ later_words run at n ∙ ap (λ (y : ℕ). drop y run) (sym e-is) in
        let wh : Whole (take (e - at) (drop at run)) = subst (λ (y : ℕ). Whole (take y (drop at run))) (sym (x ∙ f)) q.part_whole in
        let lit : is_literal (words run at e) ≡ eqb (get_or run at 0) 0 = ap is_literal (sym own) ∙ q.kind_is ∙ ap (λ (y : ℕ). eqb y 0) k in
        go (eqb (get_or run at 0) 0) s-is lit own dr wh ins
      where
        go : (b : Bool) → s ≡ cond b at e → is_literal (words run at e) ≡ b → tokens_in (take (part_end (drop at run)) (drop at run)) ≡ words run at e → drop (part_end (drop at run)) (drop at run) ≡ drop e run → Whole (take (e - at) (drop at run))
            → (at + n ≤ length run) × (4 ≤ n) → Weighed run s e now
        go b s-b lit own dr wh ins =
            let q = part_there run at g.rest_whole h in
            let ls : s ≤ e = start_le b s-b in
            record {
              behind = ls;
              inside = (let a = ins.0 in omega arith);
              before_whole = start_whole b s-b wh;
              rest_whole = subst Whole dr q.rest_whole;
              same =
                  g.same ∙ ap (λ (y : List Tokens). best (pick_says run top) (slices y (words run prior at))) q.part_is
                  ∙ best_append (longer (parts (tokens_in (drop (part_end (drop at run)) (drop at run)))) (words run prior at) (tokens_in (take (part_end (drop at run)) (drop at run))) 0) _ (pick_says run top)
                  ∙ ap (λ (y : Candidate). best y (slices (parts (tokens_in (drop (part_end (drop at run)) (drop at run)))) (literal_only (tokens_in (take (part_end (drop at run)) (drop at run)))))) (sym (w _ _ q.part_is))
                  ∙ ap₂ (λ (y : List ℕ) (z : Tokens). best (pick_says run now) (slices (parts (tokens_in y)) z)) dr (ap literal_only own ∙ start_is b s-b lit);
            }
          where
            start_le : (b : Bool) → s ≡ cond b at e → s ≤ e
            start_le true q = (let a = ins.1 in omega arith)
            start_le false q = (omega arith)

            start_whole : (b : Bool) → s ≡ cond b at e → Whole (take (e - at) (drop at run)) → Whole (take (e - s) (drop s run))
            start_whole true q v = subst (λ (y : ℕ). Whole (take (e - y) (drop y run))) (sym q) v
            start_whole false q v = subst (λ (y : ℕ). Whole (take y (drop s run))) (sym (let z : e - s ≡ 0 = omega arith in z)) empty

            start_is : (b : Bool) → s ≡ cond b at e → is_literal (words run at e) ≡ b → literal_only (words run at e) ≡ words run s e
            start_is true q l = ap (λ (t : Bool). cond t (words run at e) nothing) l ∙ ap (λ (y : ℕ). words run y e) (sym q)
            start_is false q l = ap (λ (t : Bool). cond t (words run at e) nothing) l ∙ sym (ap (λ (y : ℕ). words run y e) q ∙ no_tokens run e)

-- ---- the literal part that wins alone

unfoldable pub AllBytes : Tokens → Type 0
AllBytes nothing = Unit {0}
AllBytes (t then ts) = (is_byte t ≡ true) × AllBytes ts

-- a part that begins with a byte holds nothing else
pub literal_bytes : (ts p : Tokens) (ps : List Tokens) → parts ts ≡ p ∷ ps → is_literal p ≡ true → AllBytes p
unfolding parts part_before joins_part AllBytes is_literal
literal_bytes nothing p ps e l = absurd (let z : ◌≡◌ {A = ℕ} 0 1 = cc in omega arith)
literal_bytes (t then ts) p ps e l = go (parts ts) (λ q rs f k. literal_bytes ts q rs f k) e
  where
    one : (t then nothing) ≡ p → AllBytes p
    one f = subst AllBytes f (subst (λ (x : Tokens). is_literal x ≡ true) (sym f) l, tt)

    pick : (b : Bool) (q : Tokens) (rs : List Tokens) → is_byte t && is_literal q ≡ b → (is_literal q ≡ true → AllBytes q) → joins_part b t q rs ≡ p ∷ ps → AllBytes p
    pick true q rs k ih g = let f : (t then q) ≡ p = cc in subst AllBytes f (and_left (is_byte t) (is_literal q) k, ih (and_right (is_byte t) (is_literal q) k))
    pick false q rs k ih g = one cc

    go : (qs : List Tokens) → ((q : Tokens) (rs : List Tokens) → qs ≡ q ∷ rs → is_literal q ≡ true → AllBytes q) → part_before t qs ≡ p ∷ ps → AllBytes p
    go [] ih g = one cc
    go (q ∷ rs) ih g = pick (is_byte t && is_literal q) q rs refl (ih q rs refl) g

-- such a part has one literal, its bytes
bytes_count : (ts : Tokens) → AllBytes ts → count ts ≡ 1
unfolding count AllBytes taken is_byte
bytes_count nothing h = refl
bytes_count (Byte v then ts) h = one-mul (count ts) ∙ bytes_count ts h.1
bytes_count (NotByte v then ts) h = absurd (let e = h.0 in let z : ◌≡◌ {A = ℕ} 0 1 = cc in omega arith)
bytes_count (MaskedByte v m then ts) h = absurd (let e = h.0 in let z : ◌≡◌ {A = ℕ} 0 1 = cc in omega arith)
bytes_count (NotMaskedByte v m then ts) h = absurd (let e = h.0 in let z : ◌≡◌ {A = ℕ} 0 1 = cc in omega arith)
bytes_count (Jump from to then ts) h = absurd (let e = h.0 in let z : ◌≡◌ {A = ℕ} 0 1 = cc in omega arith)
bytes_count (Alternatives ls then ts) h = absurd (let e = h.0 in let z : ◌≡◌ {A = ℕ} 0 1 = cc in omega arith)

bytes_ending : (ts : Tokens) (p k : ℕ) → AllBytes ts → ending ts p k ≡ bytes_of ts
unfolding ending count AllBytes taken is_byte bytes_of byte_of
bytes_ending nothing p k h = refl
bytes_ending (Byte v then ts) p k h =
    ap₂ (λ (x : ℕ) (l : List ℕ). get_or (v ∷ []) x 0 ∷ l) (mod-one (prefixed ts (p * 1) k)) (bytes_ending ts (p * 1) k h.1)
bytes_ending (NotByte v then ts) p k h = absurd (let e = h.0 in let z : ◌≡◌ {A = ℕ} 0 1 = cc in omega arith)
bytes_ending (MaskedByte v m then ts) p k h = absurd (let e = h.0 in let z : ◌≡◌ {A = ℕ} 0 1 = cc in omega arith)
bytes_ending (NotMaskedByte v m then ts) p k h = absurd (let e = h.0 in let z : ◌≡◌ {A = ℕ} 0 1 = cc in omega arith)
bytes_ending (Jump from to then ts) p k h = absurd (let e = h.0 in let z : ◌≡◌ {A = ℕ} 0 1 = cc in omega arith)
bytes_ending (Alternatives ls then ts) p k h = absurd (let e = h.0 in let z : ◌≡◌ {A = ℕ} 0 1 = cc in omega arith)

-- the parts before `at` do not win alone
pub record Passed (run : List ℕ) (at : ℕ) : Type 0 where
  pub inside : at ≤ length run
  pub rest_whole : Whole (drop at run)
  pub same : strong (parts (tokens_in run)) ≡ strong (parts (tokens_in (drop at run)))

module _ (run : List ℕ) (few : length run ≤ token_pool) where
  pub passed_start : Whole run → Passed run 0
  passed_start w = record { inside = (omega arith); rest_whole = w; same = refl }

  module _ (at : ℕ) (g : Passed run at) where
    pub passed_done : length run - at < 4 → unranked ≡ alone_or (strong (parts (tokens_in run))) unranked
    unfolding parts strong alone_or
    passed_done h =
        let e = tokens_end (drop at run) (let d = length-drop at run in omega arith) in
        sym (ap (λ (o : Option Tokens). alone_or o unranked) (g.same ∙ ap (λ (x : Tokens). strong (parts x)) e))

    module _ (h : 4 ≤ length run - at) (n : ℕ) (n-is : n ≡ part_end (take (length run - at) (drop at run))) where
      n_exact : n ≡ part_end (drop at run)
      n_exact = n-is ∙ ap part_end (to_end at run)

      pub front_inside : (at + n ≤ length run) × (4 ≤ n)
      front_inside =
          let q = part_there run at g.rest_whole h in
          let d = length-drop at run in
          let a = q.fits in
          let b = q.some in
          let f = n_exact in
          (omega arith, omega arith)

      x_is : (at + n) - at ≡ n
      x_is = omega arith

      own_is : tokens_in (take (part_end (drop at run)) (drop at run)) ≡ words run at (at + n)
      own_is = ap (λ (y : ℕ). tokens_in (take y (drop at run))) (sym (x_is ∙ n_exact))

      kind_at : is_literal (words run at (at + n)) ≡ eqb (get_or run at 0) 0
      kind_at =
          ap is_literal (sym own_is) ∙ (part_there run at g.rest_whole h).kind_is
          ∙ ap (λ (y : ℕ). eqb y 0) (get_or-drop at run 0 0 ∙ ap (λ (x : ℕ). get_or run x 0) (add-zero at))

      strong_step : strong (parts (tokens_in (drop at run)))
          ≡ cond (is_literal (words run at (at + n)) && leb 80 (literal_score (bytes_of (words run at (at + n))))) (some (words run at (at + n))) (strong (parts (tokens_in (drop (at + n) run))))
      unfolding strong
      strong_step =
          ap strong (part_there run at g.rest_whole h).part_is
          ∙ ap₂ (λ (p : Tokens) (l : List ℕ). cond (is_literal p && leb 80 (literal_score (bytes_of p))) (some p) (strong (parts (tokens_in l)))) own_is
          (ap (λ (y : ℕ). drop y (drop at run)) (sym n_exact) ∙ later_words run at n)

      pub front_bytes : get_or run at 0 ≡ 0 → AllBytes (words run at (at + n))
      front_bytes k = subst AllBytes own_is (literal_bytes (tokens_in (drop at run)) _ _ (part_there run at g.rest_whole h).part_is (ap is_literal own_is ∙ kind_at ∙ eq-eqb (get_or run at 0) 0 k))

      pub front_few : length (take ((at + n) - at) (drop at run)) ≤ token_pool
      front_few = let a = length-take ((at + n) - at) (drop at run) in let b = length-drop at run in omega arith

      pub front_count : get_or run at 0 ≡ 0 → (0 < count (words run at (at + n))) × (count (words run at (at + n)) ≤ literal_limit)
      front_count k = let e = bytes_count (words run at (at + n)) (front_bytes k) in (omega arith, omega arith)

      score_is : get_or run at 0 ≡ 0 → (s : ℕ) → s ≡ literal_score (literal_at (words run at (at + n)) 0) → s ≡ literal_score (bytes_of (words run at (at + n)))
      score_is k s e = e ∙ ap literal_score (bytes_ending (words run at (at + n)) 1 0 (front_bytes k))

      pub alone_wins : get_or run at 0 ≡ 0 → (s : ℕ) → s ≡ literal_score (literal_at (words run at (at + n)) 0) → 80 ≤ s → chosen s (words run at (at + n)) ≡ alone_or (strong (parts (tokens_in run))) unranked
      unfolding alone_or
      alone_wins k s e l =
          let f = score_is k s e in
          let t : is_literal (words run at (at + n)) && leb 80 (literal_score (bytes_of (words run at (at + n)))) ≡ true =
          ap₂ (λ (x y : Bool). x && y) (kind_at ∙ eq-eqb (get_or run at 0) 0 k) (ap (leb 80) (sym f) ∙ le-leb 80 s l) in
          sym (ap (λ (o : Option Tokens). alone_or o unranked) (g.same ∙ strong_step ∙ ap (λ (b : Bool). cond b (some (words run at (at + n))) (strong (parts (tokens_in (drop (at + n) run))))) t)
          ∙ ap (λ (y : ℕ). chosen y (words run at (at + n))) (sym f))

      passed_by : is_literal (words run at (at + n)) && leb 80 (literal_score (bytes_of (words run at (at + n)))) ≡ false → Passed run (at + n)
      passed_by t =
          record {
            inside = front_inside.0;
            rest_whole = subst Whole (ap (λ (y : ℕ). drop y (drop at run)) (sym n_exact) ∙ later_words run at n) (part_there run at g.rest_whole h).rest_whole;
            same = g.same ∙ strong_step ∙ ap (λ (b : Bool). cond b (some (words run at (at + n))) (strong (parts (tokens_in (drop (at + n) run))))) t;
          }

      pub passed_weak : get_or run at 0 ≡ 0 → (s : ℕ) → s ≡ literal_score (literal_at (words run at (at + n)) 0) → s < 80 → Passed run (at + n)
      passed_weak k s e l =
          passed_by (ap₂ (λ (x y : Bool). x && y) (kind_at ∙ eq-eqb (get_or run at 0) 0 k) (ap (leb 80) (sym (score_is k s e)) ∙ lt-leb 80 s l))

      pub passed_other : (get_or run at 0 ≡ 0 → ⊥) → Passed run (at + n)
      passed_other f = passed_by (ap (λ (x : Bool). x && leb 80 (literal_score (bytes_of (words run at (at + n))))) (kind_at ∙ ne_eqb (get_or run at 0) 0 f))

-- ---- what wins in a run

module _ (run : List ℕ) (s : Std.Option Pick) (h : pick_says run s ≡ alone_or (strong (parts (tokens_in run))) unranked) where
  pub run_slice : s ≡ Std.None → best unranked (slices (parts (tokens_in run)) nothing) ≡ in_run (tokens_in run)
  unfolding in_run alone_or
  run_slice f = go (strong (parts (tokens_in run))) refl
    where
      go : (o : Option Tokens) → strong (parts (tokens_in run)) ≡ o → best unranked (slices (parts (tokens_in run)) nothing) ≡ alone_or (strong (parts (tokens_in run))) (best unranked (slices (parts (tokens_in run)) nothing))
      go none q = rw q
      go (some p) q = absurd (let r : unranked ≡ chosen (literal_score (bytes_of p)) p = sym (ap (pick_says run) f) ∙ h ∙ ap (λ (o : Option Tokens). alone_or o unranked) q in let z : ◌≡◌ {A = ℕ} 0 1 = cc in omega arith)

  pub run_alone : (p : Pick) → s ≡ Std.Some p → pick_says run (Std.Some p) ≡ in_run (tokens_in run)
  unfolding in_run alone_or
  run_alone p e = d ∙ go (strong (parts (tokens_in run))) refl
    where
      d : pick_says run (Std.Some p) ≡ alone_or (strong (parts (tokens_in run))) unranked
      d = sym (ap (pick_says run) e) ∙ h

      go : (o : Option Tokens) → strong (parts (tokens_in run)) ≡ o → alone_or (strong (parts (tokens_in run))) unranked ≡ alone_or (strong (parts (tokens_in run))) (best unranked (slices (parts (tokens_in run)) nothing))
      go (some t) q = rw q
      go none q = absurd (let r : chosen p.rank (tokens_in (take (p.to - p.from) (drop p.from run))) ≡ unranked = d ∙ ap (λ (o : Option Tokens). alone_or o unranked) q in let z : ◌≡◌ {A = ℕ} 0 1 = cc in omega arith)
