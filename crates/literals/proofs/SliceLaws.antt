-- Slices of a run as words from one place to another. Assumes nothing.
use Rattle.std.proofs.Common.{◌≡◌, refl, sym, ap, ◌∙◌, subst, Bool, true, false, cond, List, [], ◌∷◌, ◌++◌, ℕ, ◌+◌, ◌-◌, ◌≤◌, ◌<◌, arith, eqb, leb, ltb, length, get_or, take, drop, drop-drop, take-add, eqb-true, le-leb, ltb-true, ltb-false}
use borrow.Author.Tests.{eqb-false, lt-leb}
use Rattle.def_meaning.specs.Tokens.{Tokens, nothing, ◌⊕◌}
use Rattle.def_picking.specs.Literals.{length_in}
use Rattle.def_picking.specs.Runs.{is_literal, parts, Slice, slice, literal_only, longer}
use Rattle.def_picking.specs.Candidates.{Candidate, rank, against, rank_of, best}
use Rattle.entries.specs.Words.{tokens_in}
use Rattle.entries.proofs.StepLaws.{tokens_end}
use Rattle.runs.specs.Whole.{Whole, none, byte_end}
use Rattle.runs.proofs.WholeLaws.{split, both_whole}
use Rattle.runs.proofs.PartLaws.{Part, byte_end_none, byte_end_other, bytes_part, token_part}

-- the literal part that comes next, or nothing
unfoldable pub next_literal : List Tokens → Tokens
next_literal [] = nothing
next_literal (p ∷ ps) = literal_only p

-- the slices after the first
unfoldable pub further : List Tokens → Tokens → Tokens → ℕ → List Slice
further [] prior own len = []
further (p ∷ ps) prior own len = cond (leb 4 len) [] (longer ps prior (own ⊕ p) (len + length_in p))

longer_head : (ps : List Tokens) (prior own : Tokens) (len : ℕ) → longer ps prior own len ≡ slice prior own (next_literal ps) ∷ further ps prior own len
unfolding longer next_literal further
longer_head [] prior own len = refl
longer_head (p ∷ ps) prior own len = refl

-- one slice is weighed
pub turn : (c d : Candidate) (ps : List Tokens) (prior own : Tokens) (len : ℕ) → d ≡ against c (slice prior own (next_literal ps)) (rank own) → best c (longer ps prior own len) ≡ best d (further ps prior own len)
unfolding best rank_of
turn c d ps prior own len e = ap (best c) (longer_head ps prior own len) ∙ ap (λ (x : Candidate). best x (further ps prior own len)) (sym e)

pub further_long : (c : Candidate) (ps : List Tokens) (prior own : Tokens) (len : ℕ) → 4 ≤ len → best c (further ps prior own len) ≡ c
unfolding further best
further_long c [] prior own len h = refl
further_long c (p ∷ ps) prior own len h = ap (λ (b : Bool). best c (cond b [] (longer ps prior (own ⊕ p) (len + length_in p)))) (le-leb 4 len h)

pub further_none : (c : Candidate) (R : List ℕ) (prior own : Tokens) (len : ℕ) → length R < 4 → best c (further (parts (tokens_in R)) prior own len) ≡ c
unfolding further best parts
further_none c R prior own len h = ap (λ (x : Tokens). best c (further (parts x) prior own len)) (tokens_end R h)

pub further_more : (R : List ℕ) (n : ℕ) (b : Bool) (prior own : Tokens) (len : ℕ) → len < 4 → Part R n b
    → further (parts (tokens_in R)) prior own len ≡ longer (parts (tokens_in (drop n R))) prior (own ⊕ tokens_in (take n R)) (len + length_in (tokens_in (take n R)))
unfolding further
further_more R n b prior own len h p =
    ap (λ (x : List Tokens). further x prior own len) p.part_is
    ∙ ap (λ (t : Bool). cond t [] (longer (parts (tokens_in (drop n R))) prior (own ⊕ tokens_in (take n R)) (len + length_in (tokens_in (take n R))))) (lt-leb 4 len h)

-- ---- the literal part that comes next

pub record Next (R : List ℕ) : Type 0 where
  pub next_fits : byte_end R ≤ length R
  pub next_whole : Whole (take (byte_end R) R)
  pub next_is : next_literal (parts (tokens_in R)) ≡ tokens_in (take (byte_end R) R)

no_words : (R : List ℕ) → tokens_in (take 0 R) ≡ nothing
no_words R = tokens_end (take 0 R) (omega arith)

literal_kept : (p : Tokens) (b : Bool) → is_literal p ≡ b → literal_only p ≡ cond b p nothing
unfolding literal_only
literal_kept p b e = ap (λ (t : Bool). cond t p nothing) e

pub next_of : (R : List ℕ) → Whole R → Next R
unfolding next_literal parts
next_of R w = go (ltb (length R) 4) refl (eqb (get_or R 0 0) 0) refl
  where
    ended : byte_end R ≡ 0 → next_literal (parts (tokens_in R)) ≡ nothing → Next R
    ended z e =
        record {
          next_fits = (omega arith);
          next_whole = subst (λ (x : ℕ). Whole (take x R)) (sym z) none;
          next_is = e ∙ sym (ap (λ (x : ℕ). tokens_in (take x R)) z ∙ no_words R);
        }

    go : (a : Bool) → ltb (length R) 4 ≡ a → (b : Bool) → eqb (get_or R 0 0) 0 ≡ b → Next R
    go true l b k = let h = ltb-true (length R) 4 l in ended (byte_end_none R h) (ap (λ (x : Tokens). next_literal (parts x)) (tokens_end R h))
    go false l true k =
        let h = ltb-false (length R) 4 l in
        let p = bytes_part R w (omega arith) (eqb-true (get_or R 0 0) 0 k) in
        record {
          next_fits = p.fits;
          next_whole = p.part_whole;
          next_is = ap next_literal p.part_is ∙ literal_kept (tokens_in (take (byte_end R) R)) true p.kind_is;
        }
    go false l false k =
        let h = ltb-false (length R) 4 l in
        let f = eqb-false (get_or R 0 0) 0 k in
        let p = token_part R w (omega arith) f in
        ended (byte_end_other R h f) (ap next_literal p.part_is ∙ literal_kept (tokens_in (take (Rattle.entries.specs.Words.width R) R)) false p.kind_is)

-- ---- words from one place to another

glue : (l : List ℕ) (a b c : ℕ) → a ≤ b → b ≤ c → take (c - a) (drop a l) ≡ take (b - a) (drop a l) ++ take (c - b) (drop b l)
glue l a b c h g =
    let e : c - a ≡ (b - a) + (c - b) = omega arith in
    let f : a + (b - a) ≡ b = omega arith in
    ap (λ (x : ℕ). take x (drop a l)) e ∙ take-add (b - a) (c - b) (drop a l)
    ∙ ap (λ (x : List ℕ). take (b - a) (drop a l) ++ take (c - b) x) (drop-drop (b - a) a l ∙ ap (λ (x : ℕ). drop x l) f)

more_words : (l : List ℕ) (a b n : ℕ) → a ≤ b → take (b + n - a) (drop a l) ≡ take (b - a) (drop a l) ++ take n (drop b l)
more_words l a b n h =
    let e : b + n - b ≡ n = omega arith in
    glue l a b (b + n) h (omega arith) ∙ ap (λ (x : ℕ). take (b - a) (drop a l) ++ take x (drop b l)) e

-- the words from `at` to `to` are a slice of a run, and those from `prior` to `at` the literal part before it
module _ (run : List ℕ) (prior at to : ℕ) (l : prior ≤ at) (g : at ≤ to) (before : Whole (take (at - prior) (drop prior run))) (own : Whole (take (to - at) (drop at run))) where
  pub widened_words : (n : ℕ) → Whole (take n (drop to run))
      → tokens_in (take (to + n - prior) (drop prior run)) ≡ tokens_in (take (at - prior) (drop prior run)) ⊕ (tokens_in (take (to - at) (drop at run)) ⊕ tokens_in (take n (drop to run)))
  widened_words n w =
      let A = take (at - prior) (drop prior run) in
      let B = take (to - at) (drop at run) in
      let C = take n (drop to run) in
      let e : take (to + n - prior) (drop prior run) ≡ A ++ (B ++ C) = glue run prior at (to + n) l (omega arith) ∙ ap (λ (x : List ℕ). A ++ x) (more_words run at to n g) in
      ap tokens_in e ∙ split A (B ++ C) before ∙ ap (λ (x : Tokens). tokens_in A ⊕ x) (split B C own)

  pub grown_words : (n : ℕ) → tokens_in (take (to + n - at) (drop at run)) ≡ tokens_in (take (to - at) (drop at run)) ⊕ tokens_in (take n (drop to run))
  grown_words n = ap tokens_in (more_words run at to n g) ∙ split (take (to - at) (drop at run)) (take n (drop to run)) own

  pub grown_whole : (n : ℕ) → Whole (take n (drop to run)) → Whole (take (to + n - at) (drop at run))
  grown_whole n w = subst Whole (sym (more_words run at to n g)) (both_whole (take (to - at) (drop at run)) (take n (drop to run)) own w)

pub later_words : (run : List ℕ) (to n : ℕ) → drop n (drop to run) ≡ drop (to + n) run
later_words run to n = drop-drop n to run
