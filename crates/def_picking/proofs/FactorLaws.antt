-- Segments, runs, parts and widened slices stand in the tokens, one token after another. Assumes nothing.
use mathlib.Core.Path.{◌≡◌, refl, sym, ap, ◌∙◌, subst}
use mathlib.Core.Bool.{Bool, true, false, cond, ◌&&◌}
use mathlib.Core.List.{List, [], ◌∷◌}
use Prim.Native.Nat.{ℕ, ◌+◌}
use lib.Dec.{leb}
use Rattle.def_meaning.specs.Tokens.{Token, Tokens, nothing, ◌then◌, ◌⊕◌}
use Rattle.def_meaning.specs.Values.{Filled}
use Rattle.def_meaning.proofs.TokenLaws.{after_assoc}
use Rattle.def_picking.specs.Literals.{is_byte, length_in}
use Rattle.def_picking.specs.Runs.{closes, at_front, segmented, segments, filled_ones, first_last, runs, is_literal, joins_part, part_before, parts, slice, literal_only, longer, slices}
use Rattle.def_picking.specs.Candidates.{widened, in_run, in_pattern}
use Rattle.def_picking.proofs.KeepLaws.{Every, every_append, every_map, Holds, holds_map, Literally, Widely, run_holds, pattern_holds}

-- us stands in ts
abbrev pub Factor : Tokens → Tokens → Type 0
Factor us ts = (a : Tokens) × (b : Tokens) × (ts ≡ a ⊕ (us ⊕ b))

-- us stands at the front of ts
abbrev AtFront : Tokens → Tokens → Type 0
AtFront us ts = (b : Tokens) × (ts ≡ us ⊕ b)

-- no token closes a run
unfoldable pub Open : Tokens → Type 0
Open nothing = Unit {0}
Open (t then ts) = (closes t ≡ false) × Open ts

begun : (us ts : Tokens) → AtFront us ts → Factor us ts
unfolding ◌⊕◌
begun us ts (b, e) = (nothing, b, e)

later : (t : Token) (ts us : Tokens) → Factor us ts → Factor us (t then ts)
unfolding ◌⊕◌
later t ts us (a, b, e) = (t then a, b, ap (λ (x : Tokens). t then x) e)

-- three lists and what follows them
three : (x y z b : Tokens) → x ⊕ (y ⊕ (z ⊕ b)) ≡ (x ⊕ (y ⊕ z)) ⊕ b
three x y z b = sym (after_assoc x (y ⊕ z) b ∙ ap (λ (w : Tokens). x ⊕ w) (after_assoc y z b))

within : (us ts vs : Tokens) → Factor us ts → Factor ts vs → Factor us vs
within us ts vs (c, d, f) (a, b, e) =
    (a ⊕ c, d ⊕ b, e ∙ ap (λ (x : Tokens). a ⊕ (x ⊕ b)) f ∙ ap (λ (x : Tokens). a ⊕ x) (after_assoc c (us ⊕ d) b ∙ ap (λ (x : Tokens). c ⊕ x) (after_assoc us d b)) ∙ sym (after_assoc a c (us ⊕ (d ⊕ b))))

filled_left : (ts us : Tokens) → Filled ts → Filled (ts ⊕ us)
unfolding Filled ◌⊕◌
filled_left nothing us h = absurd h
filled_left (t then ts) us h = tt

filled_right : (ts us : Tokens) → Filled us → Filled (ts ⊕ us)
unfolding Filled ◌⊕◌
filled_right nothing us h = h
filled_right (t then ts) us h = tt

pub open_left : (ts us : Tokens) → Open (ts ⊕ us) → Open ts
unfolding Open ◌⊕◌
open_left nothing us h = tt
open_left (t then ts) us h = (h.0, open_left ts us h.1)

pub open_right : (ts us : Tokens) → Open (ts ⊕ us) → Open us
unfolding Open ◌⊕◌
open_right nothing us h = h
open_right (t then ts) us h = open_right ts us h.1

-- ---- segments and runs

-- the first segment stands at the front
unfoldable Cut : Tokens → List Tokens → Type 0
Cut ts [] = Unit {0}
Cut ts (s ∷ ss) = AtFront s ts × Every (λ u. Factor u ts) ss

cut_factors : (ts : Tokens) (ss : List Tokens) → Cut ts ss → Every (λ u. Factor u ts) ss
unfolding Cut Every
cut_factors ts [] h = tt
cut_factors ts (s ∷ ss) h = (begun s ts h.0, h.1)

cut_on : (b : Bool) (t : Token) (ts : Tokens) (ss : List Tokens) → Cut ts ss → Cut (t then ts) (segmented b t ss)
unfolding segmented at_front Cut Every ◌⊕◌
cut_on true t ts ss h = ((t then ts, refl), every_map (λ u. Factor u ts) (λ u. Factor u (t then ts)) (later t ts) ss (cut_factors ts ss h))
cut_on false t ts [] h = ((ts, refl), tt)
cut_on false t ts (s ∷ ss) h =
    ((h.0.0, ap (λ (x : Tokens). t then x) h.0.1), every_map (λ u. Factor u ts) (λ u. Factor u (t then ts)) (later t ts) ss h.1)

segments_cut : (ts : Tokens) → Cut ts (segments ts)
unfolding segments Cut Every ◌⊕◌
segments_cut nothing = ((nothing, refl), tt)
segments_cut (t then ts) = cut_on (closes t) t ts (segments ts) (segments_cut ts)

open_on : (b : Bool) (t : Token) (ss : List Tokens) → closes t ≡ b → Every Open ss → Every Open (segmented b t ss)
unfolding segmented at_front Every Open
open_on true t ss e h = (tt, h)
open_on false t [] e h = ((e, tt), tt)
open_on false t (s ∷ ss) e h = ((e, h.0), h.1)

segments_open : (ts : Tokens) → Every Open (segments ts)
unfolding segments Every Open
segments_open nothing = (tt, tt)
segments_open (t then ts) = open_on (closes t) t (segments ts) refl (segments_open ts)

filled_every : (asked : Tokens → Type 0) (ss : List Tokens) → Every asked ss → Every asked (filled_ones ss)
unfolding filled_ones Every
filled_every asked [] h = tt
filled_every asked (nothing ∷ ss) h = filled_every asked ss h.1
filled_every asked ((t then s) ∷ ss) h = (h.0, filled_every asked ss h.1)

-- what holds of each segment holds of each run
pub runs_every : (asked : Tokens → Type 0) (ts : Tokens) → Every asked (segments ts) → Every asked (runs ts)
unfolding runs first_last Every
runs_every asked ts h = filled_every asked (first_last (segments ts)) (go (segments ts) h)
  where
    go : (ss : List Tokens) → Every asked ss → Every asked (first_last ss)
    go [] k = tt
    go (s ∷ ss) k = every_append asked ss (s ∷ []) k.1 (k.0, tt)

pub runs_factors : (ts : Tokens) → Every (λ r. Factor r ts) (runs ts)
runs_factors ts = runs_every (λ r. Factor r ts) ts (cut_factors ts (segments ts) (segments_cut ts))

pub runs_open : (ts : Tokens) → Every Open (runs ts)
runs_open ts = runs_every Open ts (segments_open ts)

-- ---- parts

-- parts, one after another
unfoldable pub joined : List Tokens → Tokens
joined [] = nothing
joined (p ∷ ps) = p ⊕ joined ps

joined_before : (t : Token) (ps : List Tokens) → joined (part_before t ps) ≡ t then joined ps
unfolding joined part_before joins_part ◌⊕◌
joined_before t [] = refl
joined_before t (p ∷ ps) = go (is_byte t && is_literal p)
  where
    go : (b : Bool) → joined (joins_part b t p ps) ≡ t then (p ⊕ joined ps)
    go true = refl
    go false = refl

-- the parts of a run, one after another, are the run
pub joined_parts : (ts : Tokens) → joined (parts ts) ≡ ts
unfolding joined parts
joined_parts nothing = refl
joined_parts (t then ts) = joined_before t (parts ts) ∙ ap (λ (x : Tokens). t then x) (joined_parts ts)

filled_before : (t : Token) (ps : List Tokens) → Every Filled ps → Every Filled (part_before t ps)
unfolding part_before joins_part Every Filled
filled_before t [] h = (tt, tt)
filled_before t (p ∷ ps) h = go (is_byte t && is_literal p)
  where
    go : (b : Bool) → Every Filled (joins_part b t p ps)
    go true = (tt, h.1)
    go false = (tt, h)

parts_filled : (ts : Tokens) → Every Filled (parts ts)
unfolding parts Every
parts_filled nothing = tt
parts_filled (t then ts) = filled_before t (parts ts) (parts_filled ts)

-- a literal part, or nothing, and what follows it
only_next : (p r : Tokens) → (b : Tokens) × (p ⊕ r ≡ literal_only p ⊕ b)
unfolding literal_only ◌⊕◌
only_next p r = go (is_literal p)
  where
    go : (l : Bool) → (b : Tokens) × (p ⊕ r ≡ cond l p nothing ⊕ b)
    go true = (r, refl)
    go false = (p ⊕ r, refl)

-- and what precedes it
only_prior : (p r : Tokens) → (a : Tokens) × (p ⊕ r ≡ a ⊕ (literal_only p ⊕ r))
unfolding literal_only ◌⊕◌
only_prior p r = go (is_literal p)
  where
    go : (l : Bool) → (a : Tokens) × (p ⊕ r ≡ a ⊕ (cond l p nothing ⊕ r))
    go true = (nothing, refl)
    go false = (p, refl)

module _ (run : Tokens) where
  -- something of the run, not nothing
  abbrev pub Inside : Tokens → Type 0
  Inside us = Factor us run × Filled us

  parts_inside : (a : Tokens) (ps : List Tokens) → run ≡ a ⊕ joined ps → Every Filled ps → Every Inside ps
  unfolding joined Every
  parts_inside a [] e f = tt
  parts_inside a (p ∷ ps) e f = (((a, joined ps, e), f.0), parts_inside (a ⊕ p) ps (e ∙ sym (after_assoc a p (joined ps))) f.1)

  -- a slice that stands after a, and what follows it
  slice_inside : (a prior own next b : Tokens) → run ≡ a ⊕ (prior ⊕ (own ⊕ (next ⊕ b))) → Filled own → Inside (widened (slice prior own next))
  unfolding widened
  slice_inside a prior own next b e f =
      ((a, b, e ∙ ap (λ (x : Tokens). a ⊕ x) (three prior own next b)), filled_right prior (own ⊕ next) (filled_left own next f))

  longer_inside : (a : Tokens) (ps : List Tokens) (prior own : Tokens) (len : ℕ) → run ≡ a ⊕ (prior ⊕ (own ⊕ joined ps)) → Filled own
      → Every (λ s. Inside (widened s)) (longer ps prior own len)
  unfolding longer joined Every ◌⊕◌
  longer_inside a [] prior own len e f = (slice_inside a prior own nothing nothing e f, tt)
  longer_inside a (p ∷ ps) prior own len e f =
      let r = only_next p (joined ps) in (
        slice_inside a prior own (literal_only p) r.0 (e ∙ ap (λ (x : Tokens). a ⊕ (prior ⊕ (own ⊕ x))) r.1) f,
        go (leb 4 len) (longer_inside a ps prior (own ⊕ p) (len + length_in p) (e ∙ ap (λ (x : Tokens). a ⊕ (prior ⊕ x)) (sym (after_assoc own p (joined ps)))) (filled_left own p f)),
      )
    where
      go : (b : Bool) → Every (λ s. Inside (widened s)) (longer ps prior (own ⊕ p) (len + length_in p))
          → Every (λ s. Inside (widened s)) (cond b [] (longer ps prior (own ⊕ p) (len + length_in p)))
      go true k = tt
      go false k = k

  slices_inside : (a : Tokens) (ps : List Tokens) (prior : Tokens) → run ≡ a ⊕ (prior ⊕ joined ps) → Every Filled ps → Every (λ s. Inside (widened s)) (slices ps prior)
  unfolding slices joined Every
  slices_inside a [] prior e f = tt
  slices_inside a (p ∷ ps) prior e f =
      let r = only_prior p (joined ps) in
      every_append (λ s. Inside (widened s)) (longer ps prior p _) _ (longer_inside a ps prior p _ e f.0)
      (slices_inside (a ⊕ (prior ⊕ r.0)) ps (literal_only p) (e ∙ ap (λ (x : Tokens). a ⊕ (prior ⊕ x)) r.1 ∙ three a prior r.0 (literal_only p ⊕ joined ps)) f.1)

  -- each part of a run stands in it, and is not nothing
  pub run_parts : Every Inside (parts run)
  unfolding ◌⊕◌
  run_parts = parts_inside nothing (parts run) (sym (joined_parts run)) (parts_filled run)

  -- so does each slice with the literal parts on either side
  pub run_slices : Every (λ s. Inside (widened s)) (slices (parts run) nothing)
  unfolding ◌⊕◌
  run_slices = slices_inside nothing (parts run) nothing (sym (joined_parts run)) (parts_filled run)

  -- and so does what is chosen in it
  pub run_inside : Holds Inside (in_run run)
  run_inside =
      run_holds Inside run
      (every_map Inside (Literally Inside) (λ p h k. h) (parts run) run_parts)
      (every_map (λ s. Inside (widened s)) (Widely Inside) (λ s h n k. h) (slices (parts run) nothing) run_slices)

-- tokens that stand in others, are not nothing, and of which none closes a run
abbrev pub Taken : Tokens → Tokens → Type 0
Taken ts us = Factor us ts × Filled us × Open us

pub pattern_taken : (ts : Tokens) → Holds (Taken ts) (in_pattern ts)
unfolding Every
pattern_taken ts = pattern_holds (Taken ts) ts (go (runs ts) (runs_factors ts) (runs_open ts))
  where
    one : (r : Tokens) → Factor r ts → Open r → (us : Tokens) → Factor us r × Filled us → Taken ts us
    one r h o us ((a, b, e), f) = (within us r ts (a, b, e) h, f, open_left us b (open_right a (us ⊕ b) (subst Open e o)))

    go : (rs : List Tokens) → Every (λ r. Factor r ts) rs → Every Open rs → Every (λ r. Holds (Taken ts) (in_run r)) rs
    go [] h o = tt
    go (r ∷ rs) h o = (holds_map _ (Taken ts) (one r h.0 o.0) (in_run r) (run_inside r), go rs h.1 o.1)
