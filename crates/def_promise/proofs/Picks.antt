-- Tokens yield what is picked from them, and the literal door has the listed outcomes, and no others. Assumes nothing.
use Rattle.std.proofs.Common.{◌≡◌, refl, sym, ap, ◌∙◌, subst, Bool, true, false, cond, ◌⊎◌, ◌↔◌, List, map, ℕ, ◌≤◌, ◌<◌, leb, length, leb-true, Ok, Err}
use mathlib.Core.List.{flatten}
use Rattle.base.specs.declared.Refusal.TheVariants.{NotPlain, NoRoom}
use Rattle.def_meaning.specs.Tokens.{Tokens}
use Rattle.def_meaning.proofs.SoundLaws.{and_left, and_right}
use Rattle.def_reading.specs.Lists.{Verdict, accepted, rejected, reading}
use Rattle.def_grammar.specs.Grammar.{Derives}
use Rattle.def_grammar.proofs.Derivable.{accepted_derived, derived_accepted}
use Rattle.def_grammar.proofs.FaultLaws.{fault_exactly}
use Rattle.def_picking.specs.Runs.{plain_alternatives}
use Rattle.def_picking.specs.Candidates.{Candidate, unranked, chosen, too_many_literals, in_pattern, Picked, picked, unpicked, taking, pick}
use Rattle.generator.specs.Output as output
use Rattle.generator.proofs.OutputLaws.{all_fit, too_short}
use Rattle.literaldoor.specs.Door as literaldoor
use Rattle.literaldoor.proofs.DoorLaws.{all_written, none_written, text_refused, Door}
use Rattle.def_promise.specs.Winners.{Wins}
use Rattle.def_promise.specs.Picks.{Yields, Picks}
use Rattle.def_promise.specs.Picks as table
use Rattle.def_promise.proofs.Winners.{pattern_wins}
use Rattle.def_promise.proofs.Outcomes.{short_some}

-- ---- tokens

picked_yields : (ts : Tokens) → Yields ts (pick ts)
unfolding pick taking
picked_yields ts = go (plain_alternatives ts) refl (in_pattern ts) refl
  where
    go : (b : Bool) → plain_alternatives ts ≡ b → (c : Candidate) → in_pattern ts ≡ c → Yields ts (cond b (taking c) (unpicked NotPlain))
    go true h unranked e = table.none_ranked h ((pattern_wins ts unranked).0 e)
    go true h (chosen n us) e = table.winner h ((pattern_wins ts (chosen n us)).0 e)
    go true h too_many_literals e = table.too_many h ((pattern_wins ts too_many_literals).0 e)
    go false h c e = table.not_plain h

pick_taking : (ts : Tokens) (c : Candidate) → plain_alternatives ts ≡ true → Wins ts c → pick ts ≡ taking c
unfolding pick
pick_taking ts c h w = ap (λ (b : Bool). cond b (taking (in_pattern ts)) (unpicked NotPlain)) h ∙ ap taking ((pattern_wins ts c).1 w)

yields_picked : {ts : Tokens} {p : Picked} → Yields ts p → pick ts ≡ p
unfolding pick taking
yields_picked {ts} (table.not_plain h) = ap (λ (b : Bool). cond b (taking (in_pattern ts)) (unpicked NotPlain)) h
yields_picked {ts} (table.too_many h w) = pick_taking ts too_many_literals h w
yields_picked {ts} (table.none_ranked h w) = pick_taking ts unranked h w
yields_picked {ts} (table.winner {rank = n} {us = us} h w) = pick_taking ts (chosen n us) h w

pub yields : (ts : Tokens) (p : Picked) → (pick ts ≡ p) ↔ Yields ts p
yields ts p = (λ e. subst (λ (x : Picked). Yields ts x) e (picked_yields ts), λ y. yields_picked y)

-- ---- the door

module _ (ls : List (List ℕ)) (b l : List ℕ) where
  both_fit : output.fits ls b l ≡ true → (length ls ≤ length l) × (length (flatten ls) ≤ length b)
  unfolding output.fits
  both_fit h = (
    leb-true (length ls) (length l) (and_left (leb (length ls) (length l)) (leb (length (flatten ls)) (length b)) h),
    leb-true (length (flatten ls)) (length b) (and_right (leb (length ls) (length l)) (leb (length (flatten ls)) (length b)) h),
  )

  one_short : output.fits ls b l ≡ false → (length l < length ls) ⊎ (length b < length (flatten ls))
  unfolding output.fits
  one_short h = short_some (length ls) (length l) (length (flatten ls)) (length b) h

pub picks : (t b l : List ℕ) → Picks t b l (literaldoor.literals_says t b l) (literaldoor.bytes_left t b l) (literaldoor.lengths_left t b l)
unfolding literaldoor.verdict_says literaldoor.verdict_bytes literaldoor.verdict_lengths literaldoor.picked_says literaldoor.picked_bytes literaldoor.picked_lengths output.bytes_left output.lengths_left
picks t b l = go (reading t) refl
  where
    by_room : (e n : ℕ) (ts : Tokens) (ls : List (List ℕ)) → Derives t e ts → Yields ts (picked n ls) → (f : Bool) → output.fits ls b l ≡ f → Picks t b l (cond f (literaldoor.gives e (length ls) n) (literaldoor.refuses 18 0)) (cond f (output.over (flatten ls) b) b) (cond f (output.over (map length ls) l) l)
    by_room e n ts ls d y true h = let (lengths, bytes) = both_fit ls b l h in table.handed d y lengths bytes
    by_room e n ts ls d y false h = table.no_room d y (one_short ls b l h)

    by_tokens : (e : ℕ) (ts : Tokens) → Derives t e ts → (p : Picked) → Yields ts p → Picks t b l (literaldoor.picked_says e p b l) (literaldoor.picked_bytes p b l) (literaldoor.picked_lengths p b l)
    by_tokens e ts d (picked n ls) y = by_room e n ts ls d y (output.fits ls b l) refl
    by_tokens e ts d (unpicked x) y = table.refused d y

    go : (o : Verdict) → reading t ≡ o → Picks t b l (literaldoor.verdict_says o b l) (literaldoor.verdict_bytes o b l) (literaldoor.verdict_lengths o b l)
    go (accepted e ts) g = by_tokens e ts (accepted_derived t e ts g) (pick ts) (picked_yields ts)
    go (rejected x k) g = table.rejected ((fault_exactly t x k).0 g)

-- from what is said of a pick
by_pick : {t u v : List ℕ} {s : literaldoor.LiteralsSaid} {e : ℕ} {ts : Tokens} {p : Picked} (b l : List ℕ) → Derives t e ts → Yields ts p → literaldoor.HandsOut e p s b l u v → Door t s b l u v
unfolding literaldoor.verdict_says literaldoor.verdict_bytes literaldoor.verdict_lengths
by_pick {t} {u} {v} {s} {e} {ts} b l d y h = rw (derived_accepted t e ts d) (subst (λ (x : Picked). literaldoor.HandsOut e x s b l u v) (sym (yields_picked y)) h)

pub picks_one : {t b l : List ℕ} {s : literaldoor.LiteralsSaid} {u v : List ℕ} → Picks t b l s u v → (s ≡ literaldoor.literals_says t b l) × (u ≡ literaldoor.bytes_left t b l) × (v ≡ literaldoor.lengths_left t b l)
unfolding literaldoor.picked_says literaldoor.picked_bytes literaldoor.picked_lengths
picks_one {t} {b} {l} (table.rejected {x = x} {place = k} e) = text_refused t x k b l ((fault_exactly t x k).1 e)
picks_one {b = b} {l} (table.refused d y) = by_pick b l d y (refl, refl, refl)
picks_one {b = b} {l} (table.no_room {reached = e} {rank = n} {ls = ls} d y h) = by_pick b l d y (none_written e ls n (Err NoRoom) b l b l (too_short ls b l h) NoRoom refl)
picks_one {b = b} {l} (table.handed {reached = e} {rank = n} {ls = ls} d y h g) =
    let bytes = output.over (flatten ls) b in
    let lengths = output.over (map length ls) l in
    by_pick b l d y
    (all_written e ls n (Ok (length ls)) b l bytes lengths (all_fit ls (length ls) b l bytes lengths refl h g refl refl) (length ls) refl)
