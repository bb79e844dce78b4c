-- From what was read and chosen to what the door says. Assumes nothing.
use Rattle.std.proofs.Common.{◌≡◌, refl, sym, ap, ap₂, ◌∙◌, subst, Bool, true, false, cond, ◌&&◌, List, ℕ, ◌-◌, ◌≤◌, arith, leb, length, take, drop, Some, Result, Ok, Err, le-leb}
use mathlib.Core.List.{flatten}
use Rattle.std.specs.Result.{IsErrAnd}
use Rattle.std.proofs.lemmas.Result.{err_from_is_err_and}
use Rattle.base.specs.declared.Refused.{Refused}
use Rattle.literaldoor.specs.declared.Picked.{Picked as Answer}
use Rattle.base.specs.declared.Refusal.{Refusal}
use Rattle.base.specs.Refusals.{number_of}
use Rattle.def_meaning.specs.Limits.{token_pool}
use Rattle.def_meaning.specs.Tokens.{Tokens}
use Rattle.def_meaning.specs.Entries.{entries}
use Rattle.def_meaning.specs.Values.{Spelled}
use Rattle.def_reading.proofs.SpelledValues.{accepted_spelled}
use Rattle.def_reading.specs.Lists.{accepted, rejected, reading}
use Rattle.def_picking.specs.Literals.{literals}
use Rattle.def_picking.specs.Runs.{plain_alternatives, first_last, filled_ones, runs}
use Rattle.def_picking.specs.Candidates.{Candidate, unranked, too_many_literals, among_runs, in_pattern, Picked, picked, taking, pick}
use Rattle.entries.specs.Words.{tokens_in}
use Rattle.generator.specs.Output as output
use Rattle.generator.proofs.Arms.{wrote_all, wrote_none}
use Rattle.picks.specs.declared.Pick.{Pick}
use Rattle.picks.specs.Ranks.{pick_says}
use Rattle.runs.specs.Whole.{Whole}
use Rattle.runs.proofs.EntryLaws.{whole_entries, plain_entries, segments_entries}
use Rattle.literaldoor.specs.Door.{LiteralsSaid, gives, refuses, literals_said, picked_says, picked_bytes, picked_lengths, verdict_says, verdict_bytes, verdict_lengths, literals_says, bytes_left, lengths_left, HandsOut}

-- ---- a refusal that is handed up

pub raised : (r : Result Answer Refused) (why : Refusal) (place : ℕ) → IsErrAnd r (λ z. (z.why ≡ why) × (z.place ≡ place)) → literals_said r ≡ refuses (number_of why) place
raised r why place h = let p = err_from_is_err_and r h in ap literals_said p.1 ∙ ap₂ refuses (ap number_of p.2.0) p.2.1

-- the words at the front of a pool, as the reading door's callers have them
pub front : (n : ℕ) (q es : List ℕ) → take (n - 0) (drop 0 q) ≡ es → take n q ≡ es
front n q es h = let z : n - 0 ≡ n = omega arith in ap (λ (x : ℕ). take x q) (sym z) ∙ h

-- ---- what was written

module _ (e : ℕ) (ls : List (List ℕ)) (rank : ℕ) (w : Result ℕ Refusal) (b l b' l' : List ℕ) (g : output.Generated ls w b l b' l') where
  pub all_written : (n : ℕ) → w ≡ Ok n → HandsOut e (picked rank ls) (gives e n rank) b l b' l'
  unfolding picked_says picked_bytes picked_lengths
  all_written n h =
      let a = wrote_all ls w b l b' l' g n h in
      (ap (λ (x : ℕ). gives e x rank) a.number ∙ sym (ap (λ (t : Bool). cond t (gives e (length ls) rank) (refuses 18 0)) a.fitting), g.bytes_are, g.lengths_are)

  pub none_written : (x : Refusal) → w ≡ Err x → HandsOut e (picked rank ls) (refuses (number_of x) 0) b l b' l'
  unfolding picked_says picked_bytes picked_lengths
  none_written x h =
      let a = wrote_none ls w b l b' l' g x h in
      (ap (λ (y : Refusal). refuses (number_of y) 0) a.0 ∙ sym (ap (λ (t : Bool). cond t (gives e (length ls) rank) (refuses 18 0)) a.1.short), g.bytes_are, g.lengths_are)

-- ---- what was chosen

pub nothing_chosen : (e : ℕ) (b l : List ℕ) → HandsOut e (taking unranked) (gives e 0 0) b l b l
unfolding taking picked_says picked_bytes picked_lengths flatten output.fits output.bytes_left output.lengths_left
nothing_chosen e b l = rw room (refl, refl, refl)
  where
    room : (leb 0 (length l) && leb 0 (length b)) ≡ true
    room = rw (le-leb 0 (length l) (let z : 0 ≤ length l = omega arith in z), le-leb 0 (length b) (let z : 0 ≤ length b = omega arith in z))

pub too_many : (e : ℕ) (b l : List ℕ) → HandsOut e (taking too_many_literals) (refuses 17 0) b l b l
unfolding taking picked_says picked_bytes picked_lengths
too_many e b l = (refl, refl, refl)

pub words_chosen : (e : ℕ) (ws : List ℕ) (p : Pick) (b l : List ℕ) (s : LiteralsSaid) (b' l' : List ℕ) → HandsOut e (picked p.rank (literals (tokens_in (take (p.to - p.from) (drop p.from ws))))) s b l b' l' → HandsOut e (taking (pick_says ws (Some p))) s b l b' l'
unfolding taking
words_chosen e ws p b l s b' l' h = h

-- ---- 19, or what wins

pub not_plain : (e : ℕ) (ts : Tokens) (b l : List ℕ) → plain_alternatives ts ≡ false → HandsOut e (pick ts) (refuses 19 0) b l b l
unfolding pick picked_says picked_bytes picked_lengths
not_plain e ts b l h = rw h (refl, refl, refl)

pub plain_chosen : (e : ℕ) (ts : Tokens) (c : Candidate) (s : LiteralsSaid) (b l b' l' : List ℕ) → plain_alternatives ts ≡ true → c ≡ in_pattern ts → HandsOut e (taking c) s b l b' l' → HandsOut e (pick ts) s b l b' l'
unfolding pick
plain_chosen e ts c s b l b' l' p f h = rw p (subst (λ (x : Candidate). HandsOut e (taking x) s b l b' l') f h)

-- ---- the entries of a text are taken for its tokens

pub pick_entries : (ts : Tokens) → Spelled ts → pick (tokens_in (entries ts)) ≡ pick ts
unfolding pick in_pattern runs
pick_entries ts h = go (plain_alternatives ts) refl
  where
    go : (t : Bool) → plain_alternatives ts ≡ t → pick (tokens_in (entries ts)) ≡ pick ts
    go true e =
        rw (plain_entries ts, e) (ap (λ (ss : List Tokens). taking (among_runs unranked (filled_ones (first_last ss)))) (segments_entries ts e h))
    go false e = rw (plain_entries ts, e)

-- the door
abbrev pub Door : List ℕ → LiteralsSaid → List ℕ → List ℕ → List ℕ → List ℕ → Type 0
Door t s b l b' l' = (s ≡ literals_says t b l) × (b' ≡ bytes_left t b l) × (l' ≡ lengths_left t b l)

pub text_refused : (t : List ℕ) (c : Refusal) (y : ℕ) (b l : List ℕ) → reading t ≡ rejected c y → Door t (refuses (number_of c) y) b l b l
unfolding verdict_says verdict_bytes verdict_lengths
text_refused t c y b l g = rw g (refl, refl, refl)

pub text_picked : (t : List ℕ) (e : ℕ) (ts : Tokens) (ws : List ℕ) (s : LiteralsSaid) (b l b' l' : List ℕ) → reading t ≡ accepted e ts → ws ≡ entries ts → HandsOut e (pick (tokens_in ws)) s b l b' l' → Door t s b l b' l'
unfolding verdict_says verdict_bytes verdict_lengths
text_picked t e ts ws s b l b' l' g w h =
    rw g (subst (λ (x : Picked). HandsOut e x s b l b' l') (ap (λ (x : List ℕ). pick (tokens_in x)) w ∙ pick_entries ts (accepted_spelled t e ts g)) h)

pub entries_whole : (ts : Tokens) (ws : List ℕ) → ws ≡ entries ts → length (entries ts) ≤ 4092 → (length ws ≤ token_pool) × Whole ws
entries_whole ts ws w h = (let l = ap length w in omega arith, subst Whole (sym w) (whole_entries ts))
