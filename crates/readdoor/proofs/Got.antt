-- What a caller knows of a pool that a text was read into, in each arm of a match on the answer. Assumes nothing.
use Rattle.std.proofs.Common.{◌≡◌, ℕ, ◌-◌, ◌≤◌, List, ◌++◌, length, take, drop, replicate, Result, Ok, Err, refl, sym, ap, ap₂, ◌∙◌, arith, take_at, le-leb}
use Rattle.base.specs.declared.Refused.{Refused}
use Rattle.base.specs.Refusals.{number_of}
use Rattle.base.specs.Pools.{filled}
use Rattle.base.proofs.RefusalLaws.{number_one}
use Rattle.def_meaning.specs.Limits.{token_pool}
use Rattle.def_meaning.specs.Tokens.{Tokens}
use Rattle.def_meaning.specs.Entries.{entries}
use Rattle.def_reading.specs.Lists.{Verdict, accepted, rejected, reading}
use Rattle.def_reading.proofs.PieceLaws.{never}
use Rattle.def_reading.proofs.TextLaws.{accepted_words}
use Rattle.readdoor.specs.declared.Reading.{Reading}
use Rattle.readdoor.specs.Door.{gives, refuses, read_said, verdict_says, verdict_leaves, read_says, read_leaves}

-- the text is accepted, and its entries are the first u words of the pool q
pub record Got (t q : List ℕ) (e u : ℕ) : Type 0 where
  pub tokens : Tokens
  pub verdict : reading t ≡ accepted e tokens
  pub words : take (u - 0) (drop 0 q) ≡ entries tokens
  pub few : length (entries tokens) ≤ 4092
  pub fits : u ≤ token_pool

module _ (t p q : List ℕ) (r : Result Reading Refused) (a : read_said r ≡ read_says t p) (b : q ≡ read_leaves t p) (l : token_pool ≤ length p) where
  says_it : read_said r ≡ verdict_says (reading t)
  unfolding read_says
  says_it = a ∙ rw (le-leb token_pool (length p) l)

  leaves_it : q ≡ verdict_leaves (reading t) p
  unfolding read_leaves
  leaves_it = b ∙ rw (le-leb token_pool (length p) l)

  got_from : (g : Reading) → r ≡ Ok g → (x : Verdict) → reading t ≡ x → Got t q g.end g.words
  unfolding verdict_says verdict_leaves filled
  got_from g f (accepted e ts) h =
      let s : gives g.end g.words ≡ gives e (length (entries ts)) = sym (ap read_said f) ∙ says_it ∙ ap verdict_says h in
      let ee : g.end ≡ e = cc in
      let eu : g.words ≡ length (entries ts) = cc in
      let v : reading t ≡ accepted g.end ts = h ∙ ap (λ (x : ℕ). accepted x ts) (sym ee) in
      let m : length (entries ts) ≤ 4092 = accepted_words t g.end ts v in
      let z : g.words - 0 ≡ g.words = omega arith in
      record {
        tokens = ts;
        verdict = v;
        words = ap₂ take z (leaves_it ∙ ap (λ (x : Verdict). verdict_leaves x p) h) ∙ take_at (entries ts) (replicate (token_pool - length (entries ts)) 0 ++ drop token_pool p) g.words (sym eu);
        few = m;
        fits = omega arith;
      }
  got_from g f (rejected x y) h =
      let s : gives g.end g.words ≡ refuses (number_of x) y = sym (ap read_said f) ∙ says_it ∙ ap verdict_says h in
      never (cc)

  pub got : (g : Reading) → r ≡ Ok g → Got t q g.end g.words
  got g f = got_from g f (reading t) refl

  refused_from : (z : Refused) → r ≡ Err z → (x : Verdict) → reading t ≡ x → reading t ≡ rejected z.why z.place
  unfolding verdict_says
  refused_from z f (accepted e ts) h =
      let s : refuses (number_of z.why) z.place ≡ gives e (length (entries ts)) = sym (ap read_said f) ∙ says_it ∙ ap verdict_says h in
      never (cc)
  refused_from z f (rejected x y) h =
      let s : refuses (number_of z.why) z.place ≡ refuses (number_of x) y = sym (ap read_said f) ∙ says_it ∙ ap verdict_says h in
      let n : number_of z.why ≡ number_of x = cc in
      let m : z.place ≡ y = cc in
      h ∙ ap₂ rejected (sym (number_one z.why x n)) (sym m)

  pub got_refused : (z : Refused) → r ≡ Err z → reading t ≡ rejected z.why z.place
  got_refused z f = refused_from z f (reading t) refl
