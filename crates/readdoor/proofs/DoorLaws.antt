-- What the door's steps make of the answer and of the pool. Assumes nothing.
use Prim.Native.Char.{code}
use Rattle.std.proofs.Common.{◌≡◌, ℕ, ◌+◌, ◌-◌, ◌≤◌, ◌<◌, false, leb, List, ◌++◌, length, take, drop, replicate, get_or, Result, Ok, Err, refl, sym, ap, ap₂, ◌∙◌, append_assoc, zero-add, arith, length-drop, length-take-le, drop_at, le-leb}
use Rattle.std.proofs.lemmas.Bool.{lt-leb}
use Rattle.base.specs.declared.Refusal.{Refusal}
use Rattle.base.specs.declared.Refused.{Refused}
use Rattle.base.specs.declared.Refusal.TheVariants.{Unexpected, NoRoom}
use Rattle.base.specs.Refusals.{number_of}
use Rattle.base.specs.Pools.{zeroed, cleared}
use Rattle.base.proofs.PoolLaws.{zeroed_cleared, zeroed_filled}
use Rattle.def_meaning.specs.Limits.{text_limit, token_pool}
use Rattle.def_meaning.specs.Tokens.{Tokens}
use Rattle.def_meaning.specs.Entries.{entries}
use Rattle.def_reading.specs.Blanks.{skip}
use Rattle.def_reading.specs.Lists.{list, Verdict, accepted, rejected, closing, reading}
use Rattle.def_reading.proofs.PieceLaws.{never}
use Rattle.def_reading.proofs.TextLaws.{text_opened, text_closed, text_unclosed, accepted_words}
use Rattle.reader.specs.Written.{written}
use Rattle.reader.specs.Says.{ListGot, list_to, no_list, list_refusal, ListSays}
use Rattle.reader.proofs.SaysLaws.{list_read, list_absent, list_refused}
use Rattle.readdoor.specs.declared.Reading.{Reading}
use Rattle.readdoor.specs.Door.{gives, refuses, reads, refused, read_said, verdict_says, verdict_leaves, read_says, read_leaves, TextSays}

pub text_refused : (x : Verdict) (p q : List ℕ) (z : Refused) → x ≡ rejected z.why z.place → TextSays x (Err z) p q
unfolding TextSays
text_refused x p q z h = rw h refl

pub text_read : (x : Verdict) (p q : List ℕ) (e u : ℕ) (ts : Tokens) → x ≡ accepted e ts → u ≡ length (entries ts) → q ≡ written p 0 (entries ts) → TextSays x (reads e u) p q
unfolding TextSays
text_read x p q e u ts h a b = rw h (ap (reads e) a, b)

-- after the outer list
module _ (t : List ℕ) (at : ℕ) (short : length t ≤ text_limit) (opened : get_or t 0 0 ≡ code "{") (start : at ≡ skip t 1) (g : ListGot) (p q : List ℕ) (says : ListSays (list t 1 0 at) 0 g p q) where
  pub text_done : (s u d k e : ℕ) → g ≡ list_to s u d k → get_or t s 0 ≡ code "}" → e ≡ skip t (s + 1) → TextSays (reading t) (reads e u) p q
  text_done s u d k e h b w =
      let z = list_read 0 g p q (list t 1 0 at) s u d k h says in
      let v = z.2 in
      text_read (reading t) p q e u z.0 (text_opened t short opened at start z.1 ∙ text_closed t at z.0 s d b ∙ ap (λ (i : ℕ). accepted i z.0) (sym w)) (omega arith) z.4

  pub text_open : (s u d k : ℕ) → g ≡ list_to s u d k → (get_or t s 0 ≡ code "}" → ⊥) → TextSays (reading t) (refused Unexpected s) p q
  text_open s u d k h b =
      let z = list_read 0 g p q (list t 1 0 at) s u d k h says in
      text_refused (reading t) p q (record { why = Unexpected; place = s }) (text_opened t short opened at start z.1 ∙ text_unclosed t at z.0 s d b)

  pub text_missing : g ≡ no_list → TextSays (reading t) (refused Unexpected at) p q
  unfolding closing
  text_missing h = text_refused (reading t) p q (record { why = Unexpected; place = at }) (text_opened t short opened at start (list_absent 0 g p q (list t 1 0 at) h says).0)

  pub text_stopped : (r : Refusal) (y : ℕ) → g ≡ list_refusal r y → TextSays (reading t) (refused r y) p q
  unfolding closing
  text_stopped r y h = text_refused (reading t) p q (record { why = r; place = y }) (text_opened t short opened at start (list_refused 0 g p q (list t 1 0 at) r y h says))

-- what was read, once the answer is known
pub text_accepted : (x : Verdict) (p q : List ℕ) (r : Result Reading Refused) (g : Reading) → r ≡ Ok g → TextSays x r p q → (ts : Tokens) × (x ≡ accepted g.end ts) × (g.words ≡ length (entries ts)) × (q ≡ written p 0 (entries ts))
unfolding TextSays
text_accepted (accepted e ts) p q r g h s =
    let k : g ≡ record { end = e; words = length (entries ts) } = cc in
    (ts, ap (λ (i : ℕ). accepted i ts) (sym (ap (λ (x : Reading). x.end) k)), ap (λ (x : Reading). x.words) k, s.1)
text_accepted (rejected y z) p q r g h s = never (cc)

pub text_rejected : (x : Verdict) (p q : List ℕ) (r : Result Reading Refused) (z : Refused) → r ≡ Err z → TextSays x r p q → x ≡ rejected z.why z.place
unfolding TextSays
text_rejected (accepted e ts) p q r z h s = never (cc)
text_rejected (rejected c y) p q r z h s =
    let k : record { why = c; place = y } ≡ z = cc in
    ap₂ rejected (ap (λ (x : Refused). x.why) k) (ap (λ (x : Refused). x.place) k)

cleared_after : (size : ℕ) (q p : List ℕ) → length q ≡ size → cleared size (q ++ drop size p) ≡ cleared size p
unfolding cleared
cleared_after size q p l = ap (λ (x : List ℕ). replicate size 0 ++ x) (drop_at q (drop size p) size l)

module _ (t p : List ℕ) where
  pub door_small : (z : Refused) → length p < token_pool → z.why ≡ NoRoom → z.place ≡ 0 → (read_said (Err z) ≡ read_says t p) × (p ≡ read_leaves t p)
  unfolding read_says read_leaves
  door_small z h a b =
      let e : leb token_pool (length p) ≡ false = lt-leb token_pool (length p) h in
      (rw e (ap₂ refuses (ap number_of a) b), rw e refl)

  pub says_at : token_pool ≤ length p → (x : Verdict) → reading t ≡ x → (verdict_says x ≡ read_says t p) × (verdict_leaves x p ≡ read_leaves t p)
  unfolding read_says read_leaves
  says_at h x e = (simp (le-leb token_pool (length p) h, e), simp (le-leb token_pool (length p) h, e))

  module _ (q : List ℕ) (r : Result Reading Refused) (enough : token_pool ≤ length p) (kept : length q ≡ token_pool) (says : TextSays (reading t) r (take token_pool p) q) where
    pub words_fit : (g : Reading) → r ≡ Ok g → g.words ≤ token_pool
    words_fit g h =
        let z = text_accepted (reading t) (take token_pool p) q r g h says in
        let v = z.2 in
        omega (arith, accepted_words t g.end z.0 z.1)

    pub door_read : (g : Reading) (o : List ℕ) → r ≡ Ok g → o ≡ zeroed g.words token_pool (q ++ drop token_pool p) → (read_said (Ok g) ≡ read_says t p) × (o ≡ read_leaves t p)
    unfolding verdict_says verdict_leaves written
    door_read g o h w =
        let z = text_accepted (reading t) (take token_pool p) q r g h says in
        let ts = z.0 in
        let ws = entries ts in
        let fit : length ws ≤ 4092 = accepted_words t g.end ts z.1 in
        let d = says_at enough (accepted g.end ts) z.1 in
        let lp : length (take token_pool p) ≡ token_pool = length-take-le token_pool p enough in
        let s : q ++ drop token_pool p ≡ ws ++ (drop (length ws) (take token_pool p) ++ drop token_pool p) = ap (λ (x : List ℕ). x ++ drop token_pool p) (z.3 ∙ ap (λ (i : ℕ). ws ++ drop i (take token_pool p)) (zero-add (length ws))) ∙ append_assoc ws _ _ in
        let f : drop (token_pool - length ws) (drop (length ws) (take token_pool p) ++ drop token_pool p) ≡ drop token_pool p = drop_at (drop (length ws) (take token_pool p)) (drop token_pool p) (token_pool - length ws) (length-drop (length ws) (take token_pool p) ∙ ap (λ (i : ℕ). i - length ws) lp) in (
          ap (gives g.end) z.2 ∙ d.0,
          w ∙ ap₂ (λ (i : ℕ) (x : List ℕ). zeroed i token_pool x) z.2 s ∙ zeroed_filled token_pool ws (drop (length ws) (take token_pool p) ++ drop token_pool p) p (omega arith) f ∙ d.1,
        )

    pub door_refused : (z : Refused) (o : List ℕ) → r ≡ Err z → o ≡ zeroed 0 token_pool (q ++ drop token_pool p) → (read_said (Err z) ≡ read_says t p) × (o ≡ read_leaves t p)
    unfolding verdict_says verdict_leaves
    door_refused z o h w =
        let d = says_at enough (rejected z.why z.place) (text_rejected (reading t) (take token_pool p) q r z h says) in
        (d.0, w ∙ zeroed_cleared token_pool (q ++ drop token_pool p) ∙ cleared_after token_pool q p kept ∙ d.1)
