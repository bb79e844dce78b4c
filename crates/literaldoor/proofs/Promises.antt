-- What picking a text's literals promises: its refusals exactly in their cases, the literals, that every match holds one of them, and a single
-- outcome. Assumes nothing.
use Rattle.std.proofs.Common.{◌≡◌, refl, sym, ap, ap₂, ◌∙◌, Bool, true, false, cond, ◌⊎◌, inl, inr, ◌↔◌, List, [], ℕ, ◌≤◌, arith, length, Result, Ok, Err, ⊎_elim, map}
use mathlib.Core.List.{Memᴰ, flatten}
use Rattle.base.specs.declared.Refusal.{Refusal}
use Rattle.base.specs.declared.Refusal.TheVariants.{TooManyLiterals, NotPlain}
use Rattle.base.specs.Refusals.{number_of}
use Rattle.base.proofs.RefusalLaws.{number_one}
use Rattle.def_meaning.specs.Limits.{token_limit, literal_limit}
use Rattle.def_meaning.specs.Tokens.{Tokens, Spans}
use Rattle.def_meaning.specs.Values.{Bytes}
use Rattle.def_reading.specs.Lists.{Verdict, accepted, reading}
use Rattle.def_reading.proofs.PieceLaws.{never}
use Rattle.def_picking.specs.Runs.{plain_alternatives, runs}
use Rattle.def_picking.specs.Candidates.{Candidate, unranked, chosen, too_many_literals, in_pattern, Picked, picked, unpicked, taking, pick}
use Rattle.def_picking.proofs.RefusalLaws.{Some, not_plain_is, too_many_given, too_many_only}
use Rattle.def_picking.proofs.PickedLaws.{picked_few}
use Rattle.def_picking.proofs.HoldLaws.{HoldsOne, match_holds_literal}
use Rattle.generator.specs.Output as output
use Rattle.literaldoor.proofs.ReadLaws.{read_literal_bounds}
use Rattle.base.specs.declared.Refused.{Refused}
use Rattle.literaldoor.specs.declared.Picked.{Picked as Answer}
use Rattle.literaldoor.specs.Door.{gives, refuses, literals_said, picked_says, picked_bytes, picked_lengths, verdict_says, verdict_bytes, verdict_lengths, literals_says, bytes_left, lengths_left}

-- ---- what a pick says

pick_refused : (e : ℕ) (p : Picked) (b l : List ℕ) (x : Refusal) → (number_of x ≡ 18 → ⊥) → picked_says e p b l ≡ refuses (number_of x) 0 → p ≡ unpicked x
unfolding picked_says
pick_refused e (picked rank ls) b l x n h = go (output.fits ls b l) refl
  where
    go : (t : Bool) → output.fits ls b l ≡ t → picked rank ls ≡ unpicked x
    go true f = let k : gives e (length ls) rank ≡ refuses (number_of x) 0 = sym (ap (λ (t : Bool). cond t (gives e (length ls) rank) (refuses 18 0)) f) ∙ h in never (cc)
    go false f =
        let k : refuses 18 0 ≡ refuses (number_of x) 0 = sym (ap (λ (t : Bool). cond t (gives e (length ls) rank) (refuses 18 0)) f) ∙ h in
        let m : number_of x ≡ 18 = cc in
        absurd (n m)
pick_refused e (unpicked y) b l x n h = let m : number_of y ≡ number_of x = cc in ap unpicked (number_one y x m)

refused_pick : (e : ℕ) (p : Picked) (b l : List ℕ) (x : Refusal) → p ≡ unpicked x → picked_says e p b l ≡ refuses (number_of x) 0
unfolding picked_says
refused_pick e p b l x h = ap (λ (q : Picked). picked_says e q b l) h

short_says : (e rank : ℕ) (ls : List (List ℕ)) (b l : List ℕ) → output.fits ls b l ≡ false → picked_says e (picked rank ls) b l ≡ refuses 18 0
unfolding picked_says
short_says e rank ls b l f = ap (λ (t : Bool). cond t (gives e (length ls) rank) (refuses 18 0)) f

says_short : (e rank : ℕ) (ls : List (List ℕ)) (b l : List ℕ) → picked_says e (picked rank ls) b l ≡ refuses 18 0 → output.fits ls b l ≡ false
unfolding picked_says
says_short e rank ls b l h = go (output.fits ls b l) refl
  where
    go : (t : Bool) → output.fits ls b l ≡ t → output.fits ls b l ≡ false
    go true f = let k : gives e (length ls) rank ≡ refuses 18 0 = sym (ap (λ (t : Bool). cond t (gives e (length ls) rank) (refuses 18 0)) f) ∙ h in never (cc)
    go false f = f

-- a pick is never refused with 18: that is a matter of room
never_eighteen : (ts : Tokens) (x : Refusal) → pick ts ≡ unpicked x → number_of x ≡ 18 → ⊥
unfolding pick taking
never_eighteen ts x h n = go (plain_alternatives ts) (in_pattern ts) refl refl h
  where
    other : (y : Refusal) → (number_of y ≡ 18 → ⊥) → unpicked y ≡ unpicked x → ⊥
    other y f e = let k : y ≡ x = cc in f (ap number_of k ∙ n)

    go : (t : Bool) (c : Candidate) → plain_alternatives ts ≡ t → in_pattern ts ≡ c → cond t (taking c) (unpicked NotPlain) ≡ unpicked x → ⊥
    go true unranked p e q = let z : ◌≡◌ {A = ℕ} 0 1 = cc in omega arith
    go true (chosen m us) p e q = let z : ◌≡◌ {A = ℕ} 0 1 = cc in omega arith
    go true too_many_literals p e q = other TooManyLiterals (λ z. omega arith) q
    go false c p e q = other NotPlain (λ z. omega arith) q

refused_number : (e : ℕ) (x : Refusal) (b l : List ℕ) → picked_says e (unpicked x) b l ≡ refuses 18 0 → number_of x ≡ 18
unfolding picked_says
refused_number e x b l h = cc

-- literals that do not fit
pub record Short (ts : Tokens) (b l : List ℕ) : Type 0 where
  pub rank : ℕ
  pub texts : List (List ℕ)
  pub picks : pick ts ≡ picked rank texts
  pub short : output.fits texts b l ≡ false

-- Literals that were handed out, of a text that was read up to the offset e: at most 256 of 1 to 512 bytes each, one after another at the front
-- of the buffers, which else hold what they held.
pub record Handed (t : List ℕ) (e : ℕ) (ts : Tokens) (b l : List ℕ) (reached n rank : ℕ) : Type 0 where
  pub read_to : reached ≡ e
  pub texts : List (List ℕ)
  pub picks : pick ts ≡ picked rank texts
  pub number : n ≡ length texts
  pub few : n ≤ literal_limit
  pub sized : (s : List ℕ) → Memᴰ s texts → (1 ≤ length s) × (length s ≤ token_limit)
  pub bytes_are : bytes_left t b l ≡ output.over (flatten texts) b
  pub lengths_are : lengths_left t b l ≡ output.over (map length texts) l

-- of a text that is read as the tokens ts, and any buffers
module _ (t : List ℕ) (e : ℕ) (ts : Tokens) (read : reading t ≡ accepted e ts) (b l : List ℕ) where
  says_pick : literals_says t b l ≡ picked_says e (pick ts) b l
  unfolding verdict_says
  says_pick = ap (λ (x : Verdict). verdict_says x b l) read

  -- 19 exactly if some alternatives hold more than bytes and classes
  pub nineteen : (literals_says t b l ≡ refuses 19 0) ↔ (plain_alternatives ts ≡ false)
  nineteen =
      (λ h. (not_plain_is ts).0 (pick_refused e (pick ts) b l NotPlain (λ z. omega arith) (sym says_pick ∙ h)), λ h. says_pick ∙ refused_pick e (pick ts) b l NotPlain ((not_plain_is ts).1 h))

  -- 17 exactly if they do not, and some candidate has more than 256 literals
  pub seventeen : (literals_says t b l ≡ refuses 17 0) ↔ ((plain_alternatives ts ≡ true) × Some (runs ts))
  seventeen = (
    λ h. too_many_only ts (pick_refused e (pick ts) b l TooManyLiterals (λ z. omega arith) (sym says_pick ∙ h)),
    λ h. says_pick ∙ refused_pick e (pick ts) b l TooManyLiterals (too_many_given ts h.0 h.1),
  )

  -- 18 exactly if neither is given, and the literals or their lengths do not fit
  pub eighteen : (literals_says t b l ≡ refuses 18 0) ↔ Short ts b l
  eighteen = (λ h. go (pick ts) refl (sym says_pick ∙ h), λ k. says_pick ∙ ap (λ (q : Picked). picked_says e q b l) k.picks ∙ short_says e k.rank k.texts b l k.short)
    where
      go : (p : Picked) → pick ts ≡ p → picked_says e (pick ts) b l ≡ refuses 18 0 → Short ts b l
      go (picked rank ls) g h = record { rank = rank; texts = ls; picks = g; short = says_short e rank ls b l (sym (ap (λ (q : Picked). picked_says e q b l) g) ∙ h) }
      go (unpicked x) g h = absurd (never_eighteen ts x g (refused_number e x b l (sym (ap (λ (q : Picked). picked_says e q b l) g) ∙ h)))

  -- otherwise the literals are handed out
  pub handed : (reached n rank : ℕ) → literals_says t b l ≡ gives reached n rank → Handed t e ts b l reached n rank
  unfolding verdict_bytes verdict_lengths picked_says picked_bytes picked_lengths output.bytes_left output.lengths_left
  handed reached n rank h = go (pick ts) refl
    where
      fitting : (m : ℕ) (ls : List (List ℕ)) → pick ts ≡ picked m ls → (x : Bool) → output.fits ls b l ≡ x → Handed t e ts b l reached n rank
      fitting m ls g true f =
          let k : gives e (length ls) m ≡ gives reached n rank = sym (says_pick ∙ ap (λ (q : Picked). picked_says e q b l) g ∙ ap (λ (x : Bool). cond x (gives e (length ls) m) (refuses 18 0)) f) ∙ h in
          let p : length ls ≡ n = cc in
          let q : m ≡ rank = cc in
          let o : e ≡ reached = cc in
          let g' : pick ts ≡ picked rank ls = g ∙ ap (λ (x : ℕ). picked x ls) q in
          record {
            read_to = sym o;
            texts = ls;
            picks = g';
            number = sym p;
            few = (let z = picked_few ts m ls g in omega arith);
            sized = λ s i. read_literal_bounds t e ts read m ls g s i;
            bytes_are = ap (λ (x : Verdict). verdict_bytes x b l) read ∙ ap (λ (x : Picked). picked_bytes x b l) g ∙ ap (λ (x : Bool). cond x (output.over (flatten ls) b) b) f;
            lengths_are = ap (λ (x : Verdict). verdict_lengths x b l) read ∙ ap (λ (x : Picked). picked_lengths x b l) g ∙ ap (λ (x : Bool). cond x (output.over (map length ls) l) l) f;
          }
      fitting m ls g false f =
          let k : refuses 18 0 ≡ gives reached n rank = sym (says_pick ∙ ap (λ (q : Picked). picked_says e q b l) g ∙ ap (λ (x : Bool). cond x (gives e (length ls) m) (refuses 18 0)) f) ∙ h in
          never (cc)

      go : (p : Picked) → pick ts ≡ p → Handed t e ts b l reached n rank
      go (picked m ls) g = fitting m ls g (output.fits ls b l) refl
      go (unpicked x) g = let k : refuses (number_of x) 0 ≡ gives reached n rank = sym (says_pick ∙ ap (λ (q : Picked). picked_says e q b l) g) ∙ h in never (cc)

  -- and if there are any, every match of the pattern holds one of them
  pub matches_hold : (reached n rank : ℕ) (h : literals_says t b l ≡ gives reached n rank) → (n ≡ 0) ⊎ ((s : List ℕ) → Bytes s → Spans ts s → HoldsOne (handed reached n rank h).texts s)
  matches_hold reached n rank h =
      let k = handed reached n rank h in
      ⊎_elim (λ (z : k.texts ≡ []). inl (k.number ∙ ap length z)) (λ (f : (s : List ℕ) → Bytes s → Spans ts s → HoldsOne k.texts s). inr f) (match_holds_literal ts rank k.texts k.picks)

abbrev answer : ℕ → ℕ → ℕ → Result Answer Refused
answer reached count rank = Ok (record { reached = reached; count = count; rank = rank })

abbrev refusal : Refusal → ℕ → Result Answer Refused
refusal why place = Err (record { why = why; place = place })

-- an answer is known by what it says
said_one : (a b : Result Answer Refused) → literals_said a ≡ literals_said b → a ≡ b
said_one (Ok p) (Ok q) h =
    let e : p.reached ≡ q.reached = cc in
    let n : p.count ≡ q.count = cc in
    let r : p.rank ≡ q.rank = cc in
    ap (λ (x : ℕ). answer x p.count p.rank) e ∙ ap₂ (answer q.reached) n r
said_one (Ok p) (Err y) h = never (cc)
said_one (Err x) (Ok q) h = never (cc)
said_one (Err x) (Err y) h =
    let n : number_of x.why ≡ number_of y.why = cc in
    let p : x.place ≡ y.place = cc in
    ap₂ refusal (number_one x.why y.why n) p

-- the door's promise leaves one answer and one content of each buffer
pub literals_single : (t b l : List ℕ) (a c : Result Answer Refused) (u v x y : List ℕ) → literals_said a ≡ literals_says t b l → literals_said c ≡ literals_says t b l → u ≡ bytes_left t b l → v ≡ bytes_left t b l → x ≡ lengths_left t b l → y ≡ lengths_left t b l → (a ≡ c) × (u ≡ v) × (x ≡ y)
literals_single t b l a c u v x y h k i j m n = (said_one a c (h ∙ sym k), i ∙ sym j, m ∙ sym n)
