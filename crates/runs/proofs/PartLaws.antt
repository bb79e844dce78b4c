-- The parts of whole words. Assumes nothing.
use Rattle.std.proofs.Common.{◌≡◌, refl, sym, ap, ap₂, ◌∙◌, subst, Bool, true, false, cond, ◌&&◌, List, [], ◌∷◌, ◌++◌, ℕ, zero, suc, ◌+◌, ◌*◌, ◌/◌, ◌≤◌, ◌<◌, ◌%◌, arith, le_refl, eqb, ltb, length, get_or, take, drop, length-drop, drop-drop, take-add, get_or-take, eqb-true, eq-eqb, ne_eqb, ltb-true, ltb-false}
use Rattle.std.proofs.Math.Option.{none as nowhere}
use borrow.Author.Tests.{eqb-false}
use Rattle.std.specs.Simd.{first_chunks}
use Rattle.std.specs.List.{prefix_len}
use Rattle.def_meaning.specs.Tokens.{Token, Tokens, NotByte, MaskedByte, NotMaskedByte, Jump, nothing, ◌then◌, ◌⊕◌}
use Rattle.def_picking.specs.Literals.{is_byte}
use Rattle.def_picking.specs.Runs.{is_literal, joins_part, part_before, parts}
use Rattle.classes.specs.Entry.{entry_token}
use Rattle.entries.specs.Words.{token_in, width, tokens_in}
use Rattle.entries.proofs.StepLaws.{tokens_end, tokens_step, width_le, width_long, walk_end, walk_step}
use Rattle.entries.proofs.PlainLaws.{token_alternatives, token_entry}
use Rattle.runs.specs.Whole.{Whole, byte_end, part_end}
use Rattle.runs.proofs.WholeLaws.{split, both_whole, whole_first, front_whole, front_token}

-- ---- the token at the front is a byte exactly if its kind is 0

byte_token : (ws : List ℕ) → get_or ws 0 0 ≡ 0 → is_byte (token_in ws) ≡ true
unfolding is_byte entry_token
byte_token ws e =
    ap is_byte (token_entry ws (λ f. omega arith)) ∙ ap (λ (x : ℕ). is_byte (entry_token x (get_or ws 1 0) (get_or ws 2 0))) e

entry_not_byte : (k v m : ℕ) → (k ≡ 0 → ⊥) → is_byte (entry_token k v m) ≡ false
unfolding is_byte entry_token
entry_not_byte k v m f = simp (ne_eqb k 0 f) (go (eqb k 1) (eqb k 2) (eqb k 3))
  where
    go : (a b c : Bool) → is_byte (cond a (NotByte (v % 256)) (cond b (MaskedByte (v % 16) (Rattle.classes.specs.Entry.mask_in m)) (cond c (NotMaskedByte (v % 16) (Rattle.classes.specs.Entry.mask_in m)) (Jump 0 nowhere)))) ≡ false
    go true b c = refl
    go false true c = refl
    go false false true = refl
    go false false false = refl

other_token : (ws : List ℕ) → (get_or ws 0 0 ≡ 0 → ⊥) → is_byte (token_in ws) ≡ false
unfolding is_byte
other_token ws f = go (eqb (get_or ws 0 0) 5) refl
  where
    go : (t : Bool) → eqb (get_or ws 0 0) 5 ≡ t → is_byte (token_in ws) ≡ false
    go true e = ap is_byte (token_alternatives ws (eqb-true (get_or ws 0 0) 5 e))
    go false e = ap is_byte (token_entry ws (eqb-false (get_or ws 0 0) 5 e)) ∙ entry_not_byte (get_or ws 0 0) (get_or ws 1 0) (get_or ws 2 0) f

-- ---- the bytes at the front

pub byte_end_none : (ws : List ℕ) → length ws < 4 → byte_end ws ≡ 0
unfolding byte_end
byte_end_none ws h = walk_end 0 (λ w n. cond (eqb (get_or w 0 0) 0) (4 + n) 0) (λ w. 4) (length ws) ws h

byte_end_step : (ws : List ℕ) → 4 ≤ length ws → byte_end ws ≡ cond (eqb (get_or ws 0 0) 0) (4 + byte_end (drop 4 ws)) 0
unfolding byte_end
byte_end_step ws h = walk_step 0 (λ w n. cond (eqb (get_or w 0 0) 0) (4 + n) 0) (λ w. 4) (λ w l. le_refl 4) ws h

pub byte_end_more : (ws : List ℕ) → 4 ≤ length ws → get_or ws 0 0 ≡ 0 → byte_end ws ≡ 4 + byte_end (drop 4 ws)
byte_end_more ws h e = byte_end_step ws h ∙ ap (λ (t : Bool). cond t (4 + byte_end (drop 4 ws)) 0) (eq-eqb (get_or ws 0 0) 0 e)

pub byte_end_other : (ws : List ℕ) → 4 ≤ length ws → (get_or ws 0 0 ≡ 0 → ⊥) → byte_end ws ≡ 0
byte_end_other ws h f = byte_end_step ws h ∙ ap (λ (t : Bool). cond t (4 + byte_end (drop 4 ws)) 0) (ne_eqb (get_or ws 0 0) 0 f)

width_entry : (ws : List ℕ) → get_or ws 0 0 ≡ 0 → width ws ≡ 4
unfolding width
width_entry ws e = let f : get_or ws 0 0 ≡ 5 → ⊥ = λ g. omega arith in rw (ne_eqb (get_or ws 0 0) 5 f)

-- ---- parts

pub record Part (ws : List ℕ) (n : ℕ) (literal : Bool) : Type 0 where
  pub some : 4 ≤ n
  pub fits : n ≤ length ws
  pub part_whole : Whole (take n ws)
  pub rest_whole : Whole (drop n ws)
  pub part_is : parts (tokens_in ws) ≡ tokens_in (take n ws) ∷ parts (tokens_in (drop n ws))
  pub kind_is : is_literal (tokens_in (take n ws)) ≡ literal

alone_part : (t : Token) (ps : List Tokens) → is_byte t ≡ false → part_before t ps ≡ (t then nothing) ∷ ps
unfolding part_before joins_part
alone_part t [] e = refl
alone_part t (p ∷ ps) e = ap (λ (b : Bool). joins_part (b && is_literal p) t p ps) e

after_part : (t : Token) (p : Tokens) (ps : List Tokens) → is_literal p ≡ false → part_before t (p ∷ ps) ≡ (t then nothing) ∷ p ∷ ps
unfolding part_before joins_part
after_part t p ps e = go (is_byte t) (is_literal p) e
  where
    go : (b c : Bool) → c ≡ false → joins_part (b && c) t p ps ≡ (t then nothing) ∷ p ∷ ps
    go true true f = absurd (let z : ◌≡◌ {A = ℕ} 0 1 = cc in omega arith)
    go true false f = refl
    go false c f = refl

join_part : (t : Token) (p : Tokens) (ps : List Tokens) → is_byte t ≡ true → is_literal p ≡ true → part_before t (p ∷ ps) ≡ (t then p) ∷ ps
unfolding part_before joins_part
join_part t p ps e f = rw (e, f)

-- any other token is a part by itself
pub token_part : (ws : List ℕ) → Whole ws → 0 < length ws → (get_or ws 0 0 ≡ 0 → ⊥) → Part ws (width ws) false
unfolding parts is_literal
token_part ws w h f =
    let e = whole_first ws w h in
    let n = e.0.entry in
    record {
      some = width_long ws n;
      fits = width_le ws n;
      part_whole = front_whole ws e.0;
      rest_whole = e.1;
      part_is =
          ap parts (tokens_step ws n) ∙ alone_part (token_in ws) (parts (tokens_in (drop (width ws) ws))) (other_token ws f)
          ∙ ap (λ (x : Tokens). x ∷ parts (tokens_in (drop (width ws) ws))) (sym (front_token ws e.0));
      kind_is = ap is_literal (front_token ws e.0) ∙ other_token ws f;
    }

-- a byte before what follows
one_byte : (ws : List ℕ) → Whole ws → 0 < length ws → get_or ws 0 0 ≡ 0
    → part_before (token_in ws) (parts (tokens_in (drop 4 ws))) ≡ (token_in ws then nothing) ∷ parts (tokens_in (drop 4 ws)) → Part ws 4 true
unfolding parts is_literal
one_byte ws w h k alone =
    let e = whole_first ws w h in
    let n = e.0.entry in
    let q = width_entry ws k in
    record {
      some = (omega arith);
      fits = n;
      part_whole = subst (λ (x : ℕ). Whole (take x ws)) q (front_whole ws e.0);
      rest_whole = subst (λ (x : ℕ). Whole (drop x ws)) q e.1;
      part_is =
          ap parts (tokens_step ws n) ∙ ap (λ (x : ℕ). part_before (token_in ws) (parts (tokens_in (drop x ws)))) q ∙ alone
          ∙ ap (λ (x : Tokens). x ∷ parts (tokens_in (drop 4 ws))) (sym (ap (λ (x : ℕ). tokens_in (take x ws)) (sym q) ∙ front_token ws e.0));
      kind_is = ap is_literal (ap (λ (x : ℕ). tokens_in (take x ws)) (sym q) ∙ front_token ws e.0) ∙ byte_token ws k;
    }

-- a byte before a literal part
more_bytes : (ws : List ℕ) (m : ℕ) → Whole ws → 0 < length ws → get_or ws 0 0 ≡ 0 → Part (drop 4 ws) m true → Part ws (4 + m) true
unfolding parts is_literal ◌⊕◌
more_bytes ws m w h k p =
    let e = whole_first ws w h in
    let n = e.0.entry in
    let q = width_entry ws k in
    let d = length-drop 4 ws in
    let f : take (4 + m) ws ≡ take 4 ws ++ take m (drop 4 ws) = take-add 4 m ws in
    let one : Whole (take 4 ws) = subst (λ (x : ℕ). Whole (take x ws)) q (front_whole ws e.0) in
    let tok : tokens_in (take 4 ws) ≡ token_in ws then nothing = ap (λ (x : ℕ). tokens_in (take x ws)) (sym q) ∙ front_token ws e.0 in
    let all : tokens_in (take (4 + m) ws) ≡ token_in ws then tokens_in (take m (drop 4 ws)) = ap tokens_in f ∙ split (take 4 ws) (take m (drop 4 ws)) one ∙ ap (λ (x : Tokens). x ⊕ tokens_in (take m (drop 4 ws))) tok ∙ joined (token_in ws) (tokens_in (take m (drop 4 ws))) in
    let r : drop m (drop 4 ws) ≡ drop (4 + m) ws = drop-drop m 4 ws in
    record {
      some = (omega arith);
      fits = (let g = p.fits in omega arith);
      part_whole = subst Whole (sym f) (both_whole (take 4 ws) (take m (drop 4 ws)) one p.part_whole);
      rest_whole = subst Whole r p.rest_whole;
      part_is =
          ap parts (tokens_step ws n) ∙ ap (λ (x : ℕ). part_before (token_in ws) (parts (tokens_in (drop x ws)))) q
          ∙ ap (part_before (token_in ws)) p.part_is ∙ join_part (token_in ws) (tokens_in (take m (drop 4 ws))) (parts (tokens_in (drop m (drop 4 ws)))) (byte_token ws k) p.kind_is
          ∙ ap₂ (λ (x : Tokens) (l : List ℕ). x ∷ parts (tokens_in l)) (sym all) r;
      kind_is = ap is_literal all ∙ byte_token ws k;
    }
  where
    joined : (t : Token) (ts : Tokens) → (t then nothing) ⊕ ts ≡ t then ts
    joined t ts = refl

-- a byte and what follows it: nothing, another token, or more bytes
last_byte : (ws : List ℕ) → Whole ws → 0 < length ws → get_or ws 0 0 ≡ 0 → length (drop 4 ws) < 4 → Part ws (4 + byte_end (drop 4 ws)) true
unfolding parts part_before
last_byte ws w h k l =
    subst (λ (x : ℕ). Part ws (4 + x) true) (sym (byte_end_none (drop 4 ws) l))
    (one_byte ws w h k (let e = tokens_end (drop 4 ws) l in ap (λ (x : Tokens). part_before (token_in ws) (parts x)) e ∙ sym (ap (λ (x : Tokens). (token_in ws then nothing) ∷ parts x) e)))

byte_then : (ws : List ℕ) → Whole ws → 0 < length ws → get_or ws 0 0 ≡ 0 → Whole (drop 4 ws) → 4 ≤ length (drop 4 ws) → (get_or (drop 4 ws) 0 0 ≡ 0 → ⊥) → Part ws (4 + byte_end (drop 4 ws)) true
byte_then ws w h k v l f =
    let p = token_part (drop 4 ws) v (omega arith) f in
    subst (λ (x : ℕ). Part ws (4 + x) true) (sym (byte_end_other (drop 4 ws) l f))
    (one_byte ws w h k
    (ap (part_before (token_in ws)) p.part_is
    ∙ after_part (token_in ws) (tokens_in (take (width (drop 4 ws)) (drop 4 ws))) (parts (tokens_in (drop (width (drop 4 ws)) (drop 4 ws)))) p.kind_is
    ∙ ap (λ (x : List Tokens). (token_in ws then nothing) ∷ x) (sym p.part_is)))

byte_and : (ws : List ℕ) → Whole ws → 0 < length ws → get_or ws 0 0 ≡ 0 → Whole (drop 4 ws) → (0 < length (drop 4 ws) → get_or (drop 4 ws) 0 0 ≡ 0 → Part (drop 4 ws) (byte_end (drop 4 ws)) true) → Part ws (4 + byte_end (drop 4 ws)) true
byte_and ws w h k v again = go (ltb (length (drop 4 ws)) 4) refl (eqb (get_or (drop 4 ws) 0 0) 0) refl
  where
    go : (b : Bool) → ltb (length (drop 4 ws)) 4 ≡ b → (c : Bool) → eqb (get_or (drop 4 ws) 0 0) 0 ≡ c → Part ws (4 + byte_end (drop 4 ws)) true
    go true p c q = last_byte ws w h k (ltb-true (length (drop 4 ws)) 4 p)
    go false p true q = more_bytes ws (byte_end (drop 4 ws)) w h k (again (let l = ltb-false (length (drop 4 ws)) 4 p in omega arith) (eqb-true (get_or (drop 4 ws) 0 0) 0 q))
    go false p false q = byte_then ws w h k v (ltb-false (length (drop 4 ws)) 4 p) (eqb-false (get_or (drop 4 ws) 0 0) 0 q)

-- successive bytes are one part
pub bytes_part : (ws : List ℕ) → Whole ws → 0 < length ws → get_or ws 0 0 ≡ 0 → Part ws (byte_end ws) true
bytes_part ws w h k = go (length ws) ws (le_refl (length ws)) w h k
  where
    go : (n : ℕ) (us : List ℕ) → length us ≤ n → Whole us → 0 < length us → get_or us 0 0 ≡ 0 → Part us (byte_end us) true
    go zero us l v i e = absurd (omega arith)
    go (suc n) us l v i e =
        let f = whole_first us v i in
        let m = f.0.entry in
        let t : Whole (drop 4 us) = subst (λ (x : ℕ). Whole (drop x us)) (width_entry us e) f.1 in
        subst (λ (x : ℕ). Part us x true) (sym (byte_end_more us m e))
        (byte_and us v i e t (λ z y. go n (drop 4 us) (let d = length-drop 4 us in omega arith) t z y))

-- the part at the front
pub first_part : (ws : List ℕ) → Whole ws → 0 < length ws → Part ws (part_end ws) (eqb (get_or ws 0 0) 0)
unfolding part_end
first_part ws w h = go (eqb (get_or ws 0 0) 0) refl
  where
    go : (b : Bool) → eqb (get_or ws 0 0) 0 ≡ b → Part ws (cond b (byte_end ws) (width ws)) b
    go true e = bytes_part ws w h (eqb-true (get_or ws 0 0) 0 e)
    go false e = token_part ws w h (eqb-false (get_or ws 0 0) 0 e)

-- ---- in the words of the code

pub byte_turn : (n : ℕ) (ws : List ℕ) → 4 ≤ length ws → get_or ws 0 0 ≡ 0 → n + byte_end ws ≡ n + 4 + byte_end (drop 4 ws)
byte_turn n ws h e = let f = byte_end_more ws h e in omega arith

pub part_end_bytes : (ws : List ℕ) → get_or ws 0 0 ≡ 0 → byte_end ws ≡ part_end ws
unfolding part_end
part_end_bytes ws e = rw (eq-eqb (get_or ws 0 0) 0 e)

pub part_end_token : (ws : List ℕ) → (get_or ws 0 0 ≡ 0 → ⊥) → width ws ≡ part_end ws
unfolding part_end
part_end_token ws f = rw (ne_eqb (get_or ws 0 0) 0 f)

-- the entries of bytes at the front, counted
counted_step : (b : Bool) (m k l : ℕ) → (4 * m ≡ k) × (k ≤ l) → (4 * cond b (1 + m) 0 ≡ cond b (4 + k) 0) × (cond b (4 + k) 0 ≤ 4 + l)
counted_step true m k l h = (omega arith, omega arith)
counted_step false m k l h = (omega arith, omega arith)

pub byte_entries : (n : ℕ) (ws : List ℕ) → n ≡ length ws / 4 → (4 * prefix_len (λ e. eqb (get_or e 0 0) 0) (first_chunks 4 n ws) ≡ byte_end ws) × (byte_end ws ≤ length ws)
byte_entries zero ws e = let z = byte_end_none ws (omega arith) in (omega arith, omega arith)
byte_entries (suc n) ws e =
    let h : 4 ≤ length ws = omega arith in
    let d = length-drop 4 ws in
    let l : 4 + length (drop 4 ws) ≡ length ws = omega arith in
    let f = byte_entries n (drop 4 ws) (omega arith) in
    let g : get_or (take 4 ws) 0 0 ≡ get_or ws 0 0 = get_or-take 4 ws 0 0 (omega arith) in
    rw (byte_end_step ws h, ← l, g) (counted_step (eqb (get_or ws 0 0) 0) _ _ _ f)
