-- Walks over token entries. Assumes nothing.
use Rattle.std.proofs.Common.{◌≡◌, refl, sym, ap, ap₂, ◌∙◌, Bool, true, false, cond, ◌&&◌, List, [], ◌∷◌, ◌++◌, append-nil, append_assoc, ℕ, zero, suc, ◌+◌, ◌*◌, ◌/◌, ◌≤◌, ◌<◌, add-one, arith, eqb, leb, length, get_or, drop, set}
use Rattle.std.proofs.Math.Bool.{and_assoc}
use Rattle.std.proofs.Math.ListN.{length-append, length-drop}
use Rattle.std.proofs.Math.Option.{none, some}
use Rattle.std.proofs.Math.Seq.{drop-drop, drop_at, drop-cons, set_at, get_or-drop}
use Rattle.std.specs.List.{list_all}
use Rattle.std.specs.Simd.{first_chunks}
use Rattle.def_meaning.specs.Tokens.{Token, Tokens, Lists, Byte, NotByte, MaskedByte, NotMaskedByte, Jump, Alternatives, nothing, ◌then◌, neither, ◌or◌}
use Rattle.def_meaning.specs.Entries.{token_count, entries_of, entries, list_entries}
use Rattle.def_meaning.proofs.TokenLaws.{some_entry}
use Rattle.def_compiling.specs.Compile.{flat_token, flat_tokens, flat_branches, simple_token, simple}
use Rattle.emit.specs.Lists.{size_at, offsets}
use Rattle.emit.proofs.AltLaws.{size_least}
use Rattle.emit.proofs.OrderLaws.{Starts, offsets_count}
use Rattle.emit.proofs.LinkLaws.{fields, alt_fields, alt_inside, starts_size}
use Rattle.compiler.specs.Walks.{to_of, told_by, flat_entries, simple_at}

-- entries four words at a time
abbrev pub flat_chunk : List ℕ → Bool
flat_chunk e = flat_token (told_by (get_or e 0 0) (get_or e 1 0) (get_or e 2 0) (get_or e 3 0))

pub flat_chunks : (n : ℕ) (ws : List ℕ) → n ≡ length ws / 4 → list_all flat_chunk (first_chunks 4 n ws) ≡ flat_entries ws
unfolding flat_entries
flat_chunks zero [] h = refl
flat_chunks zero (k ∷ []) h = refl
flat_chunks zero (k ∷ (a ∷ [])) h = refl
flat_chunks zero (k ∷ (a ∷ (b ∷ []))) h = refl
flat_chunks zero (k ∷ (a ∷ (b ∷ (c ∷ ws)))) h = absurd (omega arith)
flat_chunks (suc n) [] h = absurd (omega arith)
flat_chunks (suc n) (k ∷ []) h = absurd (omega arith)
flat_chunks (suc n) (k ∷ (a ∷ [])) h = absurd (omega arith)
flat_chunks (suc n) (k ∷ (a ∷ (b ∷ []))) h = absurd (omega arith)
flat_chunks (suc n) (k ∷ (a ∷ (b ∷ (c ∷ ws)))) h = ap (λ (x : Bool). flat_token (told_by k a b c) && x) (flat_chunks n ws (omega arith))

-- what an entry of one kind asks
pub near_flat : (a b c : ℕ) → flat_token (Jump a (to_of b c)) ≡ (simple_token (Jump 0 (to_of b c)) && leb b a)
unfolding to_of flat_token simple_token
near_flat a b c = go (eqb c 0)
  where
    go : (x : Bool) → flat_token (Jump a (cond x none (some b))) ≡ (simple_token (Jump 0 (cond x none (some b))) && leb b a)
    go true = refl
    go false = refl

-- what entries say of tokens
flat_token_lem : (t : Token) (r : List ℕ) → flat_entries (entries_of t ++ r) ≡ (flat_token t && flat_entries r)
unfolding entries flat_entries told_by to_of flat_token
flat_token_lem (Byte v) r = refl
flat_token_lem (NotByte v) r = refl
flat_token_lem (MaskedByte v m) r = refl
flat_token_lem (NotMaskedByte v m) r = refl
flat_token_lem (Jump from none) r = refl
flat_token_lem (Jump from (some to)) r = refl
flat_token_lem (Alternatives ls) r = refl

flat_tokens_lem : (ts : Tokens) (r : List ℕ) → flat_entries (entries ts ++ r) ≡ (flat_tokens ts && flat_entries r)
unfolding entries flat_tokens
flat_tokens_lem nothing r = refl
flat_tokens_lem (t then ts) r =
    ap flat_entries (append_assoc (entries_of t) (entries ts) r) ∙ flat_token_lem t (entries ts ++ r) ∙ ap (λ (x : Bool). flat_token t && x) (flat_tokens_lem ts r) ∙ sym (and_assoc (flat_token t) (flat_tokens ts) (flat_entries r))

flat_lists : (ls : Lists) → flat_entries (list_entries ls) ≡ flat_branches ls
unfolding entries flat_branches flat_entries told_by flat_token
flat_lists neither = refl
flat_lists (ts or ls) = flat_tokens_lem ts (list_entries ls) ∙ ap (λ (x : Bool). flat_tokens ts && x) (flat_lists ls)

module _ (ws : List ℕ) (at : ℕ) (r : List ℕ) where
  third : (l : List ℕ) → drop at ws ≡ l → get_or ws (at + 3) 0 ≡ get_or l 3 0
  third l e = sym (get_or-drop at ws 3 0) ∙ ap (λ (x : List ℕ). get_or x 3 0) e

  simple_token_lem : (t : Token) → drop at ws ≡ entries_of t ++ r → simple_at ws at ≡ simple_token t
  unfolding simple_at simple_token entries told_by to_of
  simple_token_lem (Byte v) e = let f = fields ws at (entries_of (Byte v) ++ r) e in rw f.0
  simple_token_lem (NotByte v) e = let f = fields ws at (entries_of (NotByte v) ++ r) e in rw f.0
  simple_token_lem (MaskedByte v m) e = let f = fields ws at (entries_of (MaskedByte v m) ++ r) e in rw f.0
  simple_token_lem (NotMaskedByte v m) e = let f = fields ws at (entries_of (NotMaskedByte v m) ++ r) e in rw f.0
  simple_token_lem (Jump from none) e = let f = fields ws at (entries_of (Jump from none) ++ r) e in rw (f.0, third (entries_of (Jump from none) ++ r) e)
  simple_token_lem (Jump from (some to)) e = let f = fields ws at (entries_of (Jump from (some to)) ++ r) e in rw (f.0, f.2, third (entries_of (Jump from (some to)) ++ r) e)
  simple_token_lem (Alternatives ls) e = let f = alt_fields ws at ls r e in rw f.0 (ap flat_entries (alt_inside ws at ls r e) ∙ flat_lists ls)

-- a walk stands before the tokens that are left
pub record Walked (ws : List ℕ) (at : ℕ) (ts : Tokens) : Type 0 where
  pub rest : Tokens
  pub here : drop at ws ≡ entries rest
  pub within : at ≤ length ws
  pub simply : simple ts ≡ simple rest

pub walk_start : (ws : List ℕ) (ts : Tokens) → ws ≡ entries ts → Walked ws 0 ts
walk_start ws ts e = record { rest = ts; here = e; within = omega arith; simply = refl }

pub record Stepped (ws : List ℕ) (at : ℕ) (ts : Tokens) : Type 0 where
  pub fits : at + size_at ws at ≤ length ws
  pub passes : simple_at ws at ≡ true → Walked ws (at + size_at ws at) ts
  pub fails : simple_at ws at ≡ false → simple ts ≡ false

-- one token on
module _ (ws : List ℕ) (at : ℕ) (t : Token) (ts : Tokens) (e : drop at ws ≡ entries_of t ++ entries ts) where
  size_is : size_at ws at ≡ length (entries_of t)
  unfolding Starts
  size_is = starts_size ws at t (entries ts, e)

  on_fits : at + size_at ws at ≤ length ws
  on_fits = omega (arith, size_is, length-drop at ws, ap length e, length-append (entries_of t) (entries ts), some_entry t)

  on_here : drop (at + size_at ws at) ws ≡ entries ts
  on_here = sym (drop-drop (size_at ws at) at ws) ∙ ap₂ drop size_is e ∙ drop_at (entries_of t) (entries ts) (length (entries_of t)) refl

pub walk_step : (ws : List ℕ) (at : ℕ) (ts : Tokens) → at < length ws → Walked ws at ts → Stepped ws at ts
unfolding entries simple
walk_step ws at ts l h = go h.rest h.here h.simply
  where
    go : (us : Tokens) → drop at ws ≡ entries us → simple ts ≡ simple us → Stepped ws at ts
    go nothing e s = absurd (omega (arith, length-drop at ws, ap length e))
    go (t then us) e s = record {
      fits = on_fits ws at t us e;
      passes = λ p. record { rest = us; here = on_here ws at t us e; within = on_fits ws at t us e; simply = s ∙ ap (λ (x : Bool). x && simple us) (sym (simple_token_lem ws at (entries us) t e) ∙ p) };
      fails = λ p. s ∙ ap (λ (x : Bool). x && simple us) (sym (simple_token_lem ws at (entries us) t e) ∙ p);
    }

pub walk_fits : (ws : List ℕ) (at : ℕ) (ts : Tokens) → at < length ws → Walked ws at ts → at + size_at ws at ≤ length ws
walk_fits ws at ts l h = (walk_step ws at ts l h).fits

pub walk_end : (ws : List ℕ) (at : ℕ) (ts : Tokens) → length ws ≤ at → Walked ws at ts → simple ts ≡ true
unfolding entries simple
walk_end ws at ts l h = go h.rest h.here h.simply
  where
    go : (us : Tokens) → drop at ws ≡ entries us → simple ts ≡ simple us → simple ts ≡ true
    go nothing e s = s
    go (t then us) e s = absurd (omega (arith, length-drop at ws, ap length e, length-append (entries_of t) (entries us), some_entry t))

-- the places found on the way
pub record Marked (ws o st : List ℕ) (at n : ℕ) (ts : Tokens) : Type 0 where
  pub rest : Tokens
  pub here : drop at ws ≡ entries rest
  pub within : at ≤ length ws
  pub few : 4 * n ≤ at
  pub done : List ℕ
  pub size : length done ≡ n
  pub front : st ≡ done ++ drop n o
  pub all : done ++ offsets at rest ≡ offsets 0 ts

pub marked_start : (ws o : List ℕ) (ts : Tokens) → ws ≡ entries ts → Marked ws o o 0 0 ts
marked_start ws o ts e = record { rest = ts; here = e; within = omega arith; few = omega arith; done = []; size = refl; front = refl; all = refl }

pub marked_fits : (ws o st : List ℕ) (at n : ℕ) (ts : Tokens) → at < length ws → Marked ws o st at n ts → at + size_at ws at ≤ length ws
unfolding entries
marked_fits ws o st at n ts l h = go h.rest h.here
  where
    go : (us : Tokens) → drop at ws ≡ entries us → at + size_at ws at ≤ length ws
    go nothing e = absurd (omega (arith, length-drop at ws, ap length e))
    go (t then us) e = on_fits ws at t us e

pub marked_step : (ws o st : List ℕ) (at n : ℕ) (ts : Tokens) → at < length ws → n < length o → Marked ws o st at n ts → Marked ws o (set st n at) (at + size_at ws at) (n + 1) ts
unfolding entries offsets
marked_step ws o st at n ts l r h = go h.rest h.here h.all
  where
    go : (us : Tokens) → drop at ws ≡ entries us → h.done ++ offsets at us ≡ offsets 0 ts → Marked ws o (set st n at) (at + size_at ws at) (n + 1) ts
    go nothing e a = absurd (omega (arith, length-drop at ws, ap length e))
    go (t then us) e a = record {
      rest = us;
      here = on_here ws at t us e;
      within = on_fits ws at t us e;
      few = omega (arith, h.few, size_least ws at);
      done = h.done ++ (at ∷ []);
      size = length-append h.done (at ∷ []) ∙ ap (λ (k : ℕ). k + 1) h.size;
      front =
          ap (λ (x : List ℕ). set x n at) (h.front ∙ ap (λ (x : List ℕ). h.done ++ x) (drop-cons o n 0 r))
          ∙ set_at h.done (get_or o n 0) (drop (suc n) o) at n h.size
          ∙ sym (append_assoc h.done (at ∷ []) (drop (suc n) o))
          ∙ ap (λ (k : ℕ). (h.done ++ (at ∷ [])) ++ drop k o) (sym (add-one n));
      all = append_assoc h.done (at ∷ []) (offsets (at + size_at ws at) us) ∙ ap (λ (k : ℕ). h.done ++ (at ∷ offsets (at + k) us)) (size_is ws at t us e) ∙ a;
    }

pub marked_end : (ws o st : List ℕ) (at n : ℕ) (ts : Tokens) → length ws ≤ at → Marked ws o st at n ts → (n ≡ token_count ts) × (st ≡ offsets 0 ts ++ drop n o)
unfolding entries offsets
marked_end ws o st at n ts l h = go h.rest h.here h.all
  where
    go : (us : Tokens) → drop at ws ≡ entries us → h.done ++ offsets at us ≡ offsets 0 ts → (n ≡ token_count ts) × (st ≡ offsets 0 ts ++ drop n o)
    go nothing e a =
        let d : h.done ≡ offsets 0 ts = sym (append-nil h.done) ∙ a in
        (sym h.size ∙ ap length d ∙ offsets_count 0 ts, h.front ∙ ap (λ (x : List ℕ). x ++ drop n o) d)
    go (t then us) e a = absurd (omega (arith, length-drop at ws, ap length e, length-append (entries_of t) (entries us), some_entry t))
