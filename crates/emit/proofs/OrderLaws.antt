-- Tokens by their places, forwards and backwards, and the program of the first few of them. Assumes nothing.
use Rattle.std.proofs.Common.{◌≡◌, refl, sym, ap, ap₂, ◌∙◌, subst, Bool, true, false, ◌⊎◌, inl, inr, ⊎_elim, List, [], ◌++◌, append_assoc, ℕ, zero, suc, ◌+◌, ◌-◌, ◌*◌, ◌≤◌, ◌<◌, arith, ltb, ltb-true, ltb-false, length, get_or, drop, length-append, drop_at}
use Rattle.def_meaning.specs.Tokens.{Token, Tokens, Lists, Byte, nothing, ◌then◌, ◌⊕◌}
use Rattle.def_meaning.specs.Values.{SpelledOne, Spelled}
use Rattle.def_meaning.specs.Entries.{token_count, entries_of, entries}
use Rattle.def_meaning.specs.Programs.{Item, Prog, end}
use Rattle.def_meaning.proofs.SoundLaws.{and_left, and_right}
use Rattle.def_compiling.specs.ProgramWords.{words_of, nodes}
use Rattle.def_compiling.specs.Compiling.{add, item_of, added, backwards_of, backwards, backwards_in}
use Rattle.def_compiling.specs.Compile.{simple_token, simple}
use Rattle.def_compiling.proofs.CountLaws.{added_words}
use Rattle.emit.specs.Items.{place_of}
use Rattle.emit.specs.Lists.{added_to, offsets}

-- the token at a place, and the first k
unfoldable pub nth : ℕ → Tokens → Token
nth k nothing = Byte 0
nth zero (t then ts) = t
nth (suc k) (t then ts) = nth k ts

unfoldable pub firsts : ℕ → Tokens → Tokens
firsts k nothing = nothing
firsts zero (t then ts) = nothing
firsts (suc k) (t then ts) = t then firsts k ts

-- in one direction or the other
abbrev pub directed_of : Bool → Token → Token
directed_of true t = backwards_of t
directed_of false t = t

abbrev pub directed : Bool → Tokens → Tokens
directed true ts = backwards ts
directed false ts = ts

abbrev pub directed_in : Bool → Lists → Lists
directed_in true ls = backwards_in ls
directed_in false ls = ls

count_join : (ts us : Tokens) → token_count (ts ⊕ us) ≡ token_count ts + token_count us
unfolding token_count ◌⊕◌
count_join nothing us = omega arith
count_join (t then ts) us = omega (arith, count_join ts us)

count_backwards : (ts : Tokens) → token_count (backwards ts) ≡ token_count ts
unfolding token_count backwards
count_backwards nothing = refl
count_backwards (t then ts) = omega (arith, count_join (backwards ts) (backwards_of t then nothing), count_backwards ts)

pub directed_count : (b : Bool) (ts : Tokens) → token_count (directed b ts) ≡ token_count ts
directed_count true ts = count_backwards ts
directed_count false ts = refl

nth_left : (k : ℕ) (ts us : Tokens) → k < token_count ts → nth k (ts ⊕ us) ≡ nth k ts
unfolding nth token_count ◌⊕◌
nth_left k nothing us h = absurd (omega arith)
nth_left zero (t then ts) us h = refl
nth_left (suc k) (t then ts) us h = nth_left k ts us (omega arith)

nth_last : (ts : Tokens) (t : Token) → nth (token_count ts) (ts ⊕ (t then nothing)) ≡ t
unfolding nth token_count ◌⊕◌
nth_last nothing t = refl
nth_last (u then ts) t = nth_last ts t

nth_later : (k : ℕ) (t : Token) (ts : Tokens) → 1 ≤ k → nth k (t then ts) ≡ nth (k - 1) ts
unfolding nth
nth_later zero t ts h = absurd (omega arith)
nth_later (suc k) t ts h = let e : suc k - 1 ≡ k = omega arith in rw e

below_or : (k n : ℕ) → k < suc n → (k < n) ⊎ (k ≡ n)
below_or k n h = go (ltb k n) refl
  where
    go : (t : Bool) → ltb k n ≡ t → (k < n) ⊎ (k ≡ n)
    go true e = inl (ltb-true k n e)
    go false e = let g : n ≤ k = ltb-false k n e in inr (omega arith)

nth_backwards : (k : ℕ) (ts : Tokens) → k < token_count ts → nth k (backwards ts) ≡ backwards_of (nth (token_count ts - 1 - k) ts)
unfolding backwards token_count nth
nth_backwards k nothing h = absurd (omega arith)
nth_backwards k (t then ts) h = ⊎_elim (λ l. inner l (nth_backwards k ts l)) outer (below_or k (token_count ts) h)
  where
    inner : k < token_count ts → nth k (backwards ts) ≡ backwards_of (nth (token_count ts - 1 - k) ts) → nth k (backwards ts ⊕ (backwards_of t then nothing)) ≡ backwards_of (nth (suc (token_count ts) - 1 - k) (t then ts))
    inner l e =
        let m : k < token_count (backwards ts) = omega (arith, count_backwards ts) in
        let i : 1 ≤ suc (token_count ts) - 1 - k = omega arith in
        let j : suc (token_count ts) - 1 - k - 1 ≡ token_count ts - 1 - k = omega arith in
        nth_left k (backwards ts) (backwards_of t then nothing) m ∙ e ∙ ap backwards_of (sym (nth_later (suc (token_count ts) - 1 - k) t ts i ∙ ap (λ (x : ℕ). nth x ts) j))

    outer : k ≡ token_count ts → nth k (backwards ts ⊕ (backwards_of t then nothing)) ≡ backwards_of (nth (suc (token_count ts) - 1 - k) (t then ts))
    outer e =
        let j : suc (token_count ts) - 1 - k ≡ 0 = omega arith in
        ap (λ (x : ℕ). nth x (backwards ts ⊕ (backwards_of t then nothing))) (e ∙ sym (count_backwards ts)) ∙ nth_last (backwards ts) (backwards_of t) ∙ rw j

pub nth_directed : (b : Bool) (k : ℕ) (ts : Tokens) → k < token_count ts → nth k (directed b ts) ≡ directed_of b (nth (place_of b (token_count ts) k) ts)
unfolding place_of
nth_directed true k ts h = nth_backwards k ts h
nth_directed false k ts h = refl

pub place_below : (b : Bool) (n k : ℕ) → k < n → place_of b n k < n
unfolding place_of
place_below true n k h = omega arith
place_below false n k h = h

-- the first few, and one more
firsts_suc : (k : ℕ) (ts : Tokens) → k < token_count ts → firsts (suc k) ts ≡ firsts k ts ⊕ (nth k ts then nothing)
unfolding firsts nth token_count ◌⊕◌
firsts_suc k nothing h = absurd (omega arith)
firsts_suc zero (t then nothing) h = refl
firsts_suc zero (t then (u then ts)) h = refl
firsts_suc (suc k) (t then ts) h = ap (λ (us : Tokens). t then us) (firsts_suc k ts (omega arith))

firsts_all : (ts : Tokens) → firsts (token_count ts) ts ≡ ts
unfolding firsts token_count
firsts_all nothing = refl
firsts_all (t then ts) = ap (λ (us : Tokens). t then us) (firsts_all ts)

firsts_none : (ts : Tokens) → firsts 0 ts ≡ nothing
unfolding firsts
firsts_none nothing = refl
firsts_none (t then ts) = refl

added_snoc : (us : Tokens) (t : Token) (p : Prog) → added (us ⊕ (t then nothing)) p ≡ add (added us p) (item_of t)
unfolding added ◌⊕◌
added_snoc nothing t p = refl
added_snoc (u then us) t p = added_snoc us t (add p (item_of u))

-- items that are those of the tokens, added one by one, are the tokens' program
module _ (f : ℕ → Item) (us : Tokens) (h : (k : ℕ) → k < token_count us → f k ≡ item_of (nth k us)) where
  pub added_firsts : (k : ℕ) → k ≤ token_count us → added_to f k ≡ added (firsts k us) end
  unfolding added_to added
  added_firsts zero l = sym (ap (λ (ts : Tokens). added ts end) (firsts_none us))
  added_firsts (suc k) l =
      ap₂ add (added_firsts k (omega arith)) (h k l)
      ∙ sym (added_snoc (firsts k us) (nth k us) end)
      ∙ ap (λ (ts : Tokens). added ts end) (sym (firsts_suc k us l))

  pub added_all : added_to f (token_count us) ≡ added us end
  added_all = added_firsts (token_count us) (omega arith) ∙ ap (λ (ts : Tokens). added ts end) (firsts_all us)

-- the first few and the next one have no more entries than all
firsts_entries : (k : ℕ) (ts : Tokens) → k < token_count ts → length (entries (firsts k ts)) + length (entries_of (nth k ts)) ≤ length (entries ts)
unfolding firsts nth token_count entries
firsts_entries k nothing h = absurd (omega arith)
firsts_entries zero (t then ts) h = omega (arith, length-append (entries_of t) (entries ts))
firsts_entries (suc k) (t then ts) h = omega (arith, firsts_entries k ts (omega arith), length-append (entries_of t) (entries ts), length-append (entries_of t) (entries (firsts k ts)))

pub firsts_room : (k : ℕ) (ts : Tokens) → k < token_count ts → 4 * nodes (added (firsts k ts) end) + length (entries_of (nth k ts)) ≤ length (entries ts)
unfolding words_of
firsts_room k ts h = omega (arith, added_words (firsts k ts) end, firsts_entries k ts h)

-- what holds of all tokens holds of each
pub spelled_nth : (k : ℕ) (ts : Tokens) → k < token_count ts → Spelled ts → SpelledOne (nth k ts)
unfolding nth token_count Spelled
spelled_nth k nothing h s = absurd (omega arith)
spelled_nth zero (t then ts) h s = s.0
spelled_nth (suc k) (t then ts) h s = spelled_nth k ts (omega arith) s.1

pub simple_nth : (k : ℕ) (ts : Tokens) → k < token_count ts → simple ts ≡ true → simple_token (nth k ts) ≡ true
unfolding nth token_count simple
simple_nth k nothing h s = absurd (omega arith)
simple_nth zero (t then ts) h s = and_left (simple_token t) (simple ts) s
simple_nth (suc k) (t then ts) h s = simple_nth k ts (omega arith) (and_right (simple_token t) (simple ts) s)

-- where tokens start
pub offsets_count : (at : ℕ) (ts : Tokens) → length (offsets at ts) ≡ token_count ts
unfolding offsets token_count
offsets_count at nothing = refl
offsets_count at (t then ts) = ap suc (offsets_count (at + length (entries_of t)) ts)

-- the token at its place
unfoldable pub Starts : List ℕ → ℕ → Token → Type 0
Starts ws at t = (r : List ℕ) × (drop at ws ≡ entries_of t ++ r)

offset_after : (before : List ℕ) (k : ℕ) (ts : Tokens) (at : ℕ) → length before ≡ at → k < token_count ts → Starts (before ++ entries ts) (get_or (offsets at ts) k 0) (nth k ts)
unfolding Starts offsets nth token_count entries
offset_after before k nothing at e h = absurd (omega arith)
offset_after before zero (t then ts) at e h = (entries ts, drop_at before (entries_of t ++ entries ts) at e)
offset_after before (suc k) (t then ts) at e h =
    subst (λ (ws : List ℕ). Starts ws (get_or (offsets (at + length (entries_of t)) ts) k 0) (nth k ts)) (append_assoc before (entries_of t) (entries ts))
    (offset_after (before ++ entries_of t) k ts (at + length (entries_of t)) (length-append before (entries_of t) ∙ ap (λ (n : ℕ). n + length (entries_of t)) e) (omega arith))

pub offset_starts : (k : ℕ) (ts : Tokens) → k < token_count ts → Starts (entries ts) (get_or (offsets 0 ts) k 0) (nth k ts)
offset_starts k ts h = offset_after [] k ts 0 refl h
