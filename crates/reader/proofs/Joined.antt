-- Tokens and lists read so far, with one more at their end. Assumes nothing.
use Rattle.std.proofs.Common.{ℕ, suc, ◌≡◌, refl, sym, ap, ◌∙◌, Bool, true, false, ◌||◌, ◌&&◌, List, ◌++◌, append_assoc, append-nil, arith, le-leb, leb}
use lib.Dec.{eqb-suc-zero}
use Rattle.base.specs.declared.Refusal.{Refusal}
use Rattle.def_meaning.specs.Tokens.{Token, Tokens, Lists, nothing, ◌then◌, neither, ◌or◌}
use Rattle.def_meaning.specs.Entries.{entry, entries_in, entries_of, entries, list_entries, token_count, list_count}
use Rattle.def_reading.specs.Lists.{Parsed, read, stopped, before, beside, is_jump, jump_first, jump_last_in, jump_last, at_bound}
use Rattle.reader.specs.Says.{first_of}

infixl 55 ◌and◌
unfoldable pub ◌and◌ : Tokens → Token → Tokens
nothing and k = k then nothing
(t then ts) and k = t then (ts and k)

unfoldable pub befores : Tokens → Parsed Tokens → Parsed Tokens
befores nothing y = y
befores (t then ts) y = before t (befores ts y)

pub befores_and : (ts : Tokens) (k : Token) (y : Parsed Tokens) → befores ts (before k y) ≡ befores (ts and k) y
unfolding befores ◌and◌
befores_and nothing k y = refl
befores_and (t then ts) k y = ap (before t) (befores_and ts k y)

pub befores_read : (ts : Tokens) (e d : ℕ) → befores ts (read nothing e d) ≡ read ts e d
unfolding befores before
befores_read nothing e d = refl
befores_read (t then ts) e d = ap (before t) (befores_read ts e d)

pub befores_stopped : (ts : Tokens) (r : Refusal) (p : ℕ) → befores ts (stopped r p) ≡ stopped r p
unfolding befores before
befores_stopped nothing r p = refl
befores_stopped (t then ts) r p = ap (before t) (befores_stopped ts r p)

pub entries_and : (ts : Tokens) (k : Token) → entries (ts and k) ≡ entries ts ++ entries_of k
unfolding entries ◌and◌
entries_and nothing k = append-nil (entries_of k)
entries_and (t then ts) k = ap (λ (x : List ℕ). entries_of t ++ x) (entries_and ts k) ∙ sym (append_assoc (entries_of t) (entries ts) (entries_of k))

pub count_and : (ts : Tokens) (k : Token) → token_count (ts and k) ≡ suc (token_count ts)
unfolding token_count ◌and◌
count_and nothing k = refl
count_and (t then ts) k = ap suc (count_and ts k)

pub jump_first_and : (ts : Tokens) (k : Token) → first_of (token_count ts) (jump_first ts) (is_jump k) ≡ jump_first (ts and k)
unfolding token_count jump_first ◌and◌
jump_first_and nothing k = refl
jump_first_and (t then ts) k = rw (eqb-suc-zero (token_count ts))

jump_last_in_and : (t : Token) (ts : Tokens) (k : Token) → is_jump k ≡ jump_last_in t (ts and k)
unfolding jump_last_in ◌and◌
jump_last_in_and t nothing k = refl
jump_last_in_and t (u then us) k = jump_last_in_and u us k

pub jump_last_and : (ts : Tokens) (k : Token) → is_jump k ≡ jump_last (ts and k)
unfolding jump_last jump_last_in ◌and◌
jump_last_and nothing k = refl
jump_last_and (t then ts) k = jump_last_in_and t ts k

-- a list that ends with a jump has two or more tokens, or begins with it
pub at_bound_lem : (ts : Tokens) → at_bound ts ≡ (jump_first ts || jump_last ts)
unfolding at_bound jump_first jump_last jump_last_in token_count
at_bound_lem nothing = refl
at_bound_lem (t then nothing) = go (is_jump t)
  where
    go : (b : Bool) → (b || (leb 2 1 && b)) ≡ (b || b)
    go true = refl
    go false = refl
at_bound_lem (t then (u then ts)) = rw (le-leb 2 (suc (suc (token_count ts))) (omega arith))

-- lists
infixl 55 ◌with◌
unfoldable pub ◌with◌ : Lists → Tokens → Lists
neither with us = us or neither
(ts or ls) with us = ts or (ls with us)

unfoldable pub besides : Lists → Parsed Lists → Parsed Lists
besides neither y = y
besides (ts or ls) y = beside ts (besides ls y)

pub besides_with : (ls : Lists) (us : Tokens) (y : Parsed Lists) → besides ls (beside us y) ≡ besides (ls with us) y
unfolding besides ◌with◌
besides_with neither us y = refl
besides_with (ts or ls) us y = ap (beside ts) (besides_with ls us y)

pub besides_read : (ls : Lists) (us : Tokens) (e d : ℕ) → besides ls (read (us or neither) e d) ≡ read (ls with us) e d
unfolding besides beside ◌with◌
besides_read neither us e d = refl
besides_read (ts or ls) us e d = ap (beside ts) (besides_read ls us e d)

pub besides_stopped : (ls : Lists) (r : Refusal) (p : ℕ) → besides ls (stopped r p) ≡ stopped r p
unfolding besides beside
besides_stopped neither r p = refl
besides_stopped (ts or ls) r p = ap (beside ts) (besides_stopped ls r p)

pub entries_with : (ls : Lists) (us : Tokens) → list_entries (ls with us) ≡ list_entries ls ++ (entry 6 (token_count us) (entries_in (entries us)) 0 ++ entries us)
unfolding list_entries ◌with◌
entries_with neither us = ap (λ (x : List ℕ). entry 6 (token_count us) (entries_in (entries us)) 0 ++ x) (append-nil (entries us))
entries_with (ts or ls) us =
    let e = entry 6 (token_count ts) (entries_in (entries ts)) 0 in
    let n = entry 6 (token_count us) (entries_in (entries us)) 0 ++ entries us in
    ap (λ (x : List ℕ). e ++ (entries ts ++ x)) (entries_with ls us)
    ∙ ap (λ (x : List ℕ). e ++ x) (sym (append_assoc (entries ts) (list_entries ls) n))

pub count_with : (ls : Lists) (us : Tokens) → list_count (ls with us) ≡ suc (list_count ls)
unfolding list_count ◌with◌
count_with neither us = refl
count_with (ts or ls) us = ap suc (count_with ls us)
