-- What is chosen: at most 256 literals, of tokens that stand in the given ones and of which none is `??` or a jump. Assumes nothing.
use mathlib.Core.Path.{◌≡◌, refl, sym, ap, ap₂, ◌∙◌, subst}
use mathlib.Core.Bool.{Bool, true, false, cond, ◌&&◌}
use mathlib.Core.List.{List, [], ◌∷◌}
use Prim.Native.Nat.{ℕ, ◌+◌, ◌*◌, ◌≤◌}
use native.Mathlib.Omega.{arith}
use native.Mathlib.Nat.{mul_assoc, one-mul}
use lib.Dec.{leb, ltb}
use lib.ListN.{length}
use borrow.Author.Tests.{ltb-false}
use Rattle.def_meaning.specs.Limits.{literal_limit, combination_limit}
use Rattle.def_meaning.specs.Values.{Filled}
use Rattle.def_meaning.specs.Tokens.{left, right, all, Token, Tokens, Lists, Byte, NotByte, MaskedByte, NotMaskedByte, Jump, Alternatives, nothing, ◌then◌, neither, ◌or◌, ◌⊕◌}
use Rattle.def_meaning.proofs.SoundLaws.{and_left, and_right, and_both, false_true}
use Rattle.def_picking.specs.Literals.{taken, is_byte, is_plain, plain_list, plain_lists, literals, combinations, length_in, listable_of, listable, listable_in}
use Rattle.def_picking.specs.Runs.{is_alternatives, closes, plain_inside, plain_alternatives, runs, is_literal, joins_part, part_before, parts, Slice, slice, literal_only, longer, slices}
use Rattle.def_picking.specs.Candidates.{ranked, skipped, excessive, counted, combined, rank, chosen, widened, rank_of, in_run, in_pattern}
use Rattle.def_picking.specs.Numbers.{count_of, count}
use Rattle.def_picking.proofs.NumberLaws.{count_literals}
use Rattle.def_picking.proofs.KeepLaws.{Every, every_append, every_map, Holds, Literally, Widely, run_holds, pattern_holds}
use Rattle.def_picking.proofs.FactorLaws.{Factor, Open, Taken, pattern_taken}

-- ---- few literals

count_join : (ts us : Tokens) → count (ts ⊕ us) ≡ count ts * count us
unfolding count ◌⊕◌
count_join nothing us = sym (one-mul (count us))
count_join (t then ts) us = ap (λ (n : ℕ). count_of t * n) (count_join ts us) ∙ sym (mul_assoc (count_of t) (count ts) (count us))

count_byte : (t : Token) → is_byte t ≡ true → count_of t ≡ 1
unfolding is_byte count_of taken
count_byte (Byte v) h = refl
count_byte (NotByte v) h = false_true h
count_byte (MaskedByte v m) h = false_true h
count_byte (NotMaskedByte v m) h = false_true h
count_byte (Jump from to) h = false_true h
count_byte (Alternatives ls) h = false_true h

-- a literal part has one literal
abbrev Single : Tokens → Type 0
Single = Literally (λ p. count p ≡ 1)

single_one : (t : Token) → Single (t then nothing)
unfolding is_literal count
single_one t h = rw (count_byte t h)

single_before : (t : Token) (ps : List Tokens) → Every Single ps → Every Single (part_before t ps)
unfolding part_before joins_part Every is_literal count
single_before t [] h = (single_one t, tt)
single_before t (p ∷ ps) h = go (is_byte t) (is_literal p) refl refl
  where
    go : (a b : Bool) → is_byte t ≡ a → is_literal p ≡ b → Every Single (joins_part (a && b) t p ps)
    go true true e f = ((λ k. ap₂ ◌*◌ (count_byte t e) (h.0 f)), h.1)
    go true false e f = (single_one t, h)
    go false b e f = (single_one t, h)

parts_single : (ts : Tokens) → Every Single (parts ts)
unfolding parts Every
parts_single nothing = tt
parts_single (t then ts) = single_before t (parts ts) (parts_single ts)

only_single : (p : Tokens) → Single p → count (literal_only p) ≡ 1
unfolding literal_only count
only_single p h = go (is_literal p) h
  where
    go : (b : Bool) → (b ≡ true → count p ≡ 1) → count (cond b p nothing) ≡ 1
    go true k = k refl
    go false k = refl

-- on either side of a slice stands one literal, or nothing
unfoldable Sides : Slice → Type 0
Sides (slice prior own next) = (count prior ≡ 1) × (count next ≡ 1)

longer_sides : (ps : List Tokens) (prior own : Tokens) (len : ℕ) → Every Single ps → count prior ≡ 1 → Every Sides (longer ps prior own len)
unfolding longer Every Sides count
longer_sides [] prior own len h e = ((e, refl), tt)
longer_sides (p ∷ ps) prior own len h e = ((e, only_single p h.0), go (leb 4 len) (longer_sides ps prior (own ⊕ p) (len + length_in p) h.1 e))
  where
    go : (b : Bool) → Every Sides (longer ps prior (own ⊕ p) (len + length_in p)) → Every Sides (cond b [] (longer ps prior (own ⊕ p) (len + length_in p)))
    go true k = tt
    go false k = k

slices_sides : (ps : List Tokens) (prior : Tokens) → Every Single ps → count prior ≡ 1 → Every Sides (slices ps prior)
unfolding slices Every
slices_sides [] prior h e = tt
slices_sides (p ∷ ps) prior h e =
    every_append Sides (longer ps prior p _) _ (longer_sides ps prior p _ h.1 e) (slices_sides ps (literal_only p) h.1 (only_single p h.0))

-- a slice with a rank has at most 256 literals
ranked_few : (ts : Tokens) (n : ℕ) → rank ts ≡ ranked n → count ts ≤ literal_limit
unfolding rank combined counted
ranked_few ts n h = go (ltb combination_limit (combinations ts)) (ltb literal_limit (length (literals ts))) refl refl
  where
    go : (a b : Bool) → ltb combination_limit (combinations ts) ≡ a → ltb literal_limit (length (literals ts)) ≡ b → count ts ≤ literal_limit
    go true b e f = absurd (let g : skipped ≡ ranked n = sym (ap (λ (x : Bool). combined x ts) e) ∙ h in let z : ◌≡◌ {A = ℕ} 0 1 = cc in omega arith)
    go false true e f = absurd (let g : excessive ≡ ranked n = sym (ap (λ (x : Bool). combined x ts) e ∙ ap (λ (x : Bool). counted x ts) f) ∙ h in let z : ◌≡◌ {A = ℕ} 0 1 = cc in omega arith)
    go false false e f = let l = ltb-false literal_limit (length (literals ts)) f in let k = count_literals ts in omega arith

abbrev Few : Tokens → Type 0
Few us = count us ≤ literal_limit

widened_few : (s : Slice) → Sides s → Widely Few s
unfolding Sides rank_of widened
widened_few (slice prior own next) h n e =
    let a : count (prior ⊕ (own ⊕ next)) ≡ 1 * (count own * 1) = count_join prior (own ⊕ next) ∙ ap₂ ◌*◌ h.0 (count_join own next ∙ ap (λ (k : ℕ). count own * k) h.1) in
    let b = ranked_few own n e in
    omega arith

few_in : (run : Tokens) → Holds Few (in_run run)
unfolding count
few_in run =
    let ps = parts_single run in
    run_holds Few run
    (every_map Single (Literally Few) (λ p h k. let l = h k in omega arith) (parts run) ps)
    (every_map Sides (Widely Few) widened_few (slices (parts run) nothing) (slices_sides (parts run) nothing ps refl))

-- in a run at most 256 literals are taken
pub chosen_few : (run : Tokens) (n : ℕ) (us : Tokens) → in_run run ≡ chosen n us → count us ≤ literal_limit
unfolding Holds
chosen_few run n us e = subst (Holds Few) e (few_in run)

-- and so among all
pub pattern_few : (ts : Tokens) (n : ℕ) (us : Tokens) → in_pattern ts ≡ chosen n us → count us ≤ literal_limit
unfolding Holds Every
pattern_few ts n us e = subst (Holds Few) e (pattern_holds Few ts (go (runs ts)))
  where
    go : (rs : List Tokens) → Every (λ r. Holds Few (in_run r)) rs
    go [] = tt
    go (r ∷ rs) = (few_in r, go rs)

-- ---- part of the tokens

-- what is chosen stands in the tokens, one token after another
pub chosen_factor : (ts : Tokens) (n : ℕ) (us : Tokens) → in_pattern ts ≡ chosen n us → Factor us ts
unfolding Holds
chosen_factor ts n us e = (subst (Holds (Taken ts)) e (pattern_taken ts)).0

-- it is not nothing
pub chosen_filled : (ts : Tokens) (n : ℕ) (us : Tokens) → in_pattern ts ≡ chosen n us → Filled us
unfolding Holds
chosen_filled ts n us e = (subst (Holds (Taken ts)) e (pattern_taken ts)).1

-- no `??` and no jump is in it
pub chosen_open : (ts : Tokens) (n : ℕ) (us : Tokens) → in_pattern ts ≡ chosen n us → Open us
unfolding Holds
chosen_open ts n us e = (subst (Holds (Taken ts)) e (pattern_taken ts)).2

pub plain_left : (ts us : Tokens) → plain_alternatives (ts ⊕ us) ≡ true → plain_alternatives ts ≡ true
unfolding plain_alternatives ◌⊕◌
plain_left nothing us h = refl
plain_left (t then ts) us h = and_both (and_left (plain_inside t) _ h) (plain_left ts us (and_right (plain_inside t) _ h))

pub plain_right : (ts us : Tokens) → plain_alternatives (ts ⊕ us) ≡ true → plain_alternatives us ≡ true
unfolding plain_alternatives ◌⊕◌
plain_right nothing us h = h
plain_right (t then ts) us h = plain_right ts us (and_right (plain_inside t) _ h)

plain_listable : (t : Token) → is_plain t ≡ true → listable_of t ≡ true
unfolding is_plain listable_of
plain_listable (Byte v) h = refl
plain_listable (NotByte v) h = refl
plain_listable (MaskedByte v m) h = h
plain_listable (NotMaskedByte v m) h = h
plain_listable (Jump from to) h = h
plain_listable (Alternatives ls) h = false_true h

list_listable : (ts : Tokens) → plain_list ts ≡ true → listable ts ≡ true
unfolding plain_list listable
list_listable nothing h = refl
list_listable (t then ts) h = and_both (plain_listable t (and_left (is_plain t) _ h)) (list_listable ts (and_right (is_plain t) _ h))

lists_listable : (ls : Lists) → plain_lists ls ≡ true → listable_in ls ≡ true
unfolding plain_lists listable_in
lists_listable neither h = refl
lists_listable (ts or ls) h = and_both (list_listable ts (and_left (plain_list ts) _ h)) (lists_listable ls (and_right (plain_list ts) _ h))

open_one : (t : Token) → closes t ≡ false → plain_inside t ≡ true → listable_of t ≡ true
unfolding is_plain is_alternatives plain_inside listable_of
open_one (Byte v) o h = refl
open_one (NotByte v) o h = refl
open_one (MaskedByte v left) o h = refl
open_one (MaskedByte v right) o h = refl
open_one (MaskedByte v all) o h = sym o
open_one (NotMaskedByte v left) o h = refl
open_one (NotMaskedByte v right) o h = refl
open_one (NotMaskedByte v all) o h = sym o
open_one (Jump from to) o h = sym o
open_one (Alternatives ls) o h = lists_listable ls h

pub open_listable : (ts : Tokens) → Open ts → plain_alternatives ts ≡ true → listable ts ≡ true
unfolding Open plain_alternatives listable
open_listable nothing o h = refl
open_listable (t then ts) o h = and_both (open_one t o.0 (and_left (plain_inside t) _ h)) (open_listable ts o.1 (and_right (plain_inside t) _ h))

-- where all alternatives are plain, none is at any depth of it
pub chosen_listable : (ts : Tokens) (n : ℕ) (us : Tokens) → in_pattern ts ≡ chosen n us → plain_alternatives ts ≡ true → listable us ≡ true
chosen_listable ts n us e h =
    let (a, b, f) = chosen_factor ts n us e in
    open_listable us (chosen_open ts n us e) (plain_left us b (plain_right a (us ⊕ b) (subst (λ (x : Tokens). plain_alternatives x ≡ true) f h)))
