-- The entries of tokens are whole, and are taken for those tokens as far as picking asks: of a jump only that it closes a run.
-- Assumes nothing.
use Rattle.std.proofs.Common.{◌≡◌, refl, sym, ap, ap₂, ◌∙◌, subst, Bool, true, ◌&&◌, List, [], ◌∷◌, ◌++◌, ℕ, ◌+◌, ◌-◌, ◌*◌, ◌/◌, ◌<◌, arith, mod-eq_of_lt, length, take, drop, length-append, take_at, drop_at, drop-drop, ne_eqb}
use Rattle.std.proofs.Math.Option.{Option, none as nowhere, some}
use Rattle.def_meaning.specs.Tokens.{Mask, left, right, all, Token, Tokens, Lists, Byte, NotByte, MaskedByte, NotMaskedByte, Jump, Alternatives, nothing, ◌then◌, neither, ◌or◌}
use Rattle.def_meaning.specs.Values.{Spelled, SpelledMore}
use Rattle.def_meaning.specs.Entries.{mask_number, token_count, list_count, entries, list_entries}
use Rattle.def_meaning.proofs.SoundLaws.{and_left, and_right}
use Rattle.def_meaning.proofs.TokenLaws.{fours, fours_in}
use Rattle.def_meaning.proofs.ValueLaws.{any_spelled}
use Rattle.def_picking.specs.Literals.{is_plain, plain_list, plain_lists}
use Rattle.def_picking.specs.Runs.{closes, is_alternatives, plain_inside, plain_alternatives, segmented, segments}
use Rattle.classes.specs.Entry.{mask_in, entry_token}
use Rattle.entries.specs.Words.{branch_in, ends, inside, lists_in, width, tokens_in}
use Rattle.entries.proofs.StepLaws.{branch_end, branch_step, lists_end, lists_step, tokens_end, tokens_step, width_inside}
use Rattle.entries.proofs.PlainLaws.{token_alternatives, token_entry}
use Rattle.classes.proofs.KindLaws.{entry_inside}
use Rattle.runs.specs.Whole.{Whole, none, more}

-- ---- words within an entry

module _ (k n b : ℕ) (E L : List ℕ) (h : 4 * b ≡ length E) where
  box_ends : ends (k ∷ n ∷ b ∷ 0 ∷ (E ++ L)) ≡ 4 + length E
  unfolding ends
  box_ends = let e = length-append E L in omega arith

  box_inside : inside (k ∷ n ∷ b ∷ 0 ∷ (E ++ L)) ≡ E
  box_inside = let e : ends (k ∷ n ∷ b ∷ 0 ∷ (E ++ L)) - 4 ≡ length E = (let f = box_ends in omega arith) in ap (λ (x : ℕ). take x (E ++ L)) e ∙ take_at E L (length E) refl

  box_rest : drop (ends (k ∷ n ∷ b ∷ 0 ∷ (E ++ L))) (k ∷ n ∷ b ∷ 0 ∷ (E ++ L)) ≡ L
  box_rest =
      ap (λ (x : ℕ). drop x (k ∷ n ∷ b ∷ 0 ∷ (E ++ L))) box_ends ∙ sym (drop-drop (length E) 4 (k ∷ n ∷ b ∷ 0 ∷ (E ++ L))) ∙ drop_at E L (length E) refl

-- ---- one entry at the front

branch_cons : (k v m c : ℕ) (W : List ℕ) → branch_in (k ∷ v ∷ m ∷ c ∷ W) ≡ entry_token k v m then branch_in W
branch_cons k v m c W = branch_step (k ∷ v ∷ m ∷ c ∷ W) (omega arith)

width_cons : (k v m c : ℕ) (W : List ℕ) → (k ≡ 5 → ⊥) → width (k ∷ v ∷ m ∷ c ∷ W) ≡ 4
unfolding width
width_cons k v m c W f = rw (ne_eqb k 5 f)

tokens_cons : (k v m c : ℕ) (W : List ℕ) → (k ≡ 5 → ⊥) → tokens_in (k ∷ v ∷ m ∷ c ∷ W) ≡ entry_token k v m then tokens_in W
tokens_cons k v m c W f =
    tokens_step (k ∷ v ∷ m ∷ c ∷ W) (omega arith)
    ∙ ap₂ (λ (t : Token) (x : ℕ). t then tokens_in (drop x (k ∷ v ∷ m ∷ c ∷ W))) (token_entry (k ∷ v ∷ m ∷ c ∷ W) f) (width_cons k v m c W f)

tokens_box : (n b : ℕ) (E L : List ℕ) → 4 * b ≡ length E → tokens_in (5 ∷ n ∷ b ∷ 0 ∷ (E ++ L)) ≡ Alternatives (lists_in E) then tokens_in L
tokens_box n b E L h =
    tokens_step (5 ∷ n ∷ b ∷ 0 ∷ (E ++ L)) (omega arith)
    ∙ ap₂ (λ (t : Token) (x : List ℕ). t then tokens_in x)
    (token_alternatives (5 ∷ n ∷ b ∷ 0 ∷ (E ++ L)) refl ∙ ap (λ (x : List ℕ). Alternatives (lists_in x)) (box_inside 5 n b E L h))
    (ap (λ (x : ℕ). drop x (5 ∷ n ∷ b ∷ 0 ∷ (E ++ L))) (width_inside (5 ∷ n ∷ b ∷ 0 ∷ (E ++ L)) refl) ∙ box_rest 5 n b E L h)

lists_box : (k n b : ℕ) (E L : List ℕ) → 4 * b ≡ length E → lists_in (k ∷ n ∷ b ∷ 0 ∷ (E ++ L)) ≡ branch_in E or lists_in L
lists_box k n b E L h =
    lists_step (k ∷ n ∷ b ∷ 0 ∷ (E ++ L)) (omega arith) ∙ ap₂ (λ (x y : List ℕ). branch_in x or lists_in y) (box_inside k n b E L h) (box_rest k n b E L h)

-- ---- whole

not_5 : (k : ℕ) → k < 5 → k ≡ 5 → ⊥
not_5 k l e = omega arith

whole_cons : (k v m c : ℕ) (W : List ℕ) → (k ≡ 5 → ⊥) → Whole W → Whole (k ∷ v ∷ m ∷ c ∷ W)
whole_cons k v m c W f w =
    more (k ∷ v ∷ m ∷ c ∷ W) (record { entry = (omega arith); within = λ e. absurd (f e) }) (subst (λ (x : ℕ). Whole (drop x (k ∷ v ∷ m ∷ c ∷ W))) (sym (width_cons k v m c W f)) w)

whole_box : (n b : ℕ) (E L : List ℕ) → 4 * b ≡ length E → Whole L → Whole (5 ∷ n ∷ b ∷ 0 ∷ (E ++ L))
whole_box n b E L h w =
    more (5 ∷ n ∷ b ∷ 0 ∷ (E ++ L)) (record { entry = (omega arith); within = λ e. (let f = length-append E L in omega arith) })
    (subst Whole (sym (ap (λ (x : ℕ). drop x (5 ∷ n ∷ b ∷ 0 ∷ (E ++ L))) (width_inside (5 ∷ n ∷ b ∷ 0 ∷ (E ++ L)) refl) ∙ box_rest 5 n b E L h)) w)

pub whole_entries : (ts : Tokens) → Whole (entries ts)
unfolding entries
whole_entries nothing = none
whole_entries (Byte v then ts) = whole_cons 0 v 0 0 (entries ts) (not_5 0 (omega arith)) (whole_entries ts)
whole_entries (NotByte v then ts) = whole_cons 1 v 0 0 (entries ts) (not_5 1 (omega arith)) (whole_entries ts)
whole_entries (MaskedByte v m then ts) = whole_cons 2 v (mask_number m) 0 (entries ts) (not_5 2 (omega arith)) (whole_entries ts)
whole_entries (NotMaskedByte v m then ts) = whole_cons 3 v (mask_number m) 0 (entries ts) (not_5 3 (omega arith)) (whole_entries ts)
whole_entries (Jump from nowhere then ts) = whole_cons 4 from 0 0 (entries ts) (not_5 4 (omega arith)) (whole_entries ts)
whole_entries (Jump from (some to) then ts) = whole_cons 4 from to 1 (entries ts) (not_5 4 (omega arith)) (whole_entries ts)
whole_entries (Alternatives ls then ts) = whole_box (list_count ls) (length (list_entries ls) / 4) (list_entries ls) (entries ts) (fours_in ls) (whole_entries ts)

-- ---- plain or not, by the entries

half_number : (v : ℕ) (m : Mask) → is_plain (entry_token 2 v (mask_number m)) ≡ is_plain (MaskedByte v m)
unfolding entry_token is_plain mask_in
half_number v left = refl
half_number v right = refl
half_number v all = refl

other_number : (v : ℕ) (m : Mask) → is_plain (entry_token 3 v (mask_number m)) ≡ is_plain (NotMaskedByte v m)
unfolding entry_token is_plain mask_in
other_number v left = refl
other_number v right = refl
other_number v all = refl

branch_plain : (ts : Tokens) → plain_list (branch_in (entries ts)) ≡ plain_list ts
unfolding entries plain_list is_plain entry_token
branch_plain nothing = ap plain_list (branch_end [] (omega arith))
branch_plain (Byte v then ts) = ap plain_list (branch_cons 0 v 0 0 (entries ts)) ∙ branch_plain ts
branch_plain (NotByte v then ts) = ap plain_list (branch_cons 1 v 0 0 (entries ts)) ∙ branch_plain ts
branch_plain (MaskedByte v m then ts) = ap plain_list (branch_cons 2 v (mask_number m) 0 (entries ts)) ∙ ap₂ (λ (a b : Bool). a && b) (half_number v m) (branch_plain ts)
branch_plain (NotMaskedByte v m then ts) = ap plain_list (branch_cons 3 v (mask_number m) 0 (entries ts)) ∙ ap₂ (λ (a b : Bool). a && b) (other_number v m) (branch_plain ts)
branch_plain (Jump from nowhere then ts) = ap plain_list (branch_cons 4 from 0 0 (entries ts))
branch_plain (Jump from (some to) then ts) = ap plain_list (branch_cons 4 from to 1 (entries ts))
branch_plain (Alternatives ls then ts) = ap plain_list (branch_cons 5 (list_count ls) (length (list_entries ls) / 4) 0 (list_entries ls ++ entries ts))

lists_plain : (ls : Lists) → plain_lists (lists_in (list_entries ls)) ≡ plain_lists ls
unfolding entries plain_lists
lists_plain neither = ap plain_lists (lists_end [] (omega arith))
lists_plain (ts or ls) =
    ap plain_lists (lists_box 6 (token_count ts) (length (entries ts) / 4) (entries ts) (list_entries ls) (fours ts)) ∙ ap₂ (λ (a b : Bool). a && b) (branch_plain ts) (lists_plain ls)

-- 19 is decided on the entries as on the tokens
pub plain_entries : (ts : Tokens) → plain_alternatives (tokens_in (entries ts)) ≡ plain_alternatives ts
unfolding entries plain_alternatives plain_inside
plain_entries nothing = ap plain_alternatives (tokens_end [] (omega arith))
plain_entries (Byte v then ts) = ap plain_alternatives (tokens_cons 0 v 0 0 (entries ts) (not_5 0 (omega arith))) ∙ ap₂ (λ (a b : Bool). a && b) (entry_inside 0 v 0) (plain_entries ts)
plain_entries (NotByte v then ts) = ap plain_alternatives (tokens_cons 1 v 0 0 (entries ts) (not_5 1 (omega arith))) ∙ ap₂ (λ (a b : Bool). a && b) (entry_inside 1 v 0) (plain_entries ts)
plain_entries (MaskedByte v m then ts) =
    ap plain_alternatives (tokens_cons 2 v (mask_number m) 0 (entries ts) (not_5 2 (omega arith))) ∙ ap₂ (λ (a b : Bool). a && b) (entry_inside 2 v (mask_number m)) (plain_entries ts)
plain_entries (NotMaskedByte v m then ts) =
    ap plain_alternatives (tokens_cons 3 v (mask_number m) 0 (entries ts) (not_5 3 (omega arith))) ∙ ap₂ (λ (a b : Bool). a && b) (entry_inside 3 v (mask_number m)) (plain_entries ts)
plain_entries (Jump from nowhere then ts) = ap plain_alternatives (tokens_cons 4 from 0 0 (entries ts) (not_5 4 (omega arith))) ∙ ap₂ (λ (a b : Bool). a && b) (entry_inside 4 from 0) (plain_entries ts)
plain_entries (Jump from (some to) then ts) = ap plain_alternatives (tokens_cons 4 from to 1 (entries ts) (not_5 4 (omega arith))) ∙ ap₂ (λ (a b : Bool). a && b) (entry_inside 4 from to) (plain_entries ts)
plain_entries (Alternatives ls then ts) =
    ap plain_alternatives (tokens_box (list_count ls) (length (list_entries ls) / 4) (list_entries ls) (entries ts) (fours_in ls)) ∙ ap₂ (λ (a b : Bool). a && b) (lists_plain ls) (plain_entries ts)

-- ---- the tokens again, where values are as they are read

mask_back : (m : Mask) → mask_in (mask_number m) ≡ m
unfolding mask_in
mask_back left = refl
mask_back right = refl
mask_back all = refl

byte_back : (v : ℕ) → v < 256 → entry_token 0 v 0 ≡ Byte v
unfolding entry_token
byte_back v h = ap Byte (mod-eq_of_lt h)

not_back : (v : ℕ) → v < 256 → entry_token 1 v 0 ≡ NotByte v
unfolding entry_token
not_back v h = ap NotByte (mod-eq_of_lt h)

masked_back : (v : ℕ) (m : Mask) → v < 16 → entry_token 2 v (mask_number m) ≡ MaskedByte v m
unfolding entry_token
masked_back v m h = ap₂ MaskedByte (mod-eq_of_lt h) (mask_back m)

not_masked_back : (v : ℕ) (m : Mask) → v < 16 → entry_token 3 v (mask_number m) ≡ NotMaskedByte v m
unfolding entry_token
not_masked_back v m h = ap₂ NotMaskedByte (mod-eq_of_lt h) (mask_back m)

branch_back : (ts : Tokens) → plain_list ts ≡ true → Spelled ts → branch_in (entries ts) ≡ ts
unfolding entries plain_list is_plain Spelled
branch_back nothing p h = branch_end [] (omega arith)
branch_back (Byte v then ts) p h = branch_cons 0 v 0 0 (entries ts) ∙ ap₂ ◌then◌ (byte_back v h.0) (branch_back ts p h.1)
branch_back (NotByte v then ts) p h = branch_cons 1 v 0 0 (entries ts) ∙ ap₂ ◌then◌ (not_back v h.0) (branch_back ts p h.1)
branch_back (MaskedByte v m then ts) p h = branch_cons 2 v (mask_number m) 0 (entries ts) ∙ ap₂ ◌then◌ (masked_back v m h.0) (branch_back ts (and_right (is_plain (MaskedByte v m)) (plain_list ts) p) h.1)
branch_back (NotMaskedByte v m then ts) p h = branch_cons 3 v (mask_number m) 0 (entries ts) ∙ ap₂ ◌then◌ (not_masked_back v m h.0) (branch_back ts (and_right (is_plain (NotMaskedByte v m)) (plain_list ts) p) h.1)
branch_back (Jump from to then ts) p h = absurd (let z : ◌≡◌ {A = ℕ} 0 1 = cc in omega arith)
branch_back (Alternatives ls then ts) p h = absurd (let z : ◌≡◌ {A = ℕ} 0 1 = cc in omega arith)

lists_back : (ls : Lists) → plain_lists ls ≡ true → SpelledMore ls → lists_in (list_entries ls) ≡ ls
unfolding entries plain_lists Spelled
lists_back neither p h = lists_end [] (omega arith)
lists_back (ts or ls) p h =
    lists_box 6 (token_count ts) (length (entries ts) / 4) (entries ts) (list_entries ls) (fours ts)
    ∙ ap₂ ◌or◌ (branch_back ts (and_left (plain_list ts) (plain_lists ls) p) h.0) (lists_back ls (and_right (plain_list ts) (plain_lists ls) p) h.1)

joined : (t : Token) (ss rs : List Tokens) → ss ≡ rs → (s : Token) → s ≡ t → segmented (closes s) s ss ≡ segmented (closes t) t rs
joined t ss rs e s f = ap₂ (λ (x : Token) (y : List Tokens). segmented (closes x) x y) f e

-- a jump closes a run, whatever its bounds
closed : (from : ℕ) (to : Option ℕ) (m : ℕ) (ss rs : List Tokens) → ss ≡ rs → segmented (closes (entry_token 4 from m)) (entry_token 4 from m) ss ≡ segmented (closes (Jump from to)) (Jump from to) rs
unfolding entry_token segmented is_plain is_alternatives
closed from to m ss rs e = ap (λ (x : List Tokens). nothing ∷ x) e

-- the segments, and so the runs and what wins, are those of the tokens
pub segments_entries : (ts : Tokens) → plain_alternatives ts ≡ true → Spelled ts → segments (tokens_in (entries ts)) ≡ segments ts
unfolding entries plain_alternatives plain_inside Spelled segments
segments_entries nothing p h = ap segments (tokens_end [] (omega arith))
segments_entries (Byte v then ts) p h =
    ap segments (tokens_cons 0 v 0 0 (entries ts) (not_5 0 (omega arith))) ∙ joined (Byte v) _ _ (segments_entries ts p h.1) (entry_token 0 v 0) (byte_back v h.0)
segments_entries (NotByte v then ts) p h =
    ap segments (tokens_cons 1 v 0 0 (entries ts) (not_5 1 (omega arith))) ∙ joined (NotByte v) _ _ (segments_entries ts p h.1) (entry_token 1 v 0) (not_back v h.0)
segments_entries (MaskedByte v m then ts) p h =
    ap segments (tokens_cons 2 v (mask_number m) 0 (entries ts) (not_5 2 (omega arith))) ∙ joined (MaskedByte v m) _ _ (segments_entries ts p h.1) (entry_token 2 v (mask_number m)) (masked_back v m h.0)
segments_entries (NotMaskedByte v m then ts) p h =
    ap segments (tokens_cons 3 v (mask_number m) 0 (entries ts) (not_5 3 (omega arith))) ∙ joined (NotMaskedByte v m) _ _ (segments_entries ts p h.1) (entry_token 3 v (mask_number m)) (not_masked_back v m h.0)
segments_entries (Jump from nowhere then ts) p h =
    ap segments (tokens_cons 4 from 0 0 (entries ts) (not_5 4 (omega arith))) ∙ closed from nowhere 0 _ _ (segments_entries ts p h.1)
segments_entries (Jump from (some to) then ts) p h =
    ap segments (tokens_cons 4 from to 1 (entries ts) (not_5 4 (omega arith))) ∙ closed from (some to) to _ _ (segments_entries ts p h.1)
segments_entries (Alternatives ls then ts) p h =
    ap segments (tokens_box (list_count ls) (length (list_entries ls) / 4) (list_entries ls) (entries ts) (fours_in ls))
    ∙ joined (Alternatives ls) _ _ (segments_entries ts (and_right (plain_lists ls) (plain_alternatives ts) p) h.1) (Alternatives (lists_in (list_entries ls))) (ap Alternatives (lists_back ls (and_left (plain_lists ls) (plain_alternatives ts) p) (any_spelled ls h.0)))
