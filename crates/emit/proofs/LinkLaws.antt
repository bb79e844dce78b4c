-- What is read off entries is what the tokens are. Assumes nothing.
use Rattle.std.proofs.Common.{◌≡◌, refl, sym, ap, ap₂, ◌∙◌, subst₂, Bool, true, false, List, ◌++◌, ℕ, zero, suc, ◌+◌, ◌*◌, ◌/◌, ◌%◌, ◌≤◌, ◌<◌, arith, mod-eq_of_lt, leb, length, get_or, take, drop, length-append, length-drop, take_at, drop-drop, get_or-drop, leb-true}
use Rattle.std.proofs.Math.Option.{none, some}
use Rattle.def_meaning.specs.Limits.{jump_limit}
use Rattle.def_meaning.specs.Tokens.{Mask, left, right, all, Token, Tokens, Lists, Byte, NotByte, MaskedByte, NotMaskedByte, Jump, Alternatives, nothing, ◌then◌, neither, ◌or◌}
use Rattle.def_meaning.specs.Values.{SpelledOne, Spelled, SpelledMore}
use Rattle.def_meaning.specs.Entries.{mask_number, entries_in, token_count, list_count, entries_of, entries, list_entries}
use Rattle.def_meaning.specs.Programs.{byte, mask, negated_mask, Item, one, alt, end, or as branch}
use Rattle.def_meaning.specs.Words.{field_size}
use Rattle.def_meaning.proofs.TokenLaws.{fours_in}
use Rattle.def_meaning.proofs.SoundLaws.{and_left, and_right, false_true}
use Rattle.def_compiling.specs.ProgramWords.{nodes}
use Rattle.def_compiling.specs.Compiling.{item_of, added, branches_for, backwards}
use Rattle.def_compiling.specs.Compile.{flat_token, flat_tokens, flat_branches, simple_token}
use Rattle.def_meaning.proofs.ValueLaws.{any_spelled}
use Rattle.def_compiling.proofs.CountLaws.{backwards_long_of, backwards_long}
use Rattle.emit.specs.Items.{mask_item, not_mask_item, jump_item, entry_item, place_of}
use Rattle.emit.specs.Lists.{added_to, entry_at, list_item, list_program, branches_at, alt_at, token_at, token_item, tokens_program, size_at, Stands, offsets, Outlined}
use Rattle.emit.proofs.BranchLaws.{flat_long, flat_entries_lem, front_rest}
use Rattle.emit.proofs.AltLaws.{size_five, size_other, size_least, token_other}
use Rattle.emit.proofs.OrderLaws.{nth, firsts, directed_of, directed, directed_in, directed_count, nth_directed, place_below, added_firsts, added_all, firsts_room, spelled_nth, simple_nth, offsets_count, Starts, offset_starts}

-- the item of the first three words
abbrev item_from : List ℕ → Item
item_from l = entry_item (get_or l 0 0) (get_or l 1 0) (get_or l 2 0)

pub fields : (ws : List ℕ) (at : ℕ) (l : List ℕ) → drop at ws ≡ l → (get_or ws at 0 ≡ get_or l 0 0) × (get_or ws (at + 1) 0 ≡ get_or l 1 0) × (get_or ws (at + 2) 0 ≡ get_or l 2 0)
fields ws at l e =
    let z : at ≡ at + 0 = omega arith in (
      ap (λ (i : ℕ). get_or ws i 0) z ∙ sym (get_or-drop at ws 0 0) ∙ ap (λ (x : List ℕ). get_or x 0 0) e,
      sym (get_or-drop at ws 1 0) ∙ ap (λ (x : List ℕ). get_or x 1 0) e,
      sym (get_or-drop at ws 2 0) ∙ ap (λ (x : List ℕ). get_or x 2 0) e,
    )

entry_from : (ws : List ℕ) (at : ℕ) (l : List ℕ) → drop at ws ≡ l → entry_at ws at ≡ item_from l
unfolding entry_at
entry_from ws at l e = let f = fields ws at l e in rw (f.0, f.1, f.2)

-- tokens of one entry
mask_from : (v : ℕ) (m : Mask) → v < 16 → mask_item v (mask_number m) ≡ item_of (MaskedByte v m)
unfolding mask_item item_of
mask_from v left h = ap (λ (x : ℕ). one (mask x 0x0F)) (mod-eq_of_lt h)
mask_from v right h = ap (λ (x : ℕ). one (mask (16 * x) 0xF0)) (mod-eq_of_lt h)
mask_from v all h = refl

not_mask_from : (v : ℕ) (m : Mask) → v < 16 → not_mask_item v (mask_number m) ≡ item_of (NotMaskedByte v m)
unfolding not_mask_item item_of
not_mask_from v left h = ap (λ (x : ℕ). one (negated_mask x 0x0F)) (mod-eq_of_lt h)
not_mask_from v right h = ap (λ (x : ℕ). one (negated_mask (16 * x) 0xF0)) (mod-eq_of_lt h)
not_mask_from v all h = refl

jump_from : (from to : ℕ) → from ≤ to → leb to jump_limit ≡ true → jump_item (from % field_size) (to % field_size) ≡ item_of (Jump from (some to))
unfolding jump_item item_of
jump_from from to l h =
    let g : to ≤ jump_limit = leb-true to jump_limit h in
    let a : from < field_size = omega arith in
    let b : to < field_size = omega arith in
    rw (mod-eq_of_lt a, mod-eq_of_lt b)

-- a leaf: a token that is not alternatives
abbrev pub Leaf : Token → Type 0
Leaf (Byte v) = Unit {0}
Leaf (NotByte v) = Unit {0}
Leaf (MaskedByte v m) = Unit {0}
Leaf (NotMaskedByte v m) = Unit {0}
Leaf (Jump from to) = Unit {0}
Leaf (Alternatives ls) = ⊥

leaf_from : (t : Token) (r : List ℕ) → Leaf t → SpelledOne t → simple_token t ≡ true → item_from (entries_of t ++ r) ≡ item_of t
unfolding entry_item entries SpelledOne simple_token item_of
leaf_from (Byte v) r u h g = ap (λ (x : ℕ). one (byte x)) (mod-eq_of_lt h)
leaf_from (NotByte v) r u h g = ap (λ (x : ℕ). one (negated_mask x 0xFF)) (mod-eq_of_lt h)
leaf_from (MaskedByte v m) r u h g = mask_from v m h
leaf_from (NotMaskedByte v m) r u h g = not_mask_from v m h
leaf_from (Jump from none) r u h g = false_true g
leaf_from (Jump from (some to)) r u h g = jump_from from to h.0 g
leaf_from (Alternatives ls) r u h g = absurd u

leaf_kind : (t : Token) (r : List ℕ) → Leaf t → get_or (entries_of t ++ r) 0 0 ≡ 5 → ⊥
unfolding entries
leaf_kind (Byte v) r u e = omega arith
leaf_kind (NotByte v) r u e = omega arith
leaf_kind (MaskedByte v m) r u e = omega arith
leaf_kind (NotMaskedByte v m) r u e = omega arith
leaf_kind (Jump from none) r u e = omega arith
leaf_kind (Jump from (some to)) r u e = omega arith
leaf_kind (Alternatives ls) r u e = absurd u

leaf_directed : (b : Bool) (t : Token) → Leaf t → directed_of b t ≡ t
unfolding backwards
leaf_directed false t u = refl
leaf_directed true (Byte v) u = refl
leaf_directed true (NotByte v) u = refl
leaf_directed true (MaskedByte v m) u = refl
leaf_directed true (NotMaskedByte v m) u = refl
leaf_directed true (Jump from to) u = refl
leaf_directed true (Alternatives ls) u = absurd u

-- a flat token is simple, and a leaf
flat_leaf : (t : Token) → flat_token t ≡ true → Leaf t × (simple_token t ≡ true)
unfolding flat_token simple_token
flat_leaf (Byte v) h = (tt, refl)
flat_leaf (NotByte v) h = (tt, refl)
flat_leaf (MaskedByte v m) h = (tt, refl)
flat_leaf (NotMaskedByte v m) h = (tt, refl)
flat_leaf (Jump from none) h = false_true h
flat_leaf (Jump from (some to)) h = (tt, and_left (leb to jump_limit) (leb to from) h)
flat_leaf (Alternatives ls) h = false_true h

flat_nth : (k : ℕ) (ts : Tokens) → k < token_count ts → flat_tokens ts ≡ true → flat_token (nth k ts) ≡ true
unfolding nth token_count flat_tokens
flat_nth k nothing h s = absurd (omega arith)
flat_nth zero (t then ts) h s = and_left (flat_token t) (flat_tokens ts) s
flat_nth (suc k) (t then ts) h s = flat_nth k ts (omega arith) (and_right (flat_token t) (flat_tokens ts) s)

flat_offset : (k : ℕ) (ts : Tokens) (at : ℕ) → k < token_count ts → flat_tokens ts ≡ true → get_or (offsets at ts) k 0 ≡ at + 4 * k
unfolding offsets token_count flat_tokens
flat_offset k nothing at h p = absurd (omega arith)
flat_offset zero (t then ts) at h p = omega arith
flat_offset (suc k) (t then ts) at h p =
    flat_offset k ts (at + length (entries_of t)) (omega arith) (and_right (flat_token t) (flat_tokens ts) p) ∙ (omega (arith, flat_long t (and_left (flat_token t) (flat_tokens ts) p)))

-- a branch's program
module _ (b : Bool) (ts : Tokens) (s : Spelled ts) (p : flat_tokens ts ≡ true) where
  the_count : length (entries ts) / 4 ≡ token_count ts
  the_count = omega (arith, flat_entries_lem ts p)

  the_item : (k : ℕ) → k < token_count (directed b ts) → list_item b (entries ts) k ≡ item_of (nth k (directed b ts))
  unfolding list_item Starts
  the_item k l =
      let m : k < token_count ts = omega (arith, directed_count b ts) in
      let i = place_of b (token_count ts) k in
      let j : i < token_count ts = place_below b (token_count ts) k m in
      let o : get_or (offsets 0 ts) i 0 ≡ 4 * i = flat_offset i ts 0 j p ∙ (omega arith) in
      let (r, e) = offset_starts i ts j in
      let q = flat_leaf (nth i ts) (flat_nth i ts j p) in
      ap (λ (n : ℕ). entry_at (entries ts) (4 * place_of b n k)) the_count
      ∙ entry_from (entries ts) (4 * i) (entries_of (nth i ts) ++ r) (ap (λ (n : ℕ). drop n (entries ts)) (sym o) ∙ e)
      ∙ leaf_from (nth i ts) r q.0 (spelled_nth i ts j s) q.1
      ∙ ap item_of (sym (nth_directed b k ts m ∙ leaf_directed b (nth i ts) q.0))

  pub list_program_lem : list_program b (entries ts) ≡ added (directed b ts) end
  unfolding list_program
  list_program_lem =
      ap (added_to (list_item b (entries ts))) (the_count ∙ sym (directed_count b ts))
      ∙ added_all (list_item b (entries ts)) (directed b ts) the_item

-- behind a mark stand its list's entries
front_part : (ts : Tokens) (ls : Lists) → flat_tokens ts ≡ true → take (4 * token_count ts) (drop 4 (list_entries (ts or ls))) ≡ entries ts
unfolding list_entries
front_part ts ls p = take_at (entries ts) (list_entries ls) (4 * token_count ts) (flat_entries_lem ts p)

pub branches_for_lem : (b : Bool) (ls : Lists) → SpelledMore ls → flat_branches ls ≡ true → branches_at b (list_count ls) (list_entries ls) ≡ branches_for (directed_in b ls)
unfolding branches_at list_count Spelled flat_branches branches_for backwards list_entries token_count
branches_for_lem true neither h p = refl
branches_for_lem false neither h p = refl
branches_for_lem true (ts or ls) h p =
    let q = and_left (flat_tokens ts) (flat_branches ls) p in
    ap₂ branch (ap (list_program true) (front_part ts ls q) ∙ list_program_lem true ts h.0 q) (ap (branches_at true (list_count ls)) (front_rest ts ls q) ∙ branches_for_lem true ls h.1 (and_right (flat_tokens ts) (flat_branches ls) p))
branches_for_lem false (ts or ls) h p =
    let q = and_left (flat_tokens ts) (flat_branches ls) p in
    ap₂ branch (ap (list_program false) (front_part ts ls q) ∙ list_program_lem false ts h.0 q) (ap (branches_at false (list_count ls)) (front_rest ts ls q) ∙ branches_for_lem false ls h.1 (and_right (flat_tokens ts) (flat_branches ls) p))

-- alternatives at a place
module _ (ws : List ℕ) (at : ℕ) (ls : Lists) (r : List ℕ) (e : drop at ws ≡ entries_of (Alternatives ls) ++ r) where
  pub alt_fields : (get_or ws at 0 ≡ 5) × (get_or ws (at + 1) 0 ≡ list_count ls) × (get_or ws (at + 2) 0 ≡ entries_in (list_entries ls))
  unfolding entries_of
  alt_fields = fields ws at (entries_of (Alternatives ls) ++ r) e

  pub alt_inside : take (4 * get_or ws (at + 2) 0) (drop (at + 4) ws) ≡ list_entries ls
  unfolding entries_of
  alt_inside =
      ap₂ take (ap (λ (n : ℕ). 4 * n) alt_fields.2 ∙ fours_in ls) (sym (drop-drop 4 at ws) ∙ ap (drop 4) e)
      ∙ take_at (list_entries ls) r (length (list_entries ls)) refl

  alt_branches : (b : Bool) → SpelledMore ls → flat_branches ls ≡ true → alt_at b ws at ≡ branches_for (directed_in b ls)
  unfolding alt_at
  alt_branches b s p = ap₂ (branches_at b) alt_fields.1 alt_inside ∙ branches_for_lem b ls s p

  alt_token : (b : Bool) → SpelledMore ls → flat_branches ls ≡ true → token_at b ws at ≡ item_of (directed_of b (Alternatives ls))
  unfolding token_at item_of backwards
  alt_token b s p = rw alt_fields.0 (ap alt (alt_branches b s p) ∙ of b)
    where
      of : (d : Bool) → alt (branches_for (directed_in d ls)) ≡ item_of (directed_of d (Alternatives ls))
      of true = refl
      of false = refl

  alt_size : size_at ws at ≡ length (entries_of (Alternatives ls))
  unfolding entries_of
  alt_size = size_five ws at alt_fields.0 ∙ (omega (arith, alt_fields.2, fours_in ls))

  alt_stands : flat_branches ls ≡ true → Stands ws at
  unfolding entries_of
  alt_stands p = record {
    fits = omega (arith, alt_size, length-drop at ws, ap length e, length-append (list_entries ls) r);
    opened = λ f. record { lists = ls; entered = alt_inside; flatly = p; many = sym alt_fields.1 };
  }

leaf_four : (k : Token) → Leaf k → length (entries_of k) ≡ 4
unfolding entries_of
leaf_four (Byte v) u = refl
leaf_four (NotByte v) u = refl
leaf_four (MaskedByte v m) u = refl
leaf_four (NotMaskedByte v m) u = refl
leaf_four (Jump from none) u = refl
leaf_four (Jump from (some to)) u = refl
leaf_four (Alternatives ls) u = absurd u

-- one of one entry
module _ (ws : List ℕ) (at : ℕ) (t : Token) (u : Leaf t) (r : List ℕ) (e : drop at ws ≡ entries_of t ++ r) where
  other : get_or ws at 0 ≡ 5 → ⊥
  other f = leaf_kind t r u (sym (fields ws at (entries_of t ++ r) e).0 ∙ f)

  leaf_token : (b : Bool) → SpelledOne t → simple_token t ≡ true → token_at b ws at ≡ item_of (directed_of b t)
  leaf_token b s p = token_other ws at b other ∙ entry_from ws at (entries_of t ++ r) e ∙ leaf_from t r u s p ∙ ap item_of (sym (leaf_directed b t u))

  leaf_size : size_at ws at ≡ length (entries_of t)
  leaf_size = size_other ws at other ∙ sym (leaf_four t u)

  leaf_stands : Stands ws at
  leaf_stands = record {
    fits = omega (arith, leaf_size, length-drop at ws, ap length e, length-append (entries_of t) r, size_least ws at);
    opened = λ f. absurd (other f);
  }

-- the size of the token at its place
pub starts_size : (ws : List ℕ) (at : ℕ) (t : Token) → Starts ws at t → size_at ws at ≡ length (entries_of t)
unfolding Starts
starts_size ws at (Byte v) (r, e) = leaf_size ws at (Byte v) tt r e
starts_size ws at (NotByte v) (r, e) = leaf_size ws at (NotByte v) tt r e
starts_size ws at (MaskedByte v m) (r, e) = leaf_size ws at (MaskedByte v m) tt r e
starts_size ws at (NotMaskedByte v m) (r, e) = leaf_size ws at (NotMaskedByte v m) tt r e
starts_size ws at (Jump from to) (r, e) = leaf_size ws at (Jump from to) tt r e
starts_size ws at (Alternatives ls) (r, e) = alt_size ws at ls r e

-- any token at its place
pub record Placed (b : Bool) (ws : List ℕ) (at : ℕ) (t : Token) : Type 0 where
  pub item : token_at b ws at ≡ item_of (directed_of b t)
  pub size : size_at ws at ≡ length (entries_of t)
  pub stands : Stands ws at

leaf_placed : (b : Bool) (ws : List ℕ) (at : ℕ) (t : Token) → Leaf t → Starts ws at t → SpelledOne t → simple_token t ≡ true → Placed b ws at t
unfolding Starts
leaf_placed b ws at t u (r, e) s p = record { item = leaf_token ws at t u r e b s p; size = leaf_size ws at t u r e; stands = leaf_stands ws at t u r e }

pub placed : (b : Bool) (ws : List ℕ) (at : ℕ) (t : Token) → Starts ws at t → SpelledOne t → simple_token t ≡ true → Placed b ws at t
unfolding Starts Spelled simple_token
placed b ws at (Byte v) q s p = leaf_placed b ws at (Byte v) tt q s p
placed b ws at (NotByte v) q s p = leaf_placed b ws at (NotByte v) tt q s p
placed b ws at (MaskedByte v m) q s p = leaf_placed b ws at (MaskedByte v m) tt q s p
placed b ws at (NotMaskedByte v m) q s p = leaf_placed b ws at (NotMaskedByte v m) tt q s p
placed b ws at (Jump from to) q s p = leaf_placed b ws at (Jump from to) tt q s p
placed b ws at (Alternatives ls) (r, e) s p = record { item = alt_token ws at ls r e b (any_spelled ls s) p; size = alt_size ws at ls r e; stands = alt_stands ws at ls r e p }

directed_long_of : (b : Bool) (t : Token) → length (entries_of (directed_of b t)) ≡ length (entries_of t)
directed_long_of true t = backwards_long_of t
directed_long_of false t = refl

pub directed_long : (b : Bool) (ts : Tokens) → length (entries (directed b ts)) ≡ length (entries ts)
directed_long true ts = backwards_long ts
directed_long false ts = refl

-- the outer list
module _ (b : Bool) (ws st : List ℕ) (h : Outlined ws st) where
  pub the_length : length st ≡ token_count h.tokens
  the_length = ap length h.started ∙ offsets_count 0 h.tokens

  at_place : (i : ℕ) → i < length st → Placed b ws (get_or st i 0) (nth i h.tokens)
  at_place i l =
      let m : i < token_count h.tokens = omega (arith, the_length) in
      let q : Starts ws (get_or st i 0) (nth i h.tokens) = subst₂ (λ (x : List ℕ) (y : List ℕ). Starts x (get_or y i 0) (nth i h.tokens)) (sym h.entered) (sym h.started) (offset_starts i h.tokens m) in
      placed b ws (get_or st i 0) (nth i h.tokens) q (spelled_nth i h.tokens m h.spelled) (simple_nth i h.tokens m h.simply)

  pub token_stands : (i : ℕ) → i < length st → Stands ws (get_or st i 0)
  token_stands i l = (at_place i l).stands

  token_item_lem : (k : ℕ) → k < token_count (directed b h.tokens) → token_item b ws st k ≡ item_of (nth k (directed b h.tokens))
  unfolding token_item
  token_item_lem k l =
      let m : k < token_count h.tokens = omega (arith, directed_count b h.tokens) in
      let n : k < length st = omega (arith, the_length) in
      let i = place_of b (length st) k in
      (at_place i (place_below b (length st) k n)).item
      ∙ ap item_of (ap (λ (c : ℕ). directed_of b (nth (place_of b c k) h.tokens)) the_length ∙ sym (nth_directed b k h.tokens m))

  pub tokens_program_lem : tokens_program b ws st ≡ added (directed b h.tokens) end
  unfolding tokens_program
  tokens_program_lem =
      ap (added_to (token_item b ws st)) (the_length ∙ sym (directed_count b h.tokens))
      ∙ added_all (token_item b ws st) (directed b h.tokens) token_item_lem

  -- what is written and the next token fit where all entries would
  pub token_room : (k : ℕ) → k < length st → 4 * nodes (added_to (token_item b ws st) k) + size_at ws (get_or st (place_of b (length st) k) 0) ≤ length ws
  token_room k l =
      let us = directed b h.tokens in
      let m : k < token_count h.tokens = omega (arith, the_length) in
      let n : k < token_count us = omega (arith, directed_count b h.tokens) in
      let i = place_of b (length st) k in
      let a : nodes (added_to (token_item b ws st) k) ≡ nodes (added (firsts k us) end) = ap nodes (added_firsts (token_item b ws st) us token_item_lem k (omega arith)) in
      let c : length (entries_of (nth k us)) ≡ size_at ws (get_or st i 0) =
      ap (λ (t : Token). length (entries_of t)) (nth_directed b k h.tokens m)
      ∙ directed_long_of b (nth (place_of b (token_count h.tokens) k) h.tokens)
      ∙ ap (λ (x : ℕ). length (entries_of (nth (place_of b x k) h.tokens))) (sym the_length)
      ∙ sym (at_place i (place_below b (length st) k l)).size in
      let d : length (entries us) ≡ length ws = directed_long b h.tokens ∙ sym (ap length h.entered) in
      omega (arith, firsts_room k us n)
