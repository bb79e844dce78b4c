-- Lists behind their marks, one list more. Assumes nothing.
use Rattle.std.proofs.Common.{◌≡◌, refl, sym, ap, ap₂, ◌∙◌, subst, Bool, true, false, not, ◌&&◌, ◌||◌, List, [], ◌∷◌, ◌++◌, append-nil, append_assoc, ℕ, zero, suc, ◌+◌, ◌-◌, ◌*◌, ◌/◌, ◌≤◌, ◌<◌, arith, leb, length, get_or, take, drop, set, length-append, length-drop, drop_at, drop-drop, get_or-drop, length-take-le}
use Rattle.std.proofs.Math.Bool.{or-false}
use Rattle.std.proofs.Math.Option.{none, some}
use borrow.Rule.Slice.PartMut.{put_mid}
use Rattle.def_meaning.specs.Limits.{branch_limit}
use Rattle.def_meaning.specs.Tokens.{Token, Tokens, Lists, Byte, NotByte, MaskedByte, NotMaskedByte, Jump, Alternatives, nothing, ◌then◌, neither, ◌or◌}
use Rattle.def_meaning.specs.Entries.{entry, entries_in, token_count, list_count, entries_of, entries, list_entries}
use Rattle.def_meaning.specs.Programs.{Item, Prog, Branches, one, jump, range, alt, or as branch}
use Rattle.def_meaning.specs.NodeWords.{word}
use Rattle.def_meaning.proofs.SoundLaws.{and_left, and_right, false_true}
use Rattle.def_compiling.specs.ProgramWords.{words_for, words_of, words_in, nodes}
use Rattle.def_compiling.specs.Compile.{flat_token, flat_tokens, flat_branches, short_in}
use Rattle.def_compiling.proofs.CountLaws.{add_nodes}
use Rattle.emit.specs.Lists.{added_to, list_item, list_program, branches_at, FlatLists}
use Rattle.emit.proofs.HoldLaws.{Single}
use Rattle.emit.proofs.ListLaws.{list_single}
use Rattle.emit.proofs.LentLaws.{lent_marked}

-- a program of items of one word each has no more nodes than items
single_long : (i : Item) → Single i → length (words_for i) ≡ 1
unfolding words_of
single_long (one t) s = refl
single_long (jump n) s = refl
single_long (range a b) s = refl
single_long (alt bs) s = absurd s

added_few : (f : ℕ → Item) → ((k : ℕ) → Single (f k)) → (k : ℕ) → nodes (added_to f k) ≤ k
unfolding added_to words_of
added_few f s zero = omega arith
added_few f s (suc k) = omega (arith, added_few f s k, add_nodes (added_to f k) (f k), single_long (f k) (s k))

pub list_few : (b : Bool) (ws : List ℕ) → nodes (list_program b ws) ≤ length ws / 4
unfolding list_program
list_few b ws = added_few (list_item b ws) (list_single b ws) (length ws / 4)

-- tokens of one entry each
pub flat_long : (t : Token) → flat_token t ≡ true → length (entries_of t) ≡ 4
unfolding entries flat_token
flat_long (Byte v) h = refl
flat_long (NotByte v) h = refl
flat_long (MaskedByte v m) h = refl
flat_long (NotMaskedByte v m) h = refl
flat_long (Jump from none) h = refl
flat_long (Jump from (some to)) h = refl
flat_long (Alternatives ls) h = false_true h

pub flat_entries_lem : (ts : Tokens) → flat_tokens ts ≡ true → length (entries ts) ≡ 4 * token_count ts
unfolding entries flat_tokens token_count
flat_entries_lem nothing h = refl
flat_entries_lem (t then ts) h =
    omega (arith, length-append (entries_of t) (entries ts), flat_long t (and_left (flat_token t) (flat_tokens ts) h), flat_entries_lem ts (and_right (flat_token t) (flat_tokens ts) h))

-- the list at the front of what is left, and what is left after it
pub record Headed (k : ℕ) (ws : List ℕ) (x : ℕ) : Type 0 where
  pub fits : x + 4 + 4 * get_or ws (x + 1) 0 ≤ length ws
  pub after : FlatLists k (drop (x + 4 + 4 * get_or ws (x + 1) 0) ws)

front_count : (ts : Tokens) (ls : Lists) → get_or (list_entries (ts or ls)) 1 0 ≡ token_count ts
unfolding list_entries
front_count ts ls = refl

front_long : (ts : Tokens) (ls : Lists) → flat_tokens ts ≡ true → length (list_entries (ts or ls)) ≡ 4 + 4 * token_count ts + length (list_entries ls)
unfolding list_entries
front_long ts ls h = omega (arith, length-append (entries ts) (list_entries ls), flat_entries_lem ts h)

pub front_rest : (ts : Tokens) (ls : Lists) → flat_tokens ts ≡ true → drop (4 + 4 * token_count ts) (list_entries (ts or ls)) ≡ list_entries ls
unfolding list_entries
front_rest ts ls h =
    let e = entry 6 (token_count ts) (entries_in (entries ts)) 0 in
    ap (drop (4 + 4 * token_count ts)) (sym (append_assoc e (entries ts) (list_entries ls)))
    ∙ drop_at (e ++ entries ts) (list_entries ls) (4 + 4 * token_count ts) (length-append e (entries ts) ∙ (omega (arith, flat_entries_lem ts h)))

pub headed : (k : ℕ) (ws : List ℕ) (x : ℕ) → x ≤ length ws → FlatLists (suc k) (drop x ws) → Headed k ws x
unfolding flat_branches list_count
headed k ws x l h = go h.lists h.entered h.flatly h.many
  where
    go : (ls : Lists) → drop x ws ≡ list_entries ls → flat_branches ls ≡ true → list_count ls ≡ suc k → Headed k ws x
    go neither e p m = absurd (omega arith)
    go (ts or ls) e p m =
        let q : flat_tokens ts ≡ true = and_left (flat_tokens ts) (flat_branches ls) p in
        let c : get_or ws (x + 1) 0 ≡ token_count ts = sym (get_or-drop x ws 1 0) ∙ ap (λ (l : List ℕ). get_or l 1 0) e ∙ front_count ts ls in
        let n : length ws - x ≡ 4 + 4 * token_count ts + length (list_entries ls) = sym (length-drop x ws) ∙ ap length e ∙ front_long ts ls q in
        let d : drop (x + 4 + 4 * get_or ws (x + 1) 0) ws ≡ list_entries ls =
        (let a : x + 4 + 4 * get_or ws (x + 1) 0 ≡ x + (4 + 4 * token_count ts) = omega arith in ap (λ (k : ℕ). drop k ws) a)
        ∙ sym (drop-drop (4 + 4 * token_count ts) x ws) ∙ ap (drop (4 + 4 * token_count ts)) e ∙ front_rest ts ls q in
        record {
          fits = omega arith;
          after = record { lists = ls; entered = d; flatly = and_right (flat_tokens ts) (flat_branches ls) p; many = omega arith };
        }

-- l lists are done: what stands in the buffer, and what is left
pub record Left (b : Bool) (lists : ℕ) (ws o out : List ℕ) (x n l : ℕ) (long : Bool) : Type 0 where
  pub rest : FlatLists (lists - l) (drop x ws)
  pub sofar : l ≤ lists
  pub within : x ≤ length ws
  pub few : 4 * n ≤ x
  pub same : length out ≡ length o
  pub done : List ℕ
  pub size : length done ≡ n
  pub front : out ≡ done ++ drop n o
  pub words : done ++ words_in (branches_at b (lists - l) (drop x ws)) ≡ words_in (branches_at b lists ws)
  pub longs : (long || not (short_in (branches_at b (lists - l) (drop x ws)))) ≡ not (short_in (branches_at b lists ws))

pub left_start : (b : Bool) (lists : ℕ) (ws o : List ℕ) → FlatLists lists ws → Left b lists ws o o 0 0 0 false
left_start b lists ws o h =
    let z : lists - 0 ≡ lists = omega arith in
    record { rest = rw z h; sofar = omega arith; within = omega arith; few = omega arith; same = refl; done = []; size = refl; front = refl; words = rw z; longs = rw z }

pub left_end : (b : Bool) (lists : ℕ) (ws o out : List ℕ) (x n l : ℕ) (long : Bool) → lists ≤ l → Left b lists ws o out x n l long → (n ≡ length (words_in (branches_at b lists ws))) × (long ≡ not (short_in (branches_at b lists ws))) × (out ≡ words_in (branches_at b lists ws) ++ drop n o)
unfolding branches_at words_in short_in
left_end b lists ws o out x n l long g h =
    let z : lists - l ≡ 0 = omega arith in
    let w : h.done ≡ words_in (branches_at b lists ws) = sym (append-nil h.done) ∙ (rw z at h.words) in
    (sym h.size ∙ ap length w, sym (or-false long) ∙ (rw z at h.longs), h.front ∙ ap (λ (d : List ℕ). d ++ drop n o) w)

-- one list more: its entries are lent to be written behind its mark
module _ (b : Bool) (lists : ℕ) (ws o out : List ℕ) (x n l : ℕ) (long : Bool) (h : Left b lists ws o out x n l long) (lt : l < lists) where
  one_less : lists - l ≡ suc (lists - (l + 1))
  one_less = omega arith

  head : Headed (lists - (l + 1)) ws x
  head = headed (lists - (l + 1)) ws x h.within (subst (λ (k : ℕ). FlatLists k (drop x ws)) one_less h.rest)

  abbrev count : ℕ
  count = get_or ws (x + 1) 0

  abbrev to : ℕ
  to = x + 4 + 4 * count

  pub list_fits : x + 4 + 4 * get_or ws (x + 1) 0 ≤ length ws
  list_fits = head.fits

  -- where the code reads and writes
  pub part_fits : length ws ≤ 4 * length o → (x + 4 + 4 * get_or ws (x + 1) 0 ≤ length ws) × (n + 1 + get_or ws (x + 1) 0 ≤ length out)
  part_fits r = let f = head.fits in let few = h.few in let same = h.same in (f, omega arith)

  -- what the code hands over is the list's part
  the_part : (f t : ℕ) → f ≡ x + 4 → t ≡ to → take (t - f) (drop f ws) ≡ take (4 * get_or (drop x ws) 1 0) (drop 4 (drop x ws))
  the_part f t e g =
      let a : t - f ≡ 4 * get_or (drop x ws) 1 0 = let k : get_or (drop x ws) 1 0 ≡ count = get_or-drop x ws 1 0 in omega arith in
      ap₂ (λ (i : ℕ) (j : ℕ). take i (drop j ws)) a e ∙ ap (take (4 * get_or (drop x ws) 1 0)) (sym (drop-drop 4 x ws))

  pub part_long : length (take (to - (x + 4)) (drop (x + 4) ws)) ≡ 4 * count
  part_long = let f = head.fits in length-take-le (to - (x + 4)) (drop (x + 4) ws) (rw length-drop (omega arith)) ∙ (omega arith)

  abbrev of_list : Prog
  of_list = list_program b (take (to - (x + 4)) (drop (x + 4) ws))

  pub of_list_few : nodes of_list ≤ count
  of_list_few = let e = part_long in omega (arith, list_few b (take (to - (x + 4)) (drop (x + 4) ws)))

  unrolled : branches_at b (lists - l) (drop x ws) ≡ branch of_list (branches_at b (lists - (l + 1)) (drop to ws))
  unfolding branches_at
  unrolled =
      let c : get_or (drop x ws) 1 0 ≡ count = get_or-drop x ws 1 0 in
      let a : x + (4 + 4 * get_or (drop x ws) 1 0) ≡ to = omega arith in
      ap (λ (k : ℕ). branches_at b k (drop x ws)) one_less
      ∙ ap₂ branch (ap (list_program b) (sym (the_part (x + 4) to refl refl))) (ap (branches_at b (lists - (l + 1))) (drop-drop (4 + 4 * get_or (drop x ws) 1 0) x ws ∙ ap (λ (k : ℕ). drop k ws) a))

  pub left_more : (ys : List ℕ) (m w : ℕ) (longer : Bool) → length ws ≤ 4 * length o → m ≡ nodes of_list → ys ≡ words_of of_list ++ drop m (take (length out - (n + 1)) (drop (n + 1) out)) → w ≡ word 7 m 0 → longer ≡ (long || not (leb m branch_limit)) → Left b lists ws o (set (put_mid (n + 1) (length out - (n + 1)) out ys) n w) to (n + 1 + m) (l + 1) longer
  unfolding words_in short_in
  left_more ys m w longer r em ey ew el =
      let f = head.fits in
      let few : nodes of_list ≤ count = of_list_few in
      let g : 4 * n ≤ x = h.few in
      let made = h.done ++ (w ∷ words_of of_list) in
      let long-made : length made ≡ n + 1 + m = length-append h.done (w ∷ words_of of_list) ∙ (let s = h.size in omega arith) in
      let now : set (put_mid (n + 1) (length out - (n + 1)) out ys) n w ≡ made ++ drop (n + 1 + m) o =
      lent_marked h.done o (words_of of_list) out ys n w h.size (omega arith) h.front (ey ∙ ap (λ (k : ℕ). words_of of_list ++ drop k (take (length out - (n + 1)) (drop (n + 1) out))) em)
      ∙ ap (λ (k : ℕ). made ++ drop (n + 1 + k) o) (sym em) in
      let rest = branches_at b (lists - (l + 1)) (drop to ws) in
      record {
        rest = head.after;
        sofar = omega arith;
        within = f;
        few = omega arith;
        same = ap length now ∙ length-append made (drop (n + 1 + m) o) ∙ (omega (arith, length-drop (n + 1 + m) o));
        done = made;
        size = long-made;
        front = now;
        words =
            append_assoc h.done (w ∷ words_of of_list) (words_in rest)
            ∙ ap (λ (v : ℕ). h.done ++ (v ∷ (words_of of_list ++ words_in rest))) (ew ∙ ap (λ (k : ℕ). word 7 k 0) em)
            ∙ ap (λ (q : Branches). h.done ++ words_in q) (sym unrolled)
            ∙ h.words;
        longs =
            ap (λ (t : Bool). t || not (short_in rest)) (el ∙ ap (λ (k : ℕ). long || not (leb k branch_limit)) em)
            ∙ or_and long (leb (nodes of_list) branch_limit) (short_in rest)
            ∙ ap (λ (q : Branches). long || not (short_in q)) (sym unrolled)
            ∙ h.longs;
      }
    where
      or_and : (s t u : Bool) → ((s || not t) || not u) ≡ (s || not (t && u))
      or_and true t u = refl
      or_and false true u = refl
      or_and false false u = refl
