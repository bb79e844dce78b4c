-- The token at a place: alternatives, or one of one entry. Assumes nothing.
use Rattle.std.proofs.Common.{◌≡◌, refl, sym, ap, ap₂, ◌∙◌, subst, Bool, true, false, cond, not, ◌||◌, List, [], ◌∷◌, ◌++◌, append_assoc, ℕ, zero, suc, ◌+◌, ◌-◌, ◌*◌, ◌≤◌, ◌<◌, arith, eqb, length, get_or, take, drop, set, length-append, length-drop, take-append-drop, length-take-le, take_at, drop_at, drop-drop, eq-eqb, ne_eqb, Option, None}
use Rattle.std.proofs.Math.Bool.{or-false}
use borrow.Rule.Slice.PartMut.{put_mid}
use Rattle.base.proofs.LentLaws.{lent_rest}
use Rattle.def_meaning.specs.Programs.{Item, Prog, Branches, one, jump, range, alt, end, ◌▹◌, ◌⧺◌}
use Rattle.def_meaning.specs.NodeWords.{word}
use Rattle.def_compiling.specs.ProgramWords.{opening, words_for, words_of, words_in}
use Rattle.def_compiling.specs.Compiling.{jump_of, add}
use Rattle.def_compiling.specs.Compile.{short_in, short_of}
use Rattle.emit.specs.declared.Addend.{Addend}
use Rattle.emit.specs.Items.{entry_item, addend_of, growing, last_of, put_count, put_last, put_out}
use Rattle.emit.specs.Lists.{list_program, branches_at, FlatLists, alt_at, token_at, entry_at, item_count, item_last, item_out, size_at, Stands}
use Rattle.emit.proofs.PutLaws.{Puts}
use Rattle.emit.proofs.HoldLaws.{Holds, Single, entry_single, put_holds, add_appends, words_snoc, last_snoc}
use Rattle.emit.proofs.LentLaws.{lent_marked}
use Rattle.emit.proofs.BranchLaws.{Headed, headed, list_few}

-- branches have no more words than their lists have entries
pub branches_few : (b : Bool) (n : ℕ) (ws : List ℕ) → FlatLists n ws → 4 * length (words_in (branches_at b n ws)) ≤ length ws
unfolding branches_at words_in
branches_few b zero ws h = omega arith
branches_few b (suc n) ws h =
    let g : Headed n ws 0 = headed n ws 0 (omega arith) h in
    let f : 0 + 4 + 4 * get_or ws (0 + 1) 0 ≤ length ws = g.fits in
    let l = take (4 * get_or ws 1 0) (drop 4 ws) in
    let r = drop (4 + 4 * get_or ws 1 0) ws in
    let e : length l ≡ 4 * get_or ws 1 0 = length-take-le (4 * get_or ws 1 0) (drop 4 ws) (rw length-drop (omega arith)) in
    omega (arith, branches_few b n r g.after, list_few b l, e, length-drop (4 + 4 * get_or ws 1 0) ws, length-append (words_of (list_program b l)) (words_in (branches_at b n r)))

module _ (ws : List ℕ) (at : ℕ) where
  pub size_five : get_or ws at 0 ≡ 5 → size_at ws at ≡ 4 + 4 * get_or ws (at + 2) 0
  unfolding size_at
  size_five e = rw e

  pub size_other : (get_or ws at 0 ≡ 5 → ⊥) → size_at ws at ≡ 4
  unfolding size_at
  size_other n = rw (ne_eqb (get_or ws at 0) 5 n)

  pub size_least : 4 ≤ size_at ws at
  unfolding size_at
  size_least = go (eqb (get_or ws at 0) 5)
    where
      go : (t : Bool) → 4 ≤ cond t (4 + 4 * get_or ws (at + 2) 0) 4
      go true = omega arith
      go false = omega arith

  pub token_five : (b : Bool) → get_or ws at 0 ≡ 5 → token_at b ws at ≡ alt (alt_at b ws at)
  unfolding token_at
  token_five b e = rw (eq-eqb (get_or ws at 0) 5 e)

  pub token_other : (b : Bool) → (get_or ws at 0 ≡ 5 → ⊥) → token_at b ws at ≡ entry_at ws at
  unfolding token_at
  token_other b n = rw (ne_eqb (get_or ws at 0) 5 n)

  -- what the code hands over is the part behind the entry
  alt_part : (f t : ℕ) → f ≡ at + 4 → t ≡ at + 4 + 4 * get_or ws (at + 2) 0 → take (t - f) (drop f ws) ≡ take (4 * get_or ws (at + 2) 0) (drop (at + 4) ws)
  alt_part f t e g = let a : t - f ≡ 4 * get_or ws (at + 2) 0 = omega arith in ap₂ (λ (i : ℕ) (j : ℕ). take i (drop j ws)) a e

  module _ (h : Stands ws at) (five : get_or ws at 0 ≡ 5) where
    pub alt_fits : at + 4 + 4 * get_or ws (at + 2) 0 ≤ length ws
    alt_fits = let e = size_five five in let f = h.fits in omega arith

    abbrev handed : List ℕ
    handed = take (at + 4 + 4 * get_or ws (at + 2) 0 - (at + 4)) (drop (at + 4) ws)

    handed_is : handed ≡ take (4 * get_or ws (at + 2) 0) (drop (at + 4) ws)
    handed_is = alt_part (at + 4) (at + 4 + 4 * get_or ws (at + 2) 0) refl refl

    pub handed_long : length handed ≡ 4 * get_or ws (at + 2) 0
    handed_long = let f = alt_fits in ap length handed_is ∙ length-take-le (4 * get_or ws (at + 2) 0) (drop (at + 4) ws) (rw length-drop (omega arith))

    pub handed_lists : FlatLists (get_or ws (at + 1) 0) handed
    handed_lists = subst (FlatLists (get_or ws (at + 1) 0)) (sym handed_is) (h.opened five)

    pub handed_few : (b : Bool) → length (words_in (branches_at b (get_or ws (at + 1) 0) handed)) ≤ get_or ws (at + 2) 0
    handed_few b = omega (arith, branches_few b (get_or ws (at + 1) 0) handed handed_lists, handed_long)

    handed_alt : (b : Bool) → branches_at b (get_or ws (at + 1) 0) handed ≡ alt_at b ws at
    unfolding alt_at
    handed_alt b = ap (branches_at b (get_or ws (at + 1) 0)) handed_is

    pub alt_few : (b : Bool) → length (words_for (alt (alt_at b ws at))) ≤ get_or ws (at + 2) 0 + 1
    unfolding words_for
    alt_few b = subst (λ (x : Branches). suc (length (words_in x)) ≤ get_or ws (at + 2) 0 + 1) (handed_alt b) (omega (arith, handed_few b))

    -- the alternation's word before its branches
    pub alternation : (b : Bool) (out ys : List ℕ) (count w : ℕ) (long : Bool) → 1 ≤ length out → count ≡ length (words_in (branches_at b (get_or ws (at + 1) 0) handed))
        → long ≡ not (short_in (branches_at b (get_or ws (at + 1) 0) handed)) → ys ≡ words_in (branches_at b (get_or ws (at + 1) 0) handed) ++ drop count (take (length out - 1) (drop 1 out)) → w ≡ word 6 count 0
        → (count + 1 ≡ length (words_for (alt (alt_at b ws at)))) × (long ≡ not (short_in (alt_at b ws at))) × (set (put_mid 1 (length out - 1) out ys) 0 w ≡ words_for (alt (alt_at b ws at)) ++ drop (count + 1) out)
    unfolding words_for opening
    alternation b out ys count w long r ec el ey ew =
        let bs = branches_at b (get_or ws (at + 1) 0) handed in
        let q : bs ≡ alt_at b ws at = handed_alt b in
        let lit = words_in bs in
        let s : set (put_mid 1 (length out - 1) out ys) 0 w ≡ (w ∷ lit) ++ drop (0 + 1 + length lit) out = lent_marked [] out lit out ys 0 w refl r refl (ey ∙ ap (λ (k : ℕ). lit ++ drop k (take (length out - 1) (drop 1 out))) ec) in
        let k : 0 + 1 + length lit ≡ count + 1 = omega arith in
        let v : w ∷ lit ≡ words_for (alt bs) = ap (λ (x : ℕ). x ∷ lit) (ew ∙ ap opening ec) in (
          subst (λ (x : Branches). count + 1 ≡ length (words_for (alt x))) q (omega arith),
          el ∙ ap (λ (x : Branches). not (short_in x)) q,
          s ∙ ap₂ (λ (x : List ℕ) (i : ℕ). x ++ drop i out) v k ∙ ap (λ (x : Branches). words_for (alt x) ++ drop (count + 1) out) q,
        )

-- the token, put
abbrev pub Steps : List ℕ → ℕ → Option ℕ → Bool → Item → ℕ → Option ℕ → Bool → List ℕ → Type 0
Steps out n last long i count next longer now = (count ≡ item_count n last i) × (next ≡ item_last last i) × (longer ≡ (long || not (short_of i))) × (now ≡ item_out out n last i)

module _ (out : List ℕ) (n : ℕ) (last : Option ℕ) (long : Bool) where
  pub step_alt : (bs : Branches) (i : Item) (ys : List ℕ) (count : ℕ) (longs longer : Bool) → i ≡ alt bs → n ≤ length out → count ≡ length (words_for (alt bs)) → longs ≡ not (short_in bs) → longer ≡ (long || longs) → ys ≡ words_for (alt bs) ++ drop count (take (length out - n) (drop n out)) → Steps out n last long i (n + count) None longer (put_mid n (length out - n) out ys)
  unfolding item_count item_last item_out short_of
  step_alt bs i ys count longs longer e r ec es el ey =
      let lit = words_for (alt bs) in
      let z : put_mid n (length out - n) out ys ≡ (take n out ++ lit) ++ drop (n + length lit) out =
      lent_rest (take n out) out lit out ys n (length-take-le n out r) (sym (take-append-drop n out)) (ey ∙ ap (λ (k : ℕ). lit ++ drop k (take (length out - n) (drop n out))) ec) in
      rw e (ap (λ (k : ℕ). n + k) ec, refl, el ∙ ap (λ (t : Bool). long || t) es, z ∙ append_assoc (take n out) lit (drop (n + length lit) out))

  pub step_single : (i j : Item) (addend : Addend) (count : ℕ) (next : Option ℕ) (now : List ℕ) → i ≡ j → Single j → addend ≡ addend_of j → Puts out n last addend count next now → Steps out n last long i count next long now
  unfolding item_count item_last item_out short_of
  step_single i j addend count next now e s f (x, y, z) = rw e (go j s (rw f at x) (rw f at y) (rw f at z))
    where
      go : (j : Item) → Single j → count ≡ put_count n last (addend_of j) → next ≡ put_last last (addend_of j) → now ≡ put_out out n last (addend_of j) → (count ≡ item_count n last j) × (next ≡ item_last last j) × (long ≡ (long || not (short_of j))) × (now ≡ item_out out n last j)
      go (one t) u a b c = (a, b, sym (or-false long), c)
      go (jump m) u a b c = (a, b, sym (or-false long), c)
      go (range p q) u a b c = (a, b, sym (or-false long), c)
      go (alt bs) u a b c = absurd u

pub entry_at_single : (ws : List ℕ) (at : ℕ) → Single (entry_at ws at)
unfolding entry_at
entry_at_single ws at = entry_single _ _ _

pub entry_addend_is : (ws : List ℕ) (at : ℕ) (addend : Addend) → addend ≡ addend_of (entry_item (get_or ws at 0) (get_or ws (at + 1) 0) (get_or ws (at + 2) 0)) → addend ≡ addend_of (entry_at ws at)
unfolding entry_at
entry_addend_is ws at addend e = e

-- a buffer that holds a program's words holds them with the item's
module _ (p : Prog) (o out : List ℕ) (n : ℕ) (last : Option ℕ) (h : Holds p o out n last) where
  alt_holds : (bs : Branches) → n ≤ length o → Holds (add p (alt bs)) o (take n out ++ (words_for (alt bs) ++ drop (n + length (words_for (alt bs))) out)) (n + length (words_for (alt bs))) None
  unfolding jump_of growing
  alt_holds bs r =
      let e : add p (alt bs) ≡ p ⧺ (alt bs ▹ end) = add_appends p (alt bs) refl in
      let lit = words_for (alt bs) in
      let ws : words_of (add p (alt bs)) ≡ words_of p ++ lit = ap words_of e ∙ words_snoc p (alt bs) in
      let t : take n out ≡ words_of p = ap (take n) h.front ∙ take_at (words_of p) (drop n o) n (sym h.count) in
      let d : drop (n + length lit) out ≡ drop (n + length lit) o = sym (drop-drop (length lit) n out) ∙ ap (drop (length lit)) (ap (drop n) h.front ∙ drop_at (words_of p) (drop n o) n (sym h.count)) ∙ drop-drop (length lit) n o in
      record {
        count = ap (λ (k : ℕ). k + length lit) h.count ∙ sym (ap length ws ∙ length-append (words_of p) lit);
        tail = sym (ap last_of e ∙ last_snoc p (alt bs));
        front =
            ap₂ (λ (x : List ℕ) (y : List ℕ). x ++ (lit ++ y)) t d
            ∙ sym (append_assoc (words_of p) lit (drop (n + length lit) o))
            ∙ ap (λ (x : List ℕ). x ++ drop (n + length lit) o) (sym ws);
      }

  pub item_holds : (i : Item) → n < length out → n ≤ length o → Holds (add p i) o (item_out out n last i) (item_count n last i) (item_last last i)
  unfolding item_out item_count item_last
  item_holds (one t) r q = put_holds p o out n last h (one t) tt r
  item_holds (jump m) r q = put_holds p o out n last h (jump m) tt r
  item_holds (range a b) r q = put_holds p o out n last h (range a b) tt r
  item_holds (alt bs) r q = alt_holds bs q
