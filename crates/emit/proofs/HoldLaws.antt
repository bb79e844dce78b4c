-- A buffer that holds a program's words holds those of the program with one item more, after an addend is put. Assumes nothing.
use Rattle.std.proofs.Common.{◌≡◌, refl, sym, ap, ap₂, ◌∙◌, Bool, true, false, cond, List, [], ◌∷◌, ◌++◌, append-nil, append_assoc, ℕ, suc, ◌+◌, ◌*◌, ◌-◌, ◌%◌, ◌≤◌, ◌<◌, arith, add-one, eqb, leb, ltb, length, get_or, drop, set, length-append, length-drop, drop-cons, leb-true, leb-false, le-leb, Option, Some, None}
use Rattle.std.proofs.Math.Option.{Option as Maybe, none, some}
use Rattle.std.proofs.Math.Seq.{set_at}
use Rattle.std.proofs.lemmas.Bool.{lt-leb}
use Rattle.def_meaning.specs.Limits.{jump_limit}
use Rattle.def_meaning.specs.Programs.{byte, mask, negated_mask, Item, Prog, one, jump, range, alt, end, ◌▹◌, ◌⧺◌}
use Rattle.def_meaning.specs.NodeWords.{word}
use Rattle.def_meaning.specs.Words.{field_size, word_for}
use Rattle.def_compiling.specs.ProgramWords.{words_for, words_of, nodes}
use Rattle.def_compiling.specs.Compiling.{jump_of, pair_by, add}
use Rattle.emit.specs.declared.Addend.{Addend}
use Rattle.emit.specs.declared.Addend.TheVariants.{Word, Gap}
use Rattle.emit.specs.Items.{byte_in, mask_item, not_mask_item, jump_item, entry_item, addend_of, growing, last_of, put_count, put_last, put_out}

-- the words of p stand at the front of what was o, there are n of them, and the last node is as told
pub record Holds (p : Prog) (o out : List ℕ) (n : ℕ) (last : Option ℕ) : Type 0 where
  pub count : n ≡ nodes p
  pub tail : last ≡ last_of p
  pub front : out ≡ words_of p ++ drop n o

-- an item of one word
abbrev pub Single : Item → Type 0
Single (one t) = Unit {0}
Single (jump n) = Unit {0}
Single (range a b) = Unit {0}
Single (alt bs) = ⊥

pub entry_single : (k a b : ℕ) → Single (entry_item k a b)
unfolding entry_item mask_item not_mask_item jump_item
entry_single k a b = go (eqb k 0) (eqb k 1) (eqb k 2) (eqb k 3) (eqb b 0) (eqb b 1) (ltb (a % field_size) (b % field_size))
  where
    go : (x y z u v s t : Bool)
        → Single (cond x (one (byte (byte_in a))) (cond y (one (negated_mask (byte_in a) 0xFF)) (cond z (cond v (one (mask (a % 16) 0x0F)) (cond s (one (mask (16 * (a % 16)) 0xF0)) (jump 1))) (cond u (cond v (one (negated_mask (a % 16) 0x0F)) (cond s (one (negated_mask (16 * (a % 16)) 0xF0)) (one (negated_mask 0 0)))) (cond t (range (a % field_size) (b % field_size)) (jump (a % field_size)))))))
    go true y z u v s t = tt
    go false true z u v s t = tt
    go false false true u true s t = tt
    go false false true u false true t = tt
    go false false true u false false t = tt
    go false false false true true s t = tt
    go false false false true false true t = tt
    go false false false true false false t = tt
    go false false false false v s true = tt
    go false false false false v s false = tt

-- words, end to end
pub words_join : (p q : Prog) → words_of (p ⧺ q) ≡ words_of p ++ words_of q
unfolding words_of ◌⧺◌
words_join end q = refl
words_join (i ▹ p) q = ap (λ (l : List ℕ). words_for i ++ l) (words_join p q) ∙ sym (append_assoc (words_for i) (words_of p) (words_of q))

pub words_snoc : (p : Prog) (j : Item) → words_of (p ⧺ (j ▹ end)) ≡ words_of p ++ words_for j
unfolding words_of
words_snoc p j = words_join p (j ▹ end) ∙ ap (λ (l : List ℕ). words_of p ++ l) (append-nil (words_for j))

pub last_snoc : (p : Prog) (j : Item) → last_of (p ⧺ (j ▹ end)) ≡ growing (jump_of j)
unfolding last_of ◌⧺◌
last_snoc end j = refl
last_snoc (i ▹ end) j = refl
last_snoc (i ▹ (k ▹ p)) j = last_snoc (k ▹ p) j

-- adding appends, but where jumps merge
pub add_appends : (p : Prog) (j : Item) → jump_of j ≡ none → add p j ≡ p ⧺ (j ▹ end)
unfolding add ◌⧺◌ pair_by
add_appends end j e = refl
add_appends (i ▹ end) j e = go (jump_of i)
  where
    go : (m : Maybe ℕ) → pair_by m (jump_of j) i j ≡ i ▹ j ▹ end
    go none = refl
    go (some m) = rw e
add_appends (i ▹ (k ▹ p)) j e = ap (λ (q : Prog). i ▹ q) (add_appends (k ▹ p) j e)

add_fixed : (p : Prog) (m : ℕ) → last_of p ≡ None → add p (jump m) ≡ p ⧺ (jump m ▹ end)
unfolding add ◌⧺◌ pair_by last_of growing jump_of
add_fixed end m e = refl
add_fixed (i ▹ end) m e = go (jump_of i) e
  where
    go : (l : Maybe ℕ) → growing l ≡ None → pair_by l (some m) i (jump m) ≡ i ▹ jump m ▹ end
    go none f = refl
    go (some l) f = let z : ◌≡◌ {A = ℕ} 0 1 = cc in absurd (omega arith)
add_fixed (i ▹ (k ▹ p)) m e = ap (λ (q : Prog). i ▹ q) (add_fixed (k ▹ p) m e)

add_over : (p : Prog) (l m : ℕ) → last_of p ≡ Some l → jump_limit < l + m → add p (jump m) ≡ p ⧺ (jump m ▹ end)
unfolding add ◌⧺◌ pair_by last_of growing jump_of
add_over end l m e h = let z : ◌≡◌ {A = ℕ} 0 1 = cc in absurd (omega arith)
add_over (i ▹ end) l m e h = go (jump_of i) e
  where
    go : (x : Maybe ℕ) → growing x ≡ Some l → pair_by x (some m) i (jump m) ≡ i ▹ jump m ▹ end
    go none f = refl
    go (some x) f = let z : x ≡ l = cc in rw (z, lt-leb (l + m) jump_limit h)
add_over (i ▹ (k ▹ p)) l m e h = ap (λ (q : Prog). i ▹ q) (add_over (k ▹ p) l m e h)

-- where they merge, the last word is another
Grown : Prog → ℕ → ℕ → Type 0
Grown p l m = (q : Prog) × (p ≡ q ⧺ (jump l ▹ end)) × (add p (jump m) ≡ q ⧺ (jump (l + m) ▹ end))

a_jump : (i : Item) (l : ℕ) → growing (jump_of i) ≡ Some l → i ≡ jump l
unfolding growing jump_of
a_jump (one t) l e = let z : ◌≡◌ {A = ℕ} 0 1 = cc in absurd (omega arith)
a_jump (jump n) l e = let z : n ≡ l = cc in ap jump z
a_jump (range a b) l e = let z : ◌≡◌ {A = ℕ} 0 1 = cc in absurd (omega arith)
a_jump (alt bs) l e = let z : ◌≡◌ {A = ℕ} 0 1 = cc in absurd (omega arith)

add_grown : (p : Prog) (l m : ℕ) → last_of p ≡ Some l → l + m ≤ jump_limit → Grown p l m
unfolding add ◌⧺◌ pair_by last_of jump_of Grown
add_grown end l m e h = let z : ◌≡◌ {A = ℕ} 0 1 = cc in absurd (omega arith)
add_grown (i ▹ end) l m e h = let j : i ≡ jump l = a_jump i l e in (end, ap (λ (x : Item). x ▹ end) j, rw (j, le-leb (l + m) jump_limit h))
add_grown (i ▹ (k ▹ p)) l m e h =
    let (q, f, g) = add_grown (k ▹ p) l m e h in
    (i ▹ q, ap (λ (x : Prog). i ▹ x) f, ap (λ (x : Prog). i ▹ x) g)

module _ (p : Prog) (o out : List ℕ) (n : ℕ) (last : Option ℕ) (h : Holds p o out n last) where
  room : n < length out → n < length o
  room r = let e = h.count in omega (arith, ap length h.front, length-append (words_of p) (drop n o), length-drop n o)

  -- an item of one word, appended
  append_holds : (j : Item) (w : ℕ) → add p j ≡ p ⧺ (j ▹ end) → words_for j ≡ w ∷ [] → n < length out → Holds (add p j) o (set out n w) (n + 1) (growing (jump_of j))
  append_holds j w e f r =
      let ws : words_of (add p j) ≡ words_of p ++ (w ∷ []) = ap words_of e ∙ words_snoc p j ∙ ap (λ (l : List ℕ). words_of p ++ l) f in
      let d : drop n o ≡ get_or o n 0 ∷ drop (suc n) o = drop-cons o n 0 (room r) in
      record {
        count = let k = h.count in omega (arith, ap length ws, length-append (words_of p) (w ∷ []));
        tail = sym (ap last_of e ∙ last_snoc p j);
        front =
            ap (λ (l : List ℕ). set l n w) (h.front ∙ ap (λ (l : List ℕ). words_of p ++ l) d)
            ∙ set_at (words_of p) (get_or o n 0) (drop (suc n) o) w n (sym h.count)
            ∙ sym (append_assoc (words_of p) (w ∷ []) (drop (suc n) o))
            ∙ ap₂ (λ (l : List ℕ) (k : ℕ). l ++ drop k o) (sym ws) (sym (add-one n));
      }

  -- a jump that grows
  grown_holds : (l m : ℕ) → last ≡ Some l → l + m ≤ jump_limit → Holds (add p (jump m)) o (set out (n - 1) (word 3 (l + m) 0)) n (Some (l + m))
  unfolding Grown words_of growing jump_of
  grown_holds l m e b =
      let (q, f, g) = add_grown p l m (sym h.tail ∙ e) b in
      let ws : words_of p ≡ words_of q ++ (word 3 l 0 ∷ []) = ap words_of f ∙ words_snoc q (jump l) in
      let vs : words_of (add p (jump m)) ≡ words_of q ++ (word 3 (l + m) 0 ∷ []) = ap words_of g ∙ words_snoc q (jump (l + m)) in
      let k : n ≡ nodes q + 1 = h.count ∙ ap length ws ∙ length-append (words_of q) (word 3 l 0 ∷ []) in
      let k1 : nodes q ≡ n - 1 = omega arith in
      record {
        count = k ∙ sym (ap length vs ∙ length-append (words_of q) (word 3 (l + m) 0 ∷ []));
        tail = sym (ap last_of g ∙ last_snoc q (jump (l + m)));
        front =
            ap (λ (x : List ℕ). set x (n - 1) (word 3 (l + m) 0)) (h.front ∙ ap (λ (x : List ℕ). x ++ drop n o) ws ∙ append_assoc (words_of q) (word 3 l 0 ∷ []) (drop n o))
            ∙ set_at (words_of q) (word 3 l 0) (drop n o) (word 3 (l + m) 0) (n - 1) k1
            ∙ sym (append_assoc (words_of q) (word 3 (l + m) 0 ∷ []) (drop n o))
            ∙ ap (λ (x : List ℕ). x ++ drop n o) (sym vs);
      }

  put_jump : (m : ℕ) (x : Option ℕ) → x ≡ last → n < length out → Holds (add p (jump m)) o (put_out out n x (Gap m)) (put_count n x (Gap m)) (put_last x (Gap m))
  unfolding put_out put_count put_last words_of growing jump_of
  put_jump m None e r = append_holds (jump m) (word 3 m 0) (add_fixed p m (sym h.tail ∙ sym e)) refl r
  put_jump m (Some l) e r = go (leb (l + m) jump_limit) refl
    where
      go : (t : Bool) → leb (l + m) jump_limit ≡ t → Holds (add p (jump m)) o (put_out out n (Some l) (Gap m)) (put_count n (Some l) (Gap m)) (put_last (Some l) (Gap m))
      go true f = rw f (grown_holds l m (sym e) (leb-true (l + m) jump_limit f))
      go false f = rw f (append_holds (jump m) (word 3 m 0) (add_over p l m (sym h.tail ∙ sym e) (leb-false (l + m) jump_limit f)) refl r)

  pub put_holds : (i : Item) → Single i → n < length out → Holds (add p i) o (put_out out n last (addend_of i)) (put_count n last (addend_of i)) (put_last last (addend_of i))
  unfolding put_out put_count put_last addend_of words_of growing jump_of
  put_holds (one t) s r = append_holds (one t) (word_for t) (add_appends p (one t) refl) refl r
  put_holds (jump m) s r = put_jump m last refl r
  put_holds (range a b) s r = append_holds (range a b) (word 4 a b) (add_appends p (range a b) refl) refl r
  put_holds (alt bs) s r = absurd s

pub put_count_le : (n : ℕ) (last : Option ℕ) (q : Addend) → put_count n last q ≤ n + 1
unfolding put_count
put_count_le n last (Word w) = omega arith
put_count_le n None (Gap m) = omega arith
put_count_le n (Some l) (Gap m) = go (leb (l + m) jump_limit)
  where
    go : (t : Bool) → cond t n (n + 1) ≤ n + 1
    go true = omega arith
    go false = omega arith

pub nothing_held : (o : List ℕ) → Holds end o o 0 None
unfolding words_of last_of
nothing_held o = record { count = refl; tail = refl; front = refl }
