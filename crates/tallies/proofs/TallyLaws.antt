-- Counts, combinations and lengths of entries. What exceeds 256 is counted as 257. Assumes nothing.
use Rattle.std.proofs.Common.{◌≡◌, refl, sym, ap, ap₂, ◌∙◌, Bool, true, false, ◌⊎◌, inl, inr, ⊎_elim, List, ℕ, zero, suc, ◌+◌, ◌-◌, ◌*◌, ◌/◌, ◌≤◌, ◌<◌, min, arith, mul-zero, mul-one, mul_comm, mul_assoc, le-mul_of_pos_right, ltb, length, get_or, take, drop, length-take, length-drop}
use Rattle.tallies.specs.Tallies.{count_top}
use Rattle.def_picking.specs.Literals.{taken, combinations_of, combinations, combinations_in, length_of, length_in, shortest, shorter}
use Rattle.def_picking.specs.Numbers.{count_of, count, count_in}
use Rattle.classes.specs.Entry.{entry_at, entry_token, token_of}
use Rattle.classes.specs.declared.Entry.{Entry}
use Rattle.classes.specs.declared.Entry.TheVariants.{Byte}
use Rattle.entries.specs.declared.Token.{Token}
use Rattle.entries.specs.declared.Token.TheVariants.{One}
use Rattle.entries.specs.Walks.{meant, IsFront, IsList}
use Rattle.entries.proofs.WalkLaws.{entry_front, list_next, token_next}
use Rattle.classes.proofs.EntryLaws.{one_cases}
use Rattle.entries.specs.Words.{branch_in, ends, inside, lists_in, tokens_in}
use Rattle.tallies.specs.Tallies.{Tallied}
use Rattle.entries.proofs.StepLaws.{branch_end, branch_step, lists_end, tokens_end, by_entries, ends_le}
use Rattle.classes.proofs.KindLaws.{entry_cases}

-- ---- capped products

le_or : (a b : ℕ) → (a ≤ b) ⊎ (b < a)
le_or a b = go (ltb b a) refl
  where
    go : (t : Bool) → ltb b a ≡ t → (a ≤ b) ⊎ (b < a)
    go true e = inr (borrow.Author.Tests.ltb-true b a e)
    go false e = inl (borrow.Author.Tests.ltb-false b a e)

pub cap_left : (x y : ℕ) → min count_top (x * y) ≡ min count_top (min count_top x * y)
cap_left x zero = ap (min count_top) (mul-zero x ∙ sym (mul-zero (min count_top x)))
cap_left x (suc y) =
    ⊎_elim (λ (l : x ≤ count_top). let e : min count_top x ≡ x = omega arith in ap (λ (n : ℕ). min count_top (n * suc y)) (sym e))
    (λ (l : count_top < x).
    let e : min count_top x ≡ count_top = omega arith in
    let a : x ≤ x * suc y = le-mul_of_pos_right x (omega arith) in
    let b : count_top ≤ count_top * suc y = le-mul_of_pos_right count_top (omega arith) in
    let f : min count_top (x * suc y) ≡ count_top = omega arith in
    let g : min count_top (count_top * suc y) ≡ count_top = omega arith in
    f ∙ sym (ap (λ (n : ℕ). min count_top (n * suc y)) e ∙ g))
    (le_or x count_top)

pub cap_right : (x y : ℕ) → min count_top (x * y) ≡ min count_top (x * min count_top y)
cap_right x y = ap (min count_top) (mul_comm x y) ∙ cap_left y x ∙ ap (min count_top) (mul_comm (min count_top y) x)

-- one more factor, itself capped
pub cap_more : (n c r : ℕ) → min count_top (n * (c * r)) ≡ min count_top (min count_top (n * min count_top c) * r)
cap_more n c r = ap (min count_top) (sym (mul_assoc n c r)) ∙ cap_left (n * c) r ∙ ap (λ (x : ℕ). min count_top (x * r)) (cap_right n c)

pub cap_small : (n : ℕ) → n ≤ count_top → min count_top (n * 1) ≡ n
cap_small n h = let e : n * 1 ≡ n = mul-one n in omega arith

pub cap_none : (n : ℕ) → n ≤ count_top → min count_top (n + 0) ≡ n
cap_none n h = omega arith

pub cap_sum : (n c r : ℕ) → min count_top (n + (c + r)) ≡ min count_top (min count_top (n + min count_top c) + r)
cap_sum n c r = omega arith

-- ---- an entry

pub entry_count : (k v m : ℕ) → count_of (entry_token k v m) ≡ length (taken (entry_token k v m))
unfolding count_of
entry_count = entry_cases (λ t. count_of t ≡ length (taken t)) (λ v. refl) (λ v. refl) (λ v m. refl) (λ v m. refl) refl

pub entry_combinations : (k v m : ℕ) → combinations_of (entry_token k v m) ≡ count_of (entry_token k v m)
unfolding count_of combinations_of taken
entry_combinations = entry_cases (λ t. combinations_of t ≡ count_of t) (λ v. refl) (λ v. refl) (λ v m. refl) (λ v m. refl) refl

pub entry_length : (k v m : ℕ) → length_of (entry_token k v m) ≡ 1
unfolding length_of
entry_length = entry_cases (λ t. length_of t ≡ 1) (λ v. refl) (λ v. refl) (λ v m. refl) (λ v m. refl) refl

-- ---- lists without alternatives

pub branch_count_end : (n : ℕ) (ws : List ℕ) → n ≤ count_top → length ws < 4 → min count_top (n * count (branch_in ws)) ≡ n
unfolding count
branch_count_end n ws h l = rw (branch_end ws l) (cap_small n h)

pub byte_taken : (b : ℕ) → length (taken (token_of (Byte b))) ≡ 1
unfolding taken
byte_taken b = refl

-- what the first entry takes comes into the count
module _ (n : ℕ) (ws head rest : List ℕ) (long : 4 ≤ length ws) (head-is : head ≡ take 4 ws) (rest-is : rest ≡ drop 4 ws) where
  pub branch_count_more : (c : ℕ) → c ≡ length (taken (entry_at head)) → c ≤ 256 → min count_top (n * count (branch_in ws)) ≡ min count_top (min count_top (n * c) * count (branch_in rest))
  unfolding count
  branch_count_more c e l =
      let k : c ≡ min count_top (count_of (entry_at ws)) =
      (let g = entry_count (get_or ws 0 0) (get_or ws 1 0) (get_or ws 2 0) in let f = ap (λ t. length (taken t)) (entry_front ws head head-is) in omega arith) in
      rw (branch_step ws long, k, rest-is) (cap_more n (count_of (entry_at ws)) (count (branch_in (drop 4 ws))))

  -- a byte leaves it as it is
  pub branch_count_byte : (x : Entry) (b : ℕ) → n ≤ count_top → token_of x ≡ entry_at head → x ≡ Byte b → min count_top (n * count (branch_in ws)) ≡ min count_top (n * count (branch_in rest))
  branch_count_byte x b h f g =
      branch_count_more 1 (sym (byte_taken b) ∙ ap (λ (y : Entry). length (taken (token_of y))) (sym g) ∙ ap (λ t. length (taken t)) f) (omega arith)
      ∙ ap (λ (m : ℕ). min count_top (m * count (branch_in rest))) (cap_small n h)

pub branch_combinations : (ws : List ℕ) → combinations (branch_in ws) ≡ count (branch_in ws)
unfolding count combinations
branch_combinations =
    by_entries (λ ws. combinations (branch_in ws) ≡ count (branch_in ws)) (λ ws h. rw (branch_end ws h) refl)
    (λ ws h e. rw (branch_step ws h) (ap₂ ◌*◌ (entry_combinations (get_or ws 0 0) (get_or ws 1 0) (get_or ws 2 0)) e))

pub branch_length : (ws : List ℕ) → length_in (branch_in ws) ≡ length ws / 4
unfolding length_in
branch_length =
    by_entries (λ ws. length_in (branch_in ws) ≡ length ws / 4) (λ ws h. rw (branch_end ws h) (omega arith))
    (λ ws h e. rw (branch_step ws h) (let l = entry_length (get_or ws 0 0) (get_or ws 1 0) (get_or ws 2 0) in omega (arith, length-drop 4 ws)))

-- ---- lists after their marks

module _ (ws list rest : List ℕ) (f : IsList ws list rest) (m n : ℕ) (e : m ≡ min count_top (count (branch_in list))) where
  pub lists_count_more : min count_top (n + count_in (lists_in ws)) ≡ min count_top (min count_top (n + m) + count_in (lists_in rest))
  unfolding count
  lists_count_more = rw (list_next ws list rest f, e) (cap_sum n (count (branch_in list)) (count_in (lists_in rest)))

  pub lists_combinations_more : min count_top (n * combinations_in (lists_in ws)) ≡ min count_top (min count_top (n * m) * combinations_in (lists_in rest))
  unfolding combinations
  lists_combinations_more =
      rw (list_next ws list rest f, e, branch_combinations list) (cap_more n (count (branch_in list)) (combinations_in (lists_in rest)))

module _ (ws list rest : List ℕ) (f : IsList ws list rest) where
  pub lists_shorter : (n : ℕ) → shorter (lists_in ws) n ≡ shorter (lists_in rest) (min n (length list / 4))
  unfolding shorter
  lists_shorter n = rw (list_next ws list rest f) (ap (λ (x : ℕ). shorter (lists_in rest) (min n x)) (branch_length list))

  pub lists_shortest : shortest (lists_in ws) ≡ shorter (lists_in rest) (length list / 4)
  unfolding shorter
  lists_shortest = rw (list_next ws list rest f) (ap (shorter (lists_in rest)) (branch_length list))

pub length_inside : (ws : List ℕ) → 4 ≤ length ws → length (inside ws) ≡ ends ws - 4
length_inside ws h = length-take (ends ws - 4) (drop 4 ws) ∙ (let a = length-drop 4 ws in let b = ends_le ws in omega arith)

module _ (ws : List ℕ) (h : length ws < 4) where
  pub lists_count_end : (n : ℕ) → n ≤ count_top → min count_top (n + count_in (lists_in ws)) ≡ n
  unfolding count
  lists_count_end n l = rw (lists_end ws h) (cap_none n l)

  pub lists_combinations_end : (n : ℕ) → n ≤ count_top → min count_top (n * combinations_in (lists_in ws)) ≡ n
  unfolding combinations
  lists_combinations_end n l = rw (lists_end ws h) (cap_small n l)

  pub lists_shorter_end : (n : ℕ) → shorter (lists_in ws) n ≡ n
  unfolding shorter
  lists_shorter_end n = rw (lists_end ws h)

  pub lists_shortest_end : shortest (lists_in ws) ≡ 0
  unfolding shorter
  lists_shortest_end = rw (lists_end ws h)

-- ---- tokens

module _ (ws : List ℕ) (t : Token) (rest : List ℕ) (f : IsFront ws t rest) where
  pub tokens_count_more : (m n : ℕ) → m ≡ min count_top (count_of (meant t)) → min count_top (n * count (tokens_in ws)) ≡ min count_top (min count_top (n * m) * count (tokens_in rest))
  unfolding count
  tokens_count_more m n e = rw (token_next ws t rest f, e) (cap_more n (count_of (meant t)) (count (tokens_in rest)))

  pub tokens_combinations_more : (m n : ℕ) → m ≡ min count_top (combinations_of (meant t)) → min count_top (n * combinations (tokens_in ws)) ≡ min count_top (min count_top (n * m) * combinations (tokens_in rest))
  unfolding combinations
  tokens_combinations_more m n e = rw (token_next ws t rest f, e) (cap_more n (combinations_of (meant t)) (combinations (tokens_in rest)))

  pub tokens_length_more : length_in (tokens_in ws) ≡ length_of (meant t) + length_in (tokens_in rest)
  unfolding length_in
  tokens_length_more = rw (token_next ws t rest f)

module _ (ws : List ℕ) (h : length ws < 4) where
  pub tokens_count_end : (n : ℕ) → n ≤ count_top → min count_top (n * count (tokens_in ws)) ≡ n
  unfolding count
  tokens_count_end n l = rw (tokens_end ws h) (cap_small n l)

  pub tokens_combinations_end : (n : ℕ) → n ≤ count_top → min count_top (n * combinations (tokens_in ws)) ≡ n
  unfolding combinations
  tokens_combinations_end n l = rw (tokens_end ws h) (cap_small n l)

  pub tokens_length_end : length_in (tokens_in ws) ≡ 0
  unfolding length_in
  tokens_length_end = rw (tokens_end ws h)

-- ---- the code's token

pub one_count : (e : Entry) → count_of (token_of e) ≡ length (taken (token_of e))
unfolding count_of
one_count = one_cases (λ t. count_of t ≡ length (taken t)) (λ v. refl) (λ v. refl) (λ v m. refl) (λ v m. refl) refl

one_combinations : (e : Entry) → combinations_of (token_of e) ≡ count_of (token_of e)
unfolding count_of combinations_of taken
one_combinations = one_cases (λ t. combinations_of t ≡ count_of t) (λ v. refl) (λ v. refl) (λ v m. refl) (λ v m. refl) refl

pub one_length : (e : Entry) → length_of (token_of e) ≡ 1
unfolding length_of
one_length = one_cases (λ t. length_of t ≡ 1) (λ v. refl) (λ v. refl) (λ v m. refl) (λ v m. refl) refl

pub one_tallied : (e : Entry) (n : ℕ) → n ≡ length (taken (token_of e)) → n ≤ 256 → Tallied (record { literals = n; combinations = n }) (count_of (token_of e)) (combinations_of (token_of e))
one_tallied e n f l =
    let a = one_count e in
    let b = one_combinations e in
    record { literals_are = (omega arith); combinations_are = (omega arith) }

-- a byte leaves counts as they are
module _ (ws : List ℕ) (t : Token) (rest : List ℕ) (f : IsFront ws t rest) (b : ℕ) (e : t ≡ One (Byte b)) (n : ℕ) (h : n ≤ count_top) where
  pub byte_count_more : min count_top (n * count (tokens_in ws)) ≡ min count_top (n * count (tokens_in rest))
  byte_count_more =
      tokens_count_more ws t rest f 1 n (rw e (omega (arith, one_count (Byte b), byte_taken b))) ∙ ap (λ (m : ℕ). min count_top (m * count (tokens_in rest))) (cap_small n h)

  pub byte_combinations_more : min count_top (n * combinations (tokens_in ws)) ≡ min count_top (n * combinations (tokens_in rest))
  byte_combinations_more =
      tokens_combinations_more ws t rest f 1 n (rw e (omega (arith, one_combinations (Byte b), one_count (Byte b), byte_taken b)))
      ∙ ap (λ (m : ℕ). min count_top (m * combinations (tokens_in rest))) (cap_small n h)
