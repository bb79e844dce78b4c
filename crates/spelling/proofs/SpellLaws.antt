-- The pieces of literal number k, from the entries. Assumes nothing.
use Rattle.std.proofs.Common.{◌≡◌, refl, sym, ap, ap₂, ◌∙◌, subst, List, [], ◌∷◌, ◌++◌, ℕ, ◌+◌, ◌-◌, ◌*◌, ◌/◌, ◌%◌, ◌≤◌, ◌<◌, arith, mul_comm, mul-one, div-one, mod-lt, length, get_or, drop, length-drop, lt-ltb, le-ltb}
use native.Mathlib.Nat.{div-div-eq-div-mul, mul-div_cancel_left, mod-one}
use Rattle.def_meaning.specs.Limits.{literal_limit}
use Rattle.def_meaning.specs.Tokens.{Tokens}
use Rattle.def_picking.specs.Literals.{taken}
use Rattle.def_picking.specs.Numbers.{count_of, count, count_in, prefix_of, prefixed, ending_of, ending, ending_in, literal_at}
use Rattle.def_picking.proofs.NumberLaws.{pos_right}
use Rattle.classes.specs.Entry.{entry_at, entry_token, token_of}
use Rattle.classes.specs.declared.Entry.{Entry}
use Rattle.classes.specs.declared.Entry.TheVariants.{Byte}
use Rattle.entries.specs.declared.Token.{Token}
use Rattle.entries.specs.declared.Token.TheVariants.{One}
use Rattle.entries.specs.Walks.{meant, IsFront, IsList}
use Rattle.entries.specs.Words.{first_entry, branch_in, lists_in, tokens_in}
use Rattle.entries.proofs.WalkLaws.{list_next, token_next, chunk_long, chunk_entry, chunk_left}
use Rattle.std.specs.Simd.{first_chunks}
use Rattle.def_meaning.specs.Tokens as meaning
use Rattle.entries.proofs.StepLaws.{branch_end, branch_step, lists_end, tokens_end, by_entries}
use Rattle.classes.proofs.EntryLaws.{one_cases}
use Rattle.classes.proofs.KindLaws.{entry_cases}
use Rattle.tallies.proofs.TallyLaws.{entry_count, one_count, byte_taken}
use Rattle.prefixes.proofs.PrefixLaws.{count_lists, entry_prefix, factor_le}

-- ---- lists

module _ (ws list rest : List ℕ) (f : IsList ws list rest) where
  ending_here : (p q : ℕ) → q < p * count (branch_in list) → ending_in (lists_in ws) p q ≡ literal_at (branch_in list) (q % count (branch_in list))
  unfolding ending_in
  ending_here p q l = rw (list_next ws list rest f) (rw (lt-ltb q (p * count (branch_in list)) l))

  ending_later : (p q : ℕ) → p * count (branch_in list) ≤ q → ending_in (lists_in ws) p q ≡ ending_in (lists_in rest) p (q - p * count (branch_in list))
  unfolding ending_in
  ending_later p q l = rw (list_next ws list rest f) (rw (le-ltb q (p * count (branch_in list)) l))

  pub ending_found : (p q n : ℕ) → n ≡ count (branch_in list) → q < p * n → ending_in (lists_in ws) p q ≡ literal_at (branch_in list) (q % n)
  ending_found p q n e l = ending_here p q (subst (λ (x : ℕ). q < p * x) e l) ∙ ap (λ (x : ℕ). literal_at (branch_in list) (q % x)) (sym e)

  pub ending_passed : (p q n : ℕ) → n ≡ count (branch_in list) → p * n ≤ q → ending_in (lists_in ws) p q ≡ ending_in (lists_in rest) p (q - p * n)
  ending_passed p q n e l = ending_later p q (subst (λ (x : ℕ). p * x ≤ q) e l) ∙ ap (λ (x : ℕ). ending_in (lists_in rest) p (q - p * x)) (sym e)

  pub within_list : (p q n : ℕ) → n ≡ count (branch_in list) → count_in (lists_in ws) ≤ literal_limit → q < p * n → (q % n < count (branch_in list)) × (count (branch_in list) ≤ literal_limit)
  within_list p q n e few l =
      let m : q % n < n = mod-lt q (pos_right q p n l) in
      (omega arith, omega (arith, count_lists ws list rest f))

pub ending_none : (ws : List ℕ) → length ws < 4 → (p q : ℕ) → ending_in (lists_in ws) p q ≡ []
unfolding ending_in
ending_none ws h p q = rw (lists_end ws h)

-- ---- an entry

entry_ending : (k v m : ℕ) (p q : ℕ) → ending_of (entry_token k v m) p q ≡ get_or (taken (entry_token k v m)) (q % count_of (entry_token k v m)) 0 ∷ []
unfolding ending_of
entry_ending =
    entry_cases (λ t. (p q : ℕ) → ending_of t p q ≡ get_or (taken t) (q % count_of t) 0 ∷ []) (λ v p q. refl) (λ v p q. refl) (λ v m p q. refl) (λ v m p q. refl) (λ p q. refl)

-- ---- lists without alternatives

pub branch_prefixed : (ws : List ℕ) (p k : ℕ) → prefixed (branch_in ws) p k ≡ k / count (branch_in ws)
unfolding prefixed count
branch_prefixed =
    by_entries (λ ws. (p k : ℕ) → prefixed (branch_in ws) p k ≡ k / count (branch_in ws)) (λ ws h p k. rw (branch_end ws h) (sym (div-one k)))
    (λ ws h e p k. rw (branch_step ws h) (step (get_or ws 0 0) (get_or ws 1 0) (get_or ws 2 0) (branch_in (drop 4 ws)) e p k))
  where
    step : (a b c : ℕ) (ts : Tokens) → ((p k : ℕ) → prefixed ts p k ≡ k / count ts) → (p k : ℕ)
        → prefix_of (entry_token a b c) p (prefixed ts (p * count_of (entry_token a b c)) k) ≡ k / (count_of (entry_token a b c) * count ts)
    step a b c ts e p k =
        entry_prefix a b c p (prefixed ts (p * count_of (entry_token a b c)) k) ∙ ap (λ (x : ℕ). x / count_of (entry_token a b c)) (e (p * count_of (entry_token a b c)) k)
        ∙ div-div-eq-div-mul k (count ts) (count_of (entry_token a b c)) ∙ ap (λ (x : ℕ). k / x) (mul_comm (count ts) (count_of (entry_token a b c)))

-- what is written of a list
pub branch_ending_end : (ws : List ℕ) (p k : ℕ) → length ws < 4 → ending (branch_in ws) p k ≡ []
unfolding ending
branch_ending_end ws p k h = rw (branch_end ws h)

pub branch_ending_step : (ws : List ℕ) (p k : ℕ) → 4 ≤ length ws
    → ending (branch_in ws) p k ≡ get_or (taken (first_entry ws)) (k / count (branch_in (drop 4 ws)) % count_of (first_entry ws)) 0 ∷ ending (branch_in (drop 4 ws)) (p * count_of (first_entry ws)) k
unfolding ending
branch_ending_step ws p k h =
    rw (branch_step ws h)
    (ap (λ (l : List ℕ). l ++ ending (branch_in (drop 4 ws)) (p * count_of (first_entry ws)) k)
    (entry_ending (get_or ws 0 0) (get_or ws 1 0) (get_or ws 2 0) p (prefixed (branch_in (drop 4 ws)) (p * count_of (first_entry ws)) k)
    ∙ ap (λ (x : ℕ). get_or (taken (first_entry ws)) (x % count_of (first_entry ws)) 0 ∷ []) (branch_prefixed (drop 4 ws) (p * count_of (first_entry ws)) k)))

-- the prefixes before a list are no matter
pub branch_any : (ws : List ℕ) (p q k : ℕ) → ending (branch_in ws) p k ≡ ending (branch_in ws) q k
branch_any =
    by_entries (λ ws. (p q k : ℕ) → ending (branch_in ws) p k ≡ ending (branch_in ws) q k) (λ ws h p q k. branch_ending_end ws p k h ∙ sym (branch_ending_end ws q k h))
    (λ ws h e p q k.
    branch_ending_step ws p k h
    ∙ ap (λ (l : List ℕ). get_or (taken (first_entry ws)) (k / count (branch_in (drop 4 ws)) % count_of (first_entry ws)) 0 ∷ l) (e (p * count_of (first_entry ws)) (q * count_of (first_entry ws)) k)
    ∙ sym (branch_ending_step ws q k h))

pub branch_more : (ws : List ℕ) (k : ℕ) → 4 ≤ length ws
    → literal_at (branch_in ws) k ≡ get_or (taken (first_entry ws)) (k / count (branch_in (drop 4 ws)) % count_of (first_entry ws)) 0 ∷ literal_at (branch_in (drop 4 ws)) k
branch_more ws k h =
    branch_ending_step ws 1 k h
    ∙ ap (λ (l : List ℕ). get_or (taken (first_entry ws)) (k / count (branch_in (drop 4 ws)) % count_of (first_entry ws)) 0 ∷ l) (branch_any (drop 4 ws) (1 * count_of (first_entry ws)) 1 k)

pub branch_count : (ws : List ℕ) → 4 ≤ length ws → count (branch_in ws) ≡ count_of (first_entry ws) * count (branch_in (drop 4 ws))
unfolding count
branch_count ws h = rw (branch_step ws h)

-- ---- tokens

one_ending_by : (e : Entry) (p q : ℕ) → ending_of (token_of e) p q ≡ get_or (taken (token_of e)) (q % count_of (token_of e)) 0 ∷ []
unfolding ending_of
one_ending_by =
    one_cases (λ t. (p q : ℕ) → ending_of t p q ≡ get_or (taken t) (q % count_of t) 0 ∷ []) (λ v p q. refl) (λ v p q. refl) (λ v m p q. refl) (λ v m p q. refl) (λ p q. refl)

pub one_ending : (e : Entry) (p q : ℕ) → ending_of (token_of e) p q ≡ get_or (taken (token_of e)) (q % length (taken (token_of e))) 0 ∷ []
one_ending e p q = one_ending_by e p q ∙ ap (λ (n : ℕ). get_or (taken (token_of e)) (q % n) 0 ∷ []) (one_count e)

pub byte_ending : (b p q : ℕ) → ending_of (token_of (Byte b)) p q ≡ b ∷ []
unfolding taken
byte_ending b p q = one_ending (Byte b) p q ∙ ap (λ (x : ℕ). get_or (b ∷ []) x 0 ∷ []) (mod-one q)

pub ending_end : (ws : List ℕ) → length ws < 4 → (p k : ℕ) → ending (tokens_in ws) p k ≡ []
unfolding ending
ending_end ws h p k = rw (tokens_end ws h)

pub ending_step : (ws : List ℕ) (t : Token) (rest : List ℕ) → IsFront ws t rest → (p k : ℕ)
    → ending (tokens_in ws) p k ≡ ending_of (meant t) p (prefixed (tokens_in rest) (p * count_of (meant t)) k) ++ ending (tokens_in rest) (p * count_of (meant t)) k
unfolding ending
ending_step ws t rest f p k = rw (token_next ws t rest f)

-- ---- in the words of the code

-- one byte of a list: c bytes are taken by the first entry, n literals are left
module _ (ws : List ℕ) (h : 4 ≤ length ws) (c n : ℕ) (c-is : c ≡ length (taken (first_entry ws))) (n-is : n ≡ count (branch_in ws)) (some : 0 < n) (few : n ≤ literal_limit) where
  product : c * count (branch_in (drop 4 ws)) ≡ n
  product =
      ap (λ (x : ℕ). x * count (branch_in (drop 4 ws))) (c-is ∙ sym (entry_count (get_or ws 0 0) (get_or ws 1 0) (get_or ws 2 0))) ∙ sym (branch_count ws h) ∙ sym n-is

  pub c_some : 0 < c
  c_some = (factor_le c (count (branch_in (drop 4 ws))) n product some).0

  pub rest_some : 0 < count (branch_in (drop 4 ws))
  rest_some = (factor_le c (count (branch_in (drop 4 ws))) n product some).1

  pub rest_few : count (branch_in (drop 4 ws)) ≤ literal_limit
  rest_few = let l = (factor_le c (count (branch_in (drop 4 ws))) n product some).3 in omega arith

  pub rest_is : n / c ≡ count (branch_in (drop 4 ws))
  rest_is = ap (λ (x : ℕ). x / c) (sym product) ∙ mul-div_cancel_left (count (branch_in (drop 4 ws))) c_some

  pub digit_fits : (k : ℕ) → k / (n / c) % c < length (taken (first_entry ws))
  digit_fits k = let l : k / (n / c) % c < c = mod-lt (k / (n / c)) c_some in omega arith

  pub byte_first : (k : ℕ) → literal_at (branch_in ws) k ≡ get_or (taken (first_entry ws)) (k / (n / c) % c) 0 ∷ literal_at (branch_in (drop 4 ws)) k
  byte_first k =
      branch_more ws k h
      ∙ ap₂ (λ (x y : ℕ). get_or (taken (first_entry ws)) (k / x % y) 0 ∷ literal_at (branch_in (drop 4 ws)) k) (sym rest_is)
      (entry_count (get_or ws 0 0) (get_or ws 1 0) (get_or ws 2 0) ∙ sym c-is)

-- the same of the chunk with number i
module _ (ws : List ℕ) (i : ℕ) (head : List ℕ) (h : i < length ws / 4) (e : head ≡ get_or (first_chunks 4 (length ws / 4) ws) i []) (x : Entry) (x-is : token_of x ≡ entry_at head)
    (c n : ℕ) (c-is : c ≡ length (taken (token_of x))) (n-is : n ≡ count (branch_in (drop (4 * i) ws))) (some : 0 < n) (few : n ≤ literal_limit) where
  long : 4 ≤ length (drop (4 * i) ws)
  long = chunk_long ws i head h e

  same : token_of x ≡ first_entry (drop (4 * i) ws)
  same = x-is ∙ chunk_entry ws i head h e

  so_many : c ≡ length (taken (first_entry (drop (4 * i) ws)))
  so_many = c-is ∙ ap (λ t. length (taken t)) same

  pub chunk_some : 0 < c
  chunk_some = c_some (drop (4 * i) ws) long c n so_many n-is some few

  pub chunk_rest : n / c ≡ count (branch_in (drop (4 * (i + 1)) ws))
  chunk_rest = rest_is (drop (4 * i) ws) long c n so_many n-is some few ∙ ap (λ (l : List ℕ). count (branch_in l)) (chunk_left ws i head h e)

  pub chunk_rest_some : 0 < n / c
  chunk_rest_some = omega (arith, rest_is (drop (4 * i) ws) long c n so_many n-is some few, rest_some (drop (4 * i) ws) long c n so_many n-is some few)

  pub chunk_rest_few : n / c ≤ literal_limit
  chunk_rest_few = omega (arith, rest_is (drop (4 * i) ws) long c n so_many n-is some few, rest_few (drop (4 * i) ws) long c n so_many n-is some few)

  pub chunk_digit : (k : ℕ) → k / (n / c) % c < length (taken (token_of x))
  chunk_digit k = let l : k / (n / c) % c < c = mod-lt (k / (n / c)) chunk_some in omega arith

  pub chunk_byte : (k : ℕ) → literal_at (branch_in (drop (4 * i) ws)) k ≡ get_or (taken (token_of x)) (k / (n / c) % c) 0 ∷ literal_at (branch_in (drop (4 * (i + 1)) ws)) k
  chunk_byte k =
      byte_first (drop (4 * i) ws) long c n so_many n-is some few k
      ∙ ap₂ (λ (t : meaning.Token) (l : List ℕ). get_or (taken t) (k / (n / c) % c) 0 ∷ literal_at (branch_in l) k) (sym same) (chunk_left ws i head h e)

-- the same where the entry is a byte, which leaves as many literals
byte_is : (b : ℕ) → get_or (taken (token_of (Byte b))) 0 0 ≡ b
unfolding taken
byte_is b = refl

module _ (ws : List ℕ) (i : ℕ) (head : List ℕ) (h : i < length ws / 4) (e : head ≡ get_or (first_chunks 4 (length ws / 4) ws) i []) (x : Entry) (x-is : token_of x ≡ entry_at head)
    (b n : ℕ) (g : x ≡ Byte b) (n-is : n ≡ count (branch_in (drop (4 * i) ws))) (some : 0 < n) (few : n ≤ literal_limit) where
  single : 1 ≡ length (taken (token_of x))
  single = sym (ap (λ (y : Entry). length (taken (token_of y))) g ∙ byte_taken b)

  pub byte_chunk_rest : n ≡ count (branch_in (drop (4 * (i + 1)) ws))
  byte_chunk_rest = sym (div-one n) ∙ chunk_rest ws i head h e x x-is 1 n single n-is some few

  pub byte_chunk : (k : ℕ) → literal_at (branch_in (drop (4 * i) ws)) k ≡ b ∷ literal_at (branch_in (drop (4 * (i + 1)) ws)) k
  byte_chunk k =
      chunk_byte ws i head h e x x-is 1 n single n-is some few k
      ∙ ap (λ (y : Entry). get_or (taken (token_of y)) (k / (n / 1) % 1) 0 ∷ literal_at (branch_in (drop (4 * (i + 1)) ws)) k) g
      ∙ ap (λ (v : ℕ). v ∷ literal_at (branch_in (drop (4 * (i + 1)) ws)) k) (ap (λ (j : ℕ). get_or (taken (token_of (Byte b))) j 0) (mod-one (k / (n / 1))) ∙ byte_is b)

pub chunks_end : (ws : List ℕ) (i k : ℕ) → i ≡ length ws / 4 → literal_at (branch_in (drop (4 * i) ws)) k ≡ []
chunks_end ws i k e = branch_ending_end (drop (4 * i) ws) 1 k (omega (arith, length-drop (4 * i) ws))

-- a token's piece, asked for by any number that gives it
pub next_piece : (ws : List ℕ) (t : Token) (rest : List ℕ) → IsFront ws t rest → (p k q n : ℕ) → n ≡ count_of (meant t)
    → ending_of (meant t) p q ≡ ending_of (meant t) p (prefixed (tokens_in rest) (p * n) k)
    → ending (tokens_in ws) p k ≡ ending_of (meant t) p q ++ ending (tokens_in rest) (p * n) k
next_piece ws t rest f p k q n e g =
    ending_step ws t rest f p k
    ∙ ap (λ (x : ℕ). ending_of (meant t) p (prefixed (tokens_in rest) (p * x) k) ++ ending (tokens_in rest) (p * x) k) (sym e)
    ∙ ap (λ (l : List ℕ). l ++ ending (tokens_in rest) (p * n) k) (sym g)

-- a byte is its own piece, and leaves as many prefixes
byte_counts : (b : ℕ) → count_of (token_of (Byte b)) ≡ 1
byte_counts b = one_count (Byte b) ∙ byte_taken b

pub byte_piece : (ws : List ℕ) (t : Token) (rest : List ℕ) → IsFront ws t rest → (b : ℕ) → t ≡ One (Byte b) → (p k : ℕ)
    → ending (tokens_in ws) p k ≡ b ∷ ending (tokens_in rest) p k
byte_piece ws t rest f b e p k =
    ending_step ws t rest f p k
    ∙ ap (λ (s : Token). ending_of (meant s) p (prefixed (tokens_in rest) (p * count_of (meant s)) k) ++ ending (tokens_in rest) (p * count_of (meant s)) k) e
    ∙ ap (λ (n : ℕ). ending_of (token_of (Byte b)) p (prefixed (tokens_in rest) n k) ++ ending (tokens_in rest) n k) (ap (λ (c : ℕ). p * c) (byte_counts b) ∙ mul-one p)
    ∙ ap (λ (l : List ℕ). l ++ ending (tokens_in rest) p k) (byte_ending b p (prefixed (tokens_in rest) p k))

-- a token of one entry: its ending is one byte
pub one_some : (e : Entry) (n : ℕ) → n ≡ length (taken (token_of e)) → 0 < count_of (token_of e) → 0 < n
one_some e n f h = let a = one_count e in omega arith

pub one_room : (e : Entry) (p q room : ℕ) → length (ending_of (token_of e) p q) ≤ room → 0 < room
one_room e p q room l = let a : length (ending_of (token_of e) p q) ≡ 1 = ap length (one_ending e p q) in omega arith

pub number_fits : (e : Entry) (q n : ℕ) → n ≡ length (taken (token_of e)) → 0 < n → q % n < length (taken (token_of e))
number_fits e q n f z = let l : q % n < n = mod-lt q z in omega arith

pub ending_is : (e : Entry) (p q n b : ℕ) → n ≡ length (taken (token_of e)) → b ≡ get_or (taken (token_of e)) (q % n) 0 → ending_of (token_of e) p q ≡ b ∷ []
ending_is e p q n b f g = one_ending e p q ∙ ap (λ (x : ℕ). get_or (taken (token_of e)) (q % x) 0 ∷ []) (sym f) ∙ ap (λ (x : ℕ). x ∷ []) (sym g)
