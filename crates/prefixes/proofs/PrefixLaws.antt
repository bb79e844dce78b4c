-- Prefixes, from the entries. Assumes nothing.
use Rattle.std.proofs.Common.{◌≡◌, refl, sym, ap, ◌∙◌, subst, List, [], ◌∷◌, ℕ, zero, suc, ◌+◌, ◌-◌, ◌*◌, ◌/◌, ◌%◌, ◌≤◌, ◌<◌, min, arith, mul-zero, mul-one, one-mul, mul_comm, mul_assoc, le-mul_of_pos_right, div-one, length, get_or, replicate, lt-ltb, le-ltb}
use native.Mathlib.Nat.{div-zero, mod-one}
use lib.ListN.{length-replicate}
use Rattle.def_meaning.specs.Limits.{literal_limit}
use Rattle.tallies.specs.Tallies.{count_top}
use Rattle.def_meaning.specs.Tokens as meaning
use Rattle.def_meaning.specs.Tokens.{Tokens, Lists, NotByte, MaskedByte, NotMaskedByte, Jump, Alternatives, neither, ◌or◌}
use Rattle.def_picking.specs.Literals.{taken}
use Rattle.def_picking.specs.Numbers.{count_of, count, count_in, prefix_in, prefix_of, prefixed, ending_of, ending, ending_in}
use Rattle.def_picking.proofs.NumberLaws.{pos_right, spelt_numbered}
use Rattle.classes.specs.declared.Entry.{Entry}
use Rattle.classes.specs.declared.Entry.TheVariants.{Byte}
use Rattle.classes.specs.Entry.{entry_token, token_of}
use Rattle.entries.specs.declared.Token.{Token}
use Rattle.entries.specs.declared.Token.TheVariants.{One}
use Rattle.entries.specs.Walks.{meant, IsFront, IsList}
use Rattle.entries.proofs.WalkLaws.{list_next, token_next, token_words}
use Rattle.entries.specs.Words.{branch_in, lists_in, tokens_in}
use Rattle.entries.proofs.StepLaws.{lists_end, tokens_end}
use Rattle.prefixes.specs.Numbers.{Numerable, Past}
use Rattle.std.specs.Prelude.{Option, Some, None}
use Rattle.std.specs.Option.{SomeIff, unwrap_or}
use Rattle.classes.proofs.EntryLaws.{one_cases}
use Rattle.classes.proofs.KindLaws.{entry_cases}

-- ---- lists

module _ (ws list rest : List ℕ) (f : IsList ws list rest) where
  pub count_lists : count_in (lists_in ws) ≡ count (branch_in list) + count_in (lists_in rest)
  unfolding count
  count_lists = rw (list_next ws list rest f)

  prefix_here : (p q : ℕ) → q < p * count (branch_in list) → prefix_in (lists_in ws) p q ≡ q / count (branch_in list)
  unfolding prefix_in
  prefix_here p q l = rw (list_next ws list rest f) (rw (lt-ltb q (p * count (branch_in list)) l))

  prefix_later : (p q : ℕ) → p * count (branch_in list) ≤ q → prefix_in (lists_in ws) p q ≡ prefix_in (lists_in rest) p (q - p * count (branch_in list))
  unfolding prefix_in
  prefix_later p q l = rw (list_next ws list rest f) (rw (le-ltb q (p * count (branch_in list)) l))

  pub list_exact : (n : ℕ) → n ≡ min count_top (count (branch_in list)) → count_in (lists_in ws) ≤ literal_limit → n ≡ count (branch_in list)
  list_exact n e few = omega (arith, count_lists)

  pub lists_few : count_in (lists_in ws) ≤ literal_limit → count_in (lists_in rest) ≤ literal_limit
  lists_few few = omega (arith, count_lists)

  pub prefix_found : (p q n : ℕ) → n ≡ count (branch_in list) → q < p * n → prefix_in (lists_in ws) p q ≡ q / n
  prefix_found p q n e l = prefix_here p q (subst (λ (x : ℕ). q < p * x) e l) ∙ ap (λ (x : ℕ). q / x) (sym e)

  pub prefix_passed : (p q n : ℕ) → n ≡ count (branch_in list) → p * n ≤ q → prefix_in (lists_in ws) p q ≡ prefix_in (lists_in rest) p (q - p * n)
  prefix_passed p q n e l = prefix_later p q (subst (λ (x : ℕ). p * x ≤ q) e l) ∙ ap (λ (x : ℕ). prefix_in (lists_in rest) p (q - p * x)) (sym e)

pub prefix_end : (ws : List ℕ) → length ws < 4 → (p q : ℕ) → prefix_in (lists_in ws) p q ≡ 0
unfolding prefix_in
prefix_end ws h p q = rw (lists_end ws h)

-- ---- an entry

pub entry_prefix : (k v m : ℕ) (p q : ℕ) → prefix_of (entry_token k v m) p q ≡ q / count_of (entry_token k v m)
unfolding prefix_of
entry_prefix =
    entry_cases (λ t. (p q : ℕ) → prefix_of t p q ≡ q / count_of t) (λ v p q. refl) (λ v p q. refl) (λ v m p q. refl) (λ v m p q. refl) (λ p q. refl)

pub one_prefix : (e : Entry) (p q : ℕ) → prefix_of (token_of e) p q ≡ q / count_of (token_of e)
unfolding prefix_of
one_prefix = one_cases (λ t. (p q : ℕ) → prefix_of t p q ≡ q / count_of t) (λ v p q. refl) (λ v p q. refl) (λ v m p q. refl) (λ v m p q. refl) (λ p q. refl)

-- a division that gives 0 where it is by 0
pub checked : (r : Option ℕ) (q n : ℕ) → SomeIff r (0 < n) (q / n) → unwrap_or r 0 ≡ q / n
checked None q n h = let z : n ≡ 0 = omega (arith, h) in sym (rw z (div-zero q))
checked (Some x) q n h = h.1

-- ---- tokens

pub prefixed_end : (ws : List ℕ) → length ws < 4 → (p k : ℕ) → prefixed (tokens_in ws) p k ≡ k
unfolding prefixed
prefixed_end ws h p k = rw (tokens_end ws h)

module _ (ws : List ℕ) (t : Token) (rest : List ℕ) (f : IsFront ws t rest) where
  pub prefixed_step : (p k : ℕ) → prefixed (tokens_in ws) p k ≡ prefix_of (meant t) p (prefixed (tokens_in rest) (p * count_of (meant t)) k)
  unfolding prefixed
  prefixed_step p k = rw (token_next ws t rest f)

  pub tokens_count : count (tokens_in ws) ≡ count_of (meant t) * count (tokens_in rest)
  unfolding count
  tokens_count = rw (token_next ws t rest f)

-- ---- numbers

-- a factor of a product that is not 0 is at most the product
pub factor_le : (a b n : ℕ) → a * b ≡ n → 0 < n → (0 < a) × (0 < b) × (a ≤ n) × (b ≤ n)
factor_le a b n e h =
    let z : 0 < b = pos_right 0 a b (omega arith) in
    let y : 0 < a = pos_right 0 b a (let c = mul_comm b a in omega arith) in
    let l : a ≤ a * b = le-mul_of_pos_right a z in
    let m : b ≤ b * a = le-mul_of_pos_right b y in
    let c = mul_comm b a in
    (y, z, omega arith, omega arith)

-- at a token: p prefixes before it, and c literals of its own
module _ (ws : List ℕ) (t : Token) (rest : List ℕ) (f : IsFront ws t rest) (p : ℕ) (num : Numerable p (count (tokens_in ws))) (c : ℕ) (c-is : c ≡ min count_top (count_of (meant t))) where
  token_product : p * (count_of (meant t) * count (tokens_in rest)) ≡ p * count (tokens_in ws)
  token_product = ap (λ (x : ℕ). p * x) (sym (tokens_count ws t rest f))

  token_bounds : (p ≤ literal_limit) × (count_of (meant t) ≤ literal_limit) × (0 < count_of (meant t))
  token_bounds =
      let R = count (tokens_in rest) in
      let g = factor_le p (count_of (meant t) * R) (p * count (tokens_in ws)) token_product num.some in
      let i = factor_le (count_of (meant t)) R (count_of (meant t) * R) refl g.1 in
      let a : p ≤ p * count (tokens_in ws) = g.2 in
      let b : count_of (meant t) * R ≤ p * count (tokens_in ws) = g.3 in
      let d : count_of (meant t) ≤ count_of (meant t) * R = i.2 in
      let n : p * count (tokens_in ws) ≤ literal_limit = num.few in
      (omega arith, omega arith, i.0)

  pub prefixes_few : p ≤ literal_limit
  prefixes_few = token_bounds.0

  pub token_few : count_of (meant t) ≤ literal_limit
  token_few = token_bounds.1

  pub token_some : 0 < count_of (meant t)
  token_some = token_bounds.2

  pub token_exact : c ≡ count_of (meant t)
  token_exact = let l = token_bounds.1 in omega arith

  after_product : p * c * count (tokens_in rest) ≡ p * count (tokens_in ws)
  after_product =
      ap (λ (x : ℕ). p * x * count (tokens_in rest)) token_exact ∙ mul_assoc p (count_of (meant t)) (count (tokens_in rest)) ∙ token_product

  pub after_numerable : Numerable (p * c) (count (tokens_in rest))
  after_numerable =
      record {
        some = subst (λ (x : ℕ). 0 < x) (sym after_product) num.some;
        few = subst (λ (x : ℕ). x ≤ literal_limit) (sym after_product) num.few;
      }

  pub after_below : (k : ℕ) → k < p * count (tokens_in ws) → k < p * c * count (tokens_in rest)
  after_below k = subst (λ (x : ℕ). k < x) (sym after_product)

  pub after_fits : p * c ≤ literal_limit
  after_fits = let l = (factor_le (p * c) (count (tokens_in rest)) (p * c * count (tokens_in rest)) refl after_numerable.some).2 in omega (arith, l, after_numerable.few)

-- ---- a token with one literal has it at every number

prefixed_below : (ts : Tokens) (p k : ℕ) → k < p * count ts → prefixed ts p k < p
prefixed_below ts p k =
    subst (λ (x : ℕ). k < x * count ts → prefixed ts x k < x) (length-replicate p []) (λ h. (spelt_numbered ts (replicate p []) k h).within)

module _ (ts : Tokens) (ls : Lists) (p : ℕ) where
  only_here : count ts ≡ 1 → (q : ℕ) → q < p → ending_in (ts or ls) p q ≡ ending ts 1 0
  unfolding ending_in
  only_here e q l =
      let z : p * count ts ≡ p = ap (λ (x : ℕ). p * x) e ∙ mul-one p in
      rw (lt-ltb q (p * count ts) (omega arith)) (ap (ending ts 1) (ap (λ (x : ℕ). q % x) e ∙ mod-one q))

  only_later : count ts ≡ 0 → (q : ℕ) → ending_in (ts or ls) p q ≡ ending_in ls p q
  unfolding ending_in
  only_later e q =
      let z : p * count ts ≡ 0 = ap (λ (x : ℕ). p * x) e ∙ mul-zero p in
      let s : q - p * count ts ≡ q = omega arith in
      rw (le-ltb q (p * count ts) (omega arith)) (ap (ending_in ls p) s)

single_in : (ls : Lists) → count_in ls ≡ 1 → (p q r : ℕ) → q < p → r < p → ending_in ls p q ≡ ending_in ls p r
unfolding count
single_in neither e p q r h g = absurd (omega arith)
single_in (ts or ls) e p q r h g = go (count ts) refl (λ d. single_in ls d p q r h g)
  where
    go : (n : ℕ) → count ts ≡ n → (count_in ls ≡ 1 → ending_in ls p q ≡ ending_in ls p r) → ending_in (ts or ls) p q ≡ ending_in (ts or ls) p r
    go zero d f = only_later ts ls p d q ∙ f (omega arith) ∙ sym (only_later ts ls p d r)
    go (suc n) d f = let one : count ts ≡ 1 = omega arith in only_here ts ls p one q h ∙ sym (only_here ts ls p one r g)

single_ending : (t : meaning.Token) → count_of t ≡ 1 → (p q r : ℕ) → q < p → r < p → ending_of t p q ≡ ending_of t p r
unfolding ending_of count_of
single_ending t e p q r h g = go t e
  where
    same : (n : ℕ) → n ≡ 1 → (l : List ℕ) → get_or l (q % n) 0 ∷ [] ≡ get_or l (r % n) 0 ∷ []
    same n d l = ap (λ (x : ℕ). get_or l x 0 ∷ []) (ap (λ (x : ℕ). q % x) d ∙ mod-one q ∙ sym (ap (λ (x : ℕ). r % x) d ∙ mod-one r))

    go : (s : meaning.Token) → count_of s ≡ 1 → ending_of s p q ≡ ending_of s p r
    go (meaning.Byte v) d = same (count_of (meaning.Byte v)) d (taken (meaning.Byte v))
    go (NotByte v) d = same (count_of (NotByte v)) d (taken (NotByte v))
    go (MaskedByte v m) d = same (count_of (MaskedByte v m)) d (taken (MaskedByte v m))
    go (NotMaskedByte v m) d = same (count_of (NotMaskedByte v m)) d (taken (NotMaskedByte v m))
    go (Jump a b) d = same (count_of (Jump a b)) d (taken (Jump a b))
    go (Alternatives ls) d = single_in ls d p q r h g

pub single_any : (t : meaning.Token) (ts : Tokens) (p n k : ℕ) → count_of t ≡ n → n ≡ 1 → k < p * n * count ts → ending_of t p 0 ≡ ending_of t p (prefixed ts (p * n) k)
single_any t ts p n k e o l =
    let same : p * n ≡ p = ap (λ (x : ℕ). p * x) o ∙ mul-one p in
    let below : prefixed ts (p * n) k < p * n = prefixed_below ts (p * n) k l in
    single_ending t (e ∙ o) p 0 (prefixed ts (p * n) k) (omega arith) (omega arith)

-- ---- bytes passed over

module _ (ws : List ℕ) (t : Token) (rest : List ℕ) (f : IsFront ws t rest) (x : ℕ) (e : t ≡ One (Byte x)) where
  one_literal : count_of (meant t) ≡ 1
  unfolding count_of taken
  one_literal = rw e

  byte_prefix : (p q : ℕ) → prefix_of (meant t) p q ≡ q
  byte_prefix p q = ap (λ (s : Token). prefix_of (meant s) p q) e ∙ one_prefix (Byte x) p q ∙ ap (λ (s : Token). q / count_of (meant s)) (sym e) ∙ ap (λ (n : ℕ). q / n) one_literal ∙ div-one q

  pub byte_counted : count (tokens_in ws) ≡ count (tokens_in rest)
  byte_counted = tokens_count ws t rest f ∙ ap (λ (n : ℕ). n * count (tokens_in rest)) one_literal ∙ one-mul (count (tokens_in rest))

  byte_numbered : (p k : ℕ) → prefixed (tokens_in ws) p k ≡ prefixed (tokens_in rest) p k
  byte_numbered p k =
      prefixed_step ws t rest f p k ∙ byte_prefix p (prefixed (tokens_in rest) (p * count_of (meant t)) k)
      ∙ ap (λ (n : ℕ). prefixed (tokens_in rest) (p * n) k) one_literal ∙ ap (λ (n : ℕ). prefixed (tokens_in rest) n k) (mul-one p)

  pub past_more : (all : List ℕ) → Past all ws → Past all rest
  past_more all g =
      record {
        short = omega (arith, g.short, token_words ws t rest f);
        counted = g.counted ∙ byte_counted;
        numbered = λ p k. g.numbered p k ∙ byte_numbered p k;
      }

pub past_numerable : (ws rest : List ℕ) → Past ws rest → (p : ℕ) → Numerable p (count (tokens_in ws)) → Numerable p (count (tokens_in rest))
past_numerable ws rest g p = subst (λ (n : ℕ). Numerable p n) g.counted
