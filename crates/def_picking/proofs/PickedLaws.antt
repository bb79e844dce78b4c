-- What is picked: none, or the literals of successive tokens of the pattern, and how many and how long they are. Assumes nothing.
use mathlib.Core.Path.{◌≡◌, refl, sym, ap, ◌∙◌, subst}
use mathlib.Core.Bool.{Bool, true, false, cond}
use mathlib.Core.Logic.{◌⊎◌, inl, inr, ⊎_elim, ◌↔◌}
use mathlib.Core.List.Memᴰ
use mathlib.Core.List.{List, [], Memᴰ}
use Prim.Native.Nat.{ℕ, ◌+◌, ◌≤◌}
use native.Mathlib.Omega.{arith}
use lib.ListN.{length}
use Rattle.base.specs.declared.Refusal.TheVariants.{NotPlain}
use Rattle.def_meaning.specs.Limits.{token_limit, literal_limit}
use Rattle.def_meaning.specs.Values.{Bytes, Filled}
use Rattle.def_meaning.specs.Tokens.{Token, Tokens, Byte, NotByte, MaskedByte, NotMaskedByte, Jump, Alternatives, nothing, ◌then◌, Spans, ◌⊕◌, total}
use Rattle.def_picking.specs.Literals.{literals, length_of, length_in, NonemptyOf, Nonempty}
use Rattle.def_picking.specs.Runs.{plain_alternatives}
use Rattle.def_picking.specs.Candidates.{Candidate, unranked, chosen, too_many_literals, in_pattern, picked, unpicked, taking, pick}
use Rattle.def_picking.proofs.MatchLaws.{literals_are_spans}
use Rattle.def_picking.proofs.NumberLaws.{count_literals}
use Rattle.def_picking.proofs.LengthLaws.{literal_lengths}
use Rattle.def_picking.proofs.FactorLaws.{Factor}
use Rattle.def_picking.proofs.ChosenLaws.{pattern_few, chosen_factor, chosen_filled, chosen_listable}

-- the tokens whose literals are picked
pub record Source (ts us : Tokens) (n : ℕ) (ls : List (List ℕ)) : Type 0 where
  pub plainly : plain_alternatives ts ≡ true
  pub given : in_pattern ts ≡ chosen n us
  pub theirs : ls ≡ literals us

-- no literals and rank 0, or the literals of what is chosen
pub picked_from : (ts : Tokens) (n : ℕ) (ls : List (List ℕ)) → pick ts ≡ picked n ls → ((n ≡ 0) × (ls ≡ [])) ⊎ ((us : Tokens) × Source ts us n ls)
unfolding pick taking
picked_from ts n ls h = go (plain_alternatives ts) (in_pattern ts) refl refl h
  where
    go : (b : Bool) (c : Candidate) → plain_alternatives ts ≡ b → in_pattern ts ≡ c → cond b (taking c) (unpicked NotPlain) ≡ picked n ls → ((n ≡ 0) × (ls ≡ [])) ⊎ ((us : Tokens) × Source ts us n ls)
    go true unranked p e q = let a : 0 ≡ n = cc in let b : [] ≡ ls = cc in inl (sym a, sym b)
    go true (chosen m us) p e q =
        let a : m ≡ n = cc in
        let b : literals us ≡ ls = cc in
        inr (us, record { plainly = p; given = e ∙ ap (λ (k : ℕ). chosen k us) a; theirs = sym b })
    go true too_many_literals p e q = absurd (let z : ◌≡◌ {A = ℕ} 0 1 = cc in omega arith)
    go false c p e q = absurd (let z : ◌≡◌ {A = ℕ} 0 1 = cc in omega arith)

-- at most 256 literals are picked
pub picked_few : (ts : Tokens) (n : ℕ) (ls : List (List ℕ)) → pick ts ≡ picked n ls → length ls ≤ literal_limit
picked_few ts n ls h = ⊎_elim none_few some_few (picked_from ts n ls h)
  where
    none_few : (n ≡ 0) × (ls ≡ []) → length ls ≤ literal_limit
    none_few (a, e) = let l : length ls ≡ 0 = ap length e in omega arith

    some_few : (us : Tokens) × Source ts us n ls → length ls ≤ literal_limit
    some_few (us, s) =
        let l : length ls ≡ _ = ap length s.theirs ∙ count_literals us in
        let k = pattern_few ts n us s.given in
        omega arith

-- the literals are exactly the byte strings that some successive tokens of the pattern match
pub picked_are_spans : (ts : Tokens) (n : ℕ) (ls : List (List ℕ)) → pick ts ≡ picked n ls
    → (ls ≡ []) ⊎ ((us : Tokens) × Factor us ts × Filled us × ((s : List ℕ) → Bytes s → Memᴰ s ls ↔ Spans us s))
picked_are_spans ts n ls h = ⊎_elim (λ (z : (n ≡ 0) × (ls ≡ [])). inl z.1) (λ (z : (us : Tokens) × Source ts us n ls). inr (of z)) (picked_from ts n ls h)
  where
    of : (us : Tokens) × Source ts us n ls → (us : Tokens) × Factor us ts × Filled us × ((s : List ℕ) → Bytes s → Memᴰ s ls ↔ Spans us s)
    of (us, z) = (
      us,
      chosen_factor ts n us z.given,
      chosen_filled ts n us z.given,
      λ s b. subst (λ (l : List (List ℕ)). Memᴰ s l ↔ Spans us s) (sym z.theirs) (literals_are_spans us s (chosen_listable ts n us z.given z.plainly) b),
    )

-- ---- lengths

total_join : (ts us : Tokens) → total (ts ⊕ us) ≡ total ts + total us
unfolding total ◌⊕◌
total_join nothing us = omega arith
total_join (t then ts) us = let e = total_join ts us in omega arith

nonempty_left : (ts us : Tokens) → Nonempty (ts ⊕ us) → Nonempty ts
unfolding Nonempty ◌⊕◌
nonempty_left nothing us h = tt
nonempty_left (t then ts) us h = (h.0, nonempty_left ts us h.1)

nonempty_right : (ts us : Tokens) → Nonempty (ts ⊕ us) → Nonempty us
unfolding Nonempty ◌⊕◌
nonempty_right nothing us h = h
nonempty_right (t then ts) us h = nonempty_right ts us h.1

one_long : (t : Token) → NonemptyOf t → 1 ≤ length_of t
unfolding NonemptyOf length_of
one_long (Byte v) h = omega arith
one_long (NotByte v) h = omega arith
one_long (MaskedByte v m) h = omega arith
one_long (NotMaskedByte v m) h = omega arith
one_long (Jump from to) h = omega arith
one_long (Alternatives ls) h = h.0

-- tokens that are not nothing have a length of at least 1
pub filled_long : (ts : Tokens) → Filled ts → Nonempty ts → 1 ≤ length_in ts
unfolding Filled Nonempty length_in
filled_long nothing f h = absurd f
filled_long (t then ts) f h = let l = one_long t h.0 in omega arith

-- a literal is not empty, and no longer than the pattern has tokens
pub picked_lengths_lem : (ts : Tokens) → Nonempty ts → (n : ℕ) (ls : List (List ℕ)) → pick ts ≡ picked n ls → (l : List ℕ) → Memᴰ l ls → (1 ≤ length l) × (length l ≤ total ts)
picked_lengths_lem ts g n ls h l m = ⊎_elim (λ (z : (n ≡ 0) × (ls ≡ [])). absurd (Memᴰ.not-nil (subst (λ (k : List (List ℕ)). Memᴰ l k) z.1 m))) of (picked_from ts n ls h)
  where
    of : (us : Tokens) × Source ts us n ls → (1 ≤ length l) × (length l ≤ total ts)
    of (us, z) =
        let (a, b, e) = chosen_factor ts n us z.given in
        let k = literal_lengths us l (subst (λ (x : List (List ℕ)). Memᴰ l x) z.theirs m) in
        let low = k.0 in
        let high = k.1 in
        let long = filled_long us (chosen_filled ts n us z.given) (nonempty_left us b (nonempty_right a (us ⊕ b) (subst Nonempty e g))) in
        let wide : total ts ≡ total a + (total us + total b) = ap total e ∙ total_join a (us ⊕ b) ∙ ap (λ (x : ℕ). total a + x) (total_join us b) in
        (omega arith, omega arith)

-- so 512 tokens bound it
pub literal_bounds : (ts : Tokens) → Nonempty ts → total ts ≤ token_limit → (n : ℕ) (ls : List (List ℕ)) → pick ts ≡ picked n ls → (l : List ℕ) → Memᴰ l ls → (1 ≤ length l) × (length l ≤ token_limit)
literal_bounds ts g s n ls h l m =
    let k = picked_lengths_lem ts g n ls h l m in
    let high = k.1 in
    (k.0, omega arith)
