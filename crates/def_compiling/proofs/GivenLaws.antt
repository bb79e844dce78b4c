-- Each refusal of compiling is given exactly in its case, in 01's order. Assumes nothing.
use mathlib.Core.Path.{◌≡◌, refl, sym, ap, ◌∙◌}
use mathlib.Core.Bool.{Bool, true, false, cond, ◌&&◌}
use mathlib.Core.Logic.{◌⊎◌, inl, inr, ⊎_elim, ◌↔◌}
use mathlib.Core.Option.{none, some}
use mathlib.Core.List.{List, []}
use Prim.Native.Nat.{ℕ, ◌<◌}
use native.Mathlib.Omega.{arith}
use lib.Dec.{leb}
use borrow.Author.Tests.{leb-false, lt-leb}
use Rattle.base.specs.declared.Refusal.TheVariants.{NotSimple, TooManyNodes, BranchTooLong}
use Rattle.base.specs.Refusals.{number_of}
use Rattle.def_meaning.specs.Limits.{jump_limit, branch_limit, node_limit}
use Rattle.def_meaning.specs.Tokens.{Token, Tokens, Lists, Byte, NotByte, MaskedByte, NotMaskedByte, Jump, Alternatives, nothing, ◌then◌, neither, ◌or◌}
use Rattle.def_meaning.specs.Programs.{Item, Prog, Branches, one, jump, range, alt, end, ◌▹◌, stop, or as branch}
use Rattle.def_meaning.proofs.SoundLaws.{false_true}
use Rattle.def_compiling.specs.ProgramWords.{nodes}
use Rattle.def_compiling.specs.Compiling.{forward_program, reverse_program, forward_words, reverse_words, TooFar, TooRich, Some, SomeIn, InBranch, Unsimple, LongIn, LongOf, LongBranch, ManyNodes, Either}
use Rattle.def_compiling.specs.Compile.{flat_token, flat_tokens, flat_branches, simple_token, simple, short_in, short_of, short, few, Compiled, compiled, refused, compile}

-- a test that fails exactly in the case P
abbrev Fails : Bool → Type 0 → Type 0
Fails t P = (t ≡ false) ↔ P

passes : (t : Bool) (P : Type 0) → Fails t P → t ≡ true → P → ⊥
passes t P f h p = false_true (sym (f.1 p) ∙ h)

never : {P : Type 0} → (P → ⊥) → Fails true P
never n = (λ h. false_true (sym h), λ p. absurd (n p))

always : {P : Type 0} → P → Fails false P
always p = (λ h. p, λ q. refl)

leb_fails : (m n : ℕ) → Fails (leb m n) (n < m)
leb_fails m n = (λ h. leb-false m n h, λ h. lt-leb m n h)

-- two tests: one of them fails
both_fail : (s t : Bool) {P Q : Type 0} → Fails s P → Fails t Q → Fails (s && t) (P ⊎ Q)
both_fail true t f g = (λ h. inr (g.0 h), λ q. ⊎_elim (λ p. absurd (false_true (sym (f.1 p)))) (λ q. g.1 q) q)
both_fail false t f g = (λ h. inl (f.0 refl), λ q. refl)

-- 12
flat_token_fails : (t : Token) → Fails (flat_token t) (TooFar t ⊎ TooRich t)
unfolding flat_token TooFar TooRich
flat_token_fails (Byte v) = never (⊎_elim (λ h. h) (λ h. h))
flat_token_fails (NotByte v) = never (⊎_elim (λ h. h) (λ h. h))
flat_token_fails (MaskedByte v m) = never (⊎_elim (λ h. h) (λ h. h))
flat_token_fails (NotMaskedByte v m) = never (⊎_elim (λ h. h) (λ h. h))
flat_token_fails (Jump from none) = always (inl tt)
flat_token_fails (Jump from (some to)) = both_fail (leb to jump_limit) (leb to from) (leb_fails to jump_limit) (leb_fails to from)
flat_token_fails (Alternatives ls) = always (inr tt)

flat_fails : (ts : Tokens) → Fails (flat_tokens ts) (Some (λ t. TooFar t ⊎ TooRich t) ts)
unfolding flat_tokens Some
flat_fails nothing = never (λ h. h)
flat_fails (t then ts) = both_fail (flat_token t) (flat_tokens ts) (flat_token_fails t) (flat_fails ts)

lists_fail : (ls : Lists) → Fails (flat_branches ls) (SomeIn (λ t. TooFar t ⊎ TooRich t) ls)
unfolding flat_branches SomeIn
lists_fail neither = never (λ h. h)
lists_fail (ts or ls) = both_fail (flat_tokens ts) (flat_branches ls) (flat_fails ts) (lists_fail ls)

simple_token_fails : (t : Token) → Fails (simple_token t) (TooFar t ⊎ InBranch t)
unfolding simple_token TooFar InBranch
simple_token_fails (Byte v) = never (⊎_elim (λ h. h) (λ h. h))
simple_token_fails (NotByte v) = never (⊎_elim (λ h. h) (λ h. h))
simple_token_fails (MaskedByte v m) = never (⊎_elim (λ h. h) (λ h. h))
simple_token_fails (NotMaskedByte v m) = never (⊎_elim (λ h. h) (λ h. h))
simple_token_fails (Jump from none) = always (inl tt)
simple_token_fails (Jump from (some to)) = let f = leb_fails to jump_limit in (λ h. inl (f.0 h), ⊎_elim f.1 (λ h. absurd h))
simple_token_fails (Alternatives ls) = let f = lists_fail ls in (λ h. inr (f.0 h), ⊎_elim (λ h. absurd h) f.1)

some_fails : (ts : Tokens) → Fails (simple ts) (Some (λ t. TooFar t ⊎ InBranch t) ts)
unfolding simple Some
some_fails nothing = never (λ h. h)
some_fails (t then ts) = both_fail (simple_token t) (simple ts) (simple_token_fails t) (some_fails ts)

pub simple_fails : (ts : Tokens) → Fails (simple ts) (Unsimple ts)
unfolding Unsimple
simple_fails ts = some_fails ts

-- 14
short_in_fails : (bs : Branches) → Fails (short_in bs) (LongIn bs)
unfolding short_in LongIn
short_in_fails stop = never (λ h. h)
short_in_fails (branch p bs) = both_fail (leb (nodes p) branch_limit) (short_in bs) (leb_fails (nodes p) branch_limit) (short_in_fails bs)

short_of_fails : (i : Item) → Fails (short_of i) (LongOf i)
unfolding short_of LongOf
short_of_fails (one t) = never (λ h. h)
short_of_fails (jump n) = never (λ h. h)
short_of_fails (range a b) = never (λ h. h)
short_of_fails (alt bs) = short_in_fails bs

short_fails : (p : Prog) → Fails (short p) (LongBranch p)
unfolding short LongBranch
short_fails end = never (λ h. h)
short_fails (i ▹ p) = both_fail (short_of i) (short p) (short_of_fails i) (short_fails p)

-- 13
few_fails : (p : Prog) → Fails (few p) (ManyNodes p)
unfolding few ManyNodes
few_fails p = leb_fails (nodes p) node_limit

-- what is given, by the three tests
result : Bool → Bool → Bool → List ℕ → List ℕ → Compiled
result a b c f r = cond a (cond b (cond c (compiled f r) (refused TooManyNodes)) (refused BranchTooLong)) (refused NotSimple)

number : Compiled → ℕ
number (compiled f r) = 0
number (refused r) = number_of r

apart : {A : Type 0} (x y : Compiled) → (number x ≡ number y → ⊥) → x ≡ y → A
apart x y n e = absurd (n (ap number e))

first_of : Compiled → List ℕ → List ℕ
first_of (compiled f r) d = f
first_of (refused r) d = d

second_of_lem : Compiled → List ℕ → List ℕ
second_of_lem (compiled f r) d = r
second_of_lem (refused r) d = d

module _ (f r : List ℕ) where
  refused_first : (a b c : Bool) → result a b c f r ≡ refused NotSimple → a ≡ false
  unfolding result number
  refused_first false b c e = refl
  refused_first true false c e = apart (refused BranchTooLong) (refused NotSimple) (λ h. omega arith) e
  refused_first true true false e = apart (refused TooManyNodes) (refused NotSimple) (λ h. omega arith) e
  refused_first true true true e = apart (compiled f r) (refused NotSimple) (λ h. omega arith) e

  refused_second : (a b c : Bool) → result a b c f r ≡ refused BranchTooLong → (a ≡ true) × (b ≡ false)
  unfolding result number
  refused_second false b c e = apart (refused NotSimple) (refused BranchTooLong) (λ h. omega arith) e
  refused_second true false c e = (refl, refl)
  refused_second true true false e = apart (refused TooManyNodes) (refused BranchTooLong) (λ h. omega arith) e
  refused_second true true true e = apart (compiled f r) (refused BranchTooLong) (λ h. omega arith) e

  refused_third : (a b c : Bool) → result a b c f r ≡ refused TooManyNodes → (a ≡ true) × (b ≡ true) × (c ≡ false)
  unfolding result number
  refused_third false b c e = apart (refused NotSimple) (refused TooManyNodes) (λ h. omega arith) e
  refused_third true false c e = apart (refused BranchTooLong) (refused TooManyNodes) (λ h. omega arith) e
  refused_third true true false e = (refl, refl, refl)
  refused_third true true true e = apart (compiled f r) (refused TooManyNodes) (λ h. omega arith) e

  not_refused : (a b c : Bool) (x y : List ℕ) → result a b c f r ≡ compiled x y → (a ≡ true) × (b ≡ true) × (c ≡ true) × (f ≡ x) × (r ≡ y)
  unfolding result number first_of second_of_lem
  not_refused false b c x y e = apart (refused NotSimple) (compiled x y) (λ h. omega arith) e
  not_refused true false c x y e = apart (refused BranchTooLong) (compiled x y) (λ h. omega arith) e
  not_refused true true false x y e = apart (refused TooManyNodes) (compiled x y) (λ h. omega arith) e
  not_refused true true true x y e = (refl, refl, refl, ap (λ (z : Compiled). first_of z []) e, ap (λ (z : Compiled). second_of_lem z []) e)

-- a test that does not fail
holds : (t : Bool) (P : Type 0) → Fails t P → (P → ⊥) → t ≡ true
holds true P f n = refl
holds false P f n = absurd (n (f.0 refl))

module _ (ts : Tokens) where
  abbrev branches_short : Bool
  branches_short = short (forward_program ts) && short (reverse_program ts)

  abbrev nodes_few : Bool
  nodes_few = few (forward_program ts) && few (reverse_program ts)

  short_both : Fails branches_short (Either LongBranch ts)
  short_both = both_fail (short (forward_program ts)) (short (reverse_program ts)) (short_fails (forward_program ts)) (short_fails (reverse_program ts))

  few_both : Fails nodes_few (Either ManyNodes ts)
  few_both = both_fail (few (forward_program ts)) (few (reverse_program ts)) (few_fails (forward_program ts)) (few_fails (reverse_program ts))

  by_tests : compile ts ≡ result (simple ts) branches_short nodes_few (forward_words ts) (reverse_words ts)
  unfolding compile result
  by_tests = refl

  -- 12 is given exactly for the patterns that 01 names
  pub not_simple_given : (compile ts ≡ refused NotSimple) ↔ Unsimple ts
  unfolding result
  not_simple_given = (
    λ e. (simple_fails ts).0 (refused_first _ _ (simple ts) branches_short nodes_few (sym by_tests ∙ e)),
    λ u. by_tests ∙ rw ((simple_fails ts).1 u),
  )

  -- 14 exactly if there is no 12, and a branch of either program is above the limit
  pub branch_too_long_given : (compile ts ≡ refused BranchTooLong) ↔ ((Unsimple ts → ⊥) × Either LongBranch ts)
  unfolding result
  branch_too_long_given = (
    λ e.
        let q = refused_second _ _ (simple ts) branches_short nodes_few (sym by_tests ∙ e) in
        (passes (simple ts) (Unsimple ts) (simple_fails ts) q.0, short_both.0 q.1),
    λ (n, l). by_tests ∙ rw (holds (simple ts) (Unsimple ts) (simple_fails ts) n, short_both.1 l),
  )

  -- 13 exactly if there is neither, and either program has more nodes than the limit
  pub too_many_nodes_given : (compile ts ≡ refused TooManyNodes) ↔ ((Unsimple ts → ⊥) × (Either LongBranch ts → ⊥) × Either ManyNodes ts)
  unfolding result
  too_many_nodes_given = (
    λ e.
        let q = refused_third _ _ (simple ts) branches_short nodes_few (sym by_tests ∙ e) in
        (passes (simple ts) (Unsimple ts) (simple_fails ts) q.0, passes branches_short (Either LongBranch ts) short_both q.1, few_both.0 q.2),
    λ (n, l, m). by_tests ∙ rw (holds (simple ts) (Unsimple ts) (simple_fails ts) n, holds branches_short (Either LongBranch ts) short_both l, few_both.1 m),
  )

  -- and the programs exactly if there is none of the three
  pub programs_given : (f r : List ℕ) → (compile ts ≡ compiled f r) ↔ ((Unsimple ts → ⊥) × (Either LongBranch ts → ⊥) × (Either ManyNodes ts → ⊥) × (forward_words ts ≡ f) × (reverse_words ts ≡ r))
  unfolding result
  programs_given f r = (
    λ e.
        let q = not_refused _ _ (simple ts) branches_short nodes_few f r (sym by_tests ∙ e) in
        (passes (simple ts) (Unsimple ts) (simple_fails ts) q.0, passes branches_short (Either LongBranch ts) short_both q.1, passes nodes_few (Either ManyNodes ts) few_both q.2, q.3, q.4),
    λ (n, l, m, x, y). by_tests ∙ rw (holds (simple ts) (Unsimple ts) (simple_fails ts) n, holds branches_short (Either LongBranch ts) short_both l, holds nodes_few (Either ManyNodes ts) few_both m, x, y),
  )

  -- what the tests say of programs that are given
  pub programs_tests : (f r : List ℕ) → compile ts ≡ compiled f r → (simple ts ≡ true) × (branches_short ≡ true) × (nodes_few ≡ true) × (forward_words ts ≡ f) × (reverse_words ts ≡ r)
  programs_tests f r e = not_refused _ _ (simple ts) branches_short nodes_few f r (sym by_tests ∙ e)
