-- Compiling refuses exactly in the listed cases. Assumes nothing.
use Rattle.std.proofs.Common.{◌≡◌, refl, sym, ap, ap₂, ◌∙◌, subst, ◌⊎◌, inl, inr, ◌↔◌, List, ℕ, suc, ◌+◌, ◌<◌, length, length-append}
use Rattle.std.proofs.Math.Option.{none, some}
use Rattle.base.specs.declared.Refusal.TheVariants.{NotSimple, TooManyNodes, BranchTooLong}
use Rattle.def_meaning.specs.Limits.{branch_limit, node_limit}
use Rattle.def_meaning.specs.Tokens.{Token, Tokens, Lists, Byte, NotByte, MaskedByte, NotMaskedByte, Jump, Alternatives, nothing, ◌then◌, neither, ◌or◌}
use Rattle.def_meaning.specs.Programs.{Item, Prog, Branches, one, jump, range, alt, end, ◌▹◌, stop, or as branch}
use Rattle.def_compiling.specs.ProgramWords.{words_for, words_of, words_in, nodes}
use Rattle.def_compiling.specs.Compiling as compiling
use Rattle.def_compiling.specs.Compiling.{forward_words, reverse_words, Either}
use Rattle.def_compiling.specs.Compile.{compiled, refused, compile}
use Rattle.def_compiling.proofs.GivenLaws.{not_simple_given, branch_too_long_given, too_many_nodes_given, programs_given}
use Rattle.def_promise.specs.Cases.{Far, unbounded, above, Unfit, a_jump, a_range, nested, HoldsUnfit, OneHoldsUnfit, this_list, other_list, Complex, far, inside, next, size_of, size, size_in, LongIn, this_branch, other_branch, Long, Large}
use Rattle.def_promise.specs.Cases as cases

-- 12
far_of : (t : Token) → compiling.TooFar t → Far t
unfolding compiling.TooFar
far_of (Byte v) h = absurd h
far_of (NotByte v) h = absurd h
far_of (MaskedByte v m) h = absurd h
far_of (NotMaskedByte v m) h = absurd h
far_of (Jump from none) h = unbounded
far_of (Jump from (some to)) h = above h
far_of (Alternatives ls) h = absurd h

of_far : {t : Token} → Far t → compiling.TooFar t
unfolding compiling.TooFar
of_far unbounded = tt
of_far (above h) = h

unfit_of : (t : Token) → compiling.TooFar t ⊎ compiling.TooRich t → Unfit t
unfolding compiling.TooRich
unfit_of t (inl h) = a_jump (far_of t h)
unfit_of (Byte v) (inr h) = absurd h
unfit_of (NotByte v) (inr h) = absurd h
unfit_of (MaskedByte v m) (inr h) = absurd h
unfit_of (NotMaskedByte v m) (inr h) = absurd h
unfit_of (Jump from none) (inr h) = a_jump unbounded
unfit_of (Jump from (some to)) (inr h) = a_range h
unfit_of (Alternatives ls) (inr h) = nested

of_unfit : {t : Token} → Unfit t → compiling.TooFar t ⊎ compiling.TooRich t
unfolding compiling.TooRich
of_unfit (a_jump h) = inl (of_far h)
of_unfit (a_range h) = inr h
of_unfit nested = inr tt

abbrev Unlike : Token → Type 0
Unlike t = compiling.TooFar t ⊎ compiling.TooRich t

holds_of : (ts : Tokens) → compiling.Some Unlike ts → HoldsUnfit ts
unfolding compiling.Some
holds_of nothing h = absurd h
holds_of (t then ts) (inl h) = cases.HoldsUnfit.here (unfit_of t h)
holds_of (t then ts) (inr h) = cases.HoldsUnfit.further (holds_of ts h)

of_holds : {ts : Tokens} → HoldsUnfit ts → compiling.Some Unlike ts
unfolding compiling.Some
of_holds (cases.HoldsUnfit.here h) = inl (of_unfit h)
of_holds (cases.HoldsUnfit.further h) = inr (of_holds h)

one_of : (ls : Lists) → compiling.SomeIn Unlike ls → OneHoldsUnfit ls
unfolding compiling.SomeIn
one_of neither h = absurd h
one_of (ts or ls) (inl h) = this_list (holds_of ts h)
one_of (ts or ls) (inr h) = other_list (one_of ls h)

of_one : {ls : Lists} → OneHoldsUnfit ls → compiling.SomeIn Unlike ls
unfolding compiling.SomeIn
of_one (this_list h) = inl (of_holds h)
of_one (other_list h) = inr (of_one h)

token_of_lem : (t : Token) (ts : Tokens) → compiling.TooFar t ⊎ compiling.InBranch t → Complex (t then ts)
unfolding compiling.InBranch
token_of_lem t ts (inl h) = far (far_of t h)
token_of_lem (Byte v) ts (inr h) = absurd h
token_of_lem (NotByte v) ts (inr h) = absurd h
token_of_lem (MaskedByte v m) ts (inr h) = absurd h
token_of_lem (NotMaskedByte v m) ts (inr h) = absurd h
token_of_lem (Jump from to) ts (inr h) = absurd h
token_of_lem (Alternatives ls) ts (inr h) = inside (one_of ls h)

abbrev Bad : Token → Type 0
Bad t = compiling.TooFar t ⊎ compiling.InBranch t

complex_some : (ts : Tokens) → compiling.Some Bad ts → Complex ts
unfolding compiling.Some
complex_some nothing h = absurd h
complex_some (t then ts) (inl h) = token_of_lem t ts h
complex_some (t then ts) (inr h) = next (complex_some ts h)

some_complex : {ts : Tokens} → Complex ts → compiling.Some Bad ts
unfolding compiling.Some compiling.InBranch
some_complex (far h) = inl (inl (of_far h))
some_complex (inside h) = inl (inr (of_one h))
some_complex (next h) = inr (some_complex h)

complex_of : (ts : Tokens) → compiling.Unsimple ts → Complex ts
unfolding compiling.Unsimple
complex_of ts h = complex_some ts h

of_complex : {ts : Tokens} → Complex ts → compiling.Unsimple ts
unfolding compiling.Unsimple
of_complex h = some_complex h

-- the words of a program are as many as its nodes
mutual
  unfolding words_for size_of

  item_size : (i : Item) → length (words_for i) ≡ size_of i
  item_size (one t) = refl
  item_size (jump n) = refl
  item_size (range a b) = refl
  item_size (alt bs) = ap suc (branches_size bs)

  pub program_size : (p : Prog) → nodes p ≡ size p
  program_size end = refl
  program_size (i ▹ p) = length-append (words_for i) (words_of p) ∙ ap₂ (λ (a b : ℕ). a + b) (item_size i) (program_size p)

  branches_size : (bs : Branches) → length (words_in bs) ≡ size_in bs
  branches_size stop = refl
  branches_size (branch p bs) = ap suc (length-append (words_of p) (words_in bs) ∙ ap₂ (λ (a b : ℕ). a + b) (program_size p) (branches_size bs))

-- 14
long_in : (bs : Branches) → compiling.LongIn bs → LongIn bs
unfolding compiling.LongIn
long_in stop h = absurd h
long_in (branch p bs) (inl h) = this_branch (subst (λ (n : ℕ). branch_limit < n) (program_size p) h)
long_in (branch p bs) (inr h) = other_branch (long_in bs h)

in_long : {bs : Branches} → LongIn bs → compiling.LongIn bs
unfolding compiling.LongIn
in_long (this_branch {p = p} h) = inl (subst (λ (n : ℕ). branch_limit < n) (sym (program_size p)) h)
in_long (other_branch h) = inr (in_long h)

long_of : (p : Prog) → compiling.LongBranch p → Long p
unfolding compiling.LongBranch compiling.LongOf
long_of end h = absurd h
long_of (one t ▹ p) (inl h) = absurd h
long_of (jump n ▹ p) (inl h) = absurd h
long_of (range a b ▹ p) (inl h) = absurd h
long_of (alt bs ▹ p) (inl h) = cases.Long.here (long_in bs h)
long_of (i ▹ p) (inr h) = cases.Long.further (long_of p h)

of_long : {p : Prog} → Long p → compiling.LongBranch p
unfolding compiling.LongBranch compiling.LongOf
of_long (cases.Long.here h) = inl (in_long h)
of_long (cases.Long.further h) = inr (of_long h)

-- 13
large_of : (p : Prog) → compiling.ManyNodes p → Large p
unfolding compiling.ManyNodes
large_of p h = subst (λ (n : ℕ). node_limit < n) (program_size p) h

of_large : (p : Prog) → Large p → compiling.ManyNodes p
unfolding compiling.ManyNodes
of_large p h = subst (λ (n : ℕ). node_limit < n) (sym (program_size p)) h

-- each refusal of compiling is given exactly in its case, 12 before 14 before 13
module _ (ts : Tokens) where
  either : (P Q : Prog → Type 0) → ((p : Prog) → P p → Q p) → Either P ts → Either Q ts
  either P Q f (inl h) = inl (f (compiling.forward_program ts) h)
  either P Q f (inr h) = inr (f (compiling.reverse_program ts) h)

  to_long : Either compiling.LongBranch ts → Either Long ts
  to_long = either compiling.LongBranch Long long_of

  from_long : Either Long ts → Either compiling.LongBranch ts
  from_long = either Long compiling.LongBranch (λ p h. of_long h)

  pub refused_12 : (compile ts ≡ refused NotSimple) ↔ Complex ts
  refused_12 = (λ h. complex_of ts ((not_simple_given ts).0 h), λ h. (not_simple_given ts).1 (of_complex h))

  pub refused_14 : (compile ts ≡ refused BranchTooLong) ↔ ((Complex ts → ⊥) × Either Long ts)
  refused_14 = (
    λ h. let (a, b) = (branch_too_long_given ts).0 h in (λ c. a (of_complex c), to_long b),
    λ (a, b). (branch_too_long_given ts).1 (λ c. a (complex_of ts c), from_long b),
  )

  pub refused_13 : (compile ts ≡ refused TooManyNodes) ↔ ((Complex ts → ⊥) × (Either Long ts → ⊥) × Either Large ts)
  refused_13 = (
    λ h. let (a, b, c) = (too_many_nodes_given ts).0 h in (λ x. a (of_complex x), λ x. b (from_long x), either compiling.ManyNodes Large large_of c),
    λ (a, b, c). (too_many_nodes_given ts).1 (λ x. a (complex_of ts x), λ x. b (to_long x), either Large compiling.ManyNodes of_large c),
  )

  pub neither_refused : (f r : List ℕ) → (compile ts ≡ compiled f r) ↔ ((Complex ts → ⊥) × (Either Long ts → ⊥) × (Either Large ts → ⊥) × (forward_words ts ≡ f) × (reverse_words ts ≡ r))
  neither_refused f r = (
    λ h. let (a, b, c, d, e) = (programs_given ts f r).0 h in (λ x. a (of_complex x), λ x. b (from_long x), λ x. c (either Large compiling.ManyNodes of_large x), d, e),
    λ (a, b, c, d, e). (programs_given ts f r).1 (λ x. a (complex_of ts x), λ x. b (to_long x), λ x. c (either compiling.ManyNodes Large large_of x), d, e),
  )
