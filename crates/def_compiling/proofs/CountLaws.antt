-- How many nodes a program has: no more than its tokens have entries. Assumes nothing.
use mathlib.Core.Path.{◌≡◌, refl, ap}
use mathlib.Core.Bool.{Bool, true, false}
use mathlib.Core.List.{[], ◌++◌}
use mathlib.Core.Option.{none, some}
use Prim.Native.Nat.{ℕ, ◌+◌, ◌*◌, ◌≤◌}
use native.Mathlib.Omega.{arith}
use lib.Dec.{ltb}
use lib.ListN.{length, length-append}
use Rattle.def_meaning.specs.Tokens.{left, right, all, Token, Tokens, Lists, Byte, NotByte, MaskedByte, NotMaskedByte, Jump, Alternatives, nothing, ◌then◌, neither, ◌or◌}
use Rattle.def_meaning.specs.Entries.{entries_of, entries, list_entries}
use Rattle.def_meaning.proofs.TokenLaws.{entries_join}
use Rattle.def_meaning.specs.Programs.{Item, Prog, one, jump, range, alt, end, ◌▹◌}
use Rattle.def_compiling.specs.ProgramWords.{words_for, words_of, words_in, nodes}
use Rattle.def_compiling.specs.Compiling.{add, item_of, added, branches_for, backwards_of, backwards, backwards_in}
use Rattle.def_compiling.proofs.FitLaws.{pair_keeps}

abbrev long : Item → ℕ
long i = length (words_for i)

some_words : (i : Item) → 1 ≤ long i
unfolding words_of
some_words (one t) = omega arith
some_words (jump n) = omega arith
some_words (range a b) = omega arith
some_words (alt bs) = omega arith

two_nodes : (i j : Item) → nodes (i ▹ j ▹ end) ≡ long i + long j
unfolding words_of
two_nodes i j = omega (arith, length-append (words_for i) (words_for j ++ []), length-append (words_for j) [])

pub add_nodes : (p : Prog) (j : Item) → nodes (add p j) ≤ nodes p + long j
unfolding add words_of
add_nodes end j = omega (arith, length-append (words_for j) [])
add_nodes (i ▹ end) j =
    let e = length-append (words_for i) [] in
    pair_keeps (λ (q : Prog). nodes q ≤ length (words_for i ++ []) + long j) i j (omega (arith, two_nodes i j)) (λ n l. omega (arith, some_words i, some_words j))
add_nodes (i ▹ (k ▹ p)) j = omega (arith, length-append (words_for i) (words_of (add (k ▹ p) j)), length-append (words_for i) (words_of (k ▹ p)), add_nodes (k ▹ p) j)

jump_long : (from to : ℕ) → long (item_of (Jump from (some to))) ≡ 1
unfolding item_of words_of
jump_long from to = go (ltb from to) refl
  where
    go : (t : Bool) → ltb from to ≡ t → long (item_of (Jump from (some to))) ≡ 1
    go true e = rw e
    go false e = rw e

mutual
  unfolding item_of words_of entries

  pub item_words : (t : Token) → 4 * long (item_of t) ≤ length (entries_of t)
  item_words (Byte v) = omega arith
  item_words (NotByte v) = omega arith
  item_words (MaskedByte v left) = omega arith
  item_words (MaskedByte v right) = omega arith
  item_words (MaskedByte v all) = omega arith
  item_words (NotMaskedByte v left) = omega arith
  item_words (NotMaskedByte v right) = omega arith
  item_words (NotMaskedByte v all) = omega arith
  item_words (Jump from none) = omega arith
  item_words (Jump from (some to)) = omega (arith, jump_long from to)
  item_words (Alternatives ls) = omega (arith, lists_words ls)

  pub added_words : (ts : Tokens) (p : Prog) → 4 * nodes (added ts p) ≤ 4 * nodes p + length (entries ts)
  added_words nothing p = omega arith
  added_words (t then ts) p = omega (arith, added_words ts (add p (item_of t)), add_nodes p (item_of t), item_words t, length-append (entries_of t) (entries ts))

  lists_words : (ls : Lists) → 4 * length (words_in (branches_for ls)) ≤ length (list_entries ls)
  lists_words neither = omega arith
  lists_words (ts or ls) =
      omega (arith, added_words ts end, lists_words ls, length-append (words_of (added ts end)) (words_in (branches_for ls)), length-append (entries ts) (list_entries ls))

-- backwards, tokens have as many entries
mutual
  unfolding backwards entries

  pub backwards_long_of : (t : Token) → length (entries_of (backwards_of t)) ≡ length (entries_of t)
  backwards_long_of (Byte v) = refl
  backwards_long_of (NotByte v) = refl
  backwards_long_of (MaskedByte v m) = refl
  backwards_long_of (NotMaskedByte v m) = refl
  backwards_long_of (Jump from to) = refl
  backwards_long_of (Alternatives ls) = omega (arith, backwards_long_in ls)

  pub backwards_long : (ts : Tokens) → length (entries (backwards ts)) ≡ length (entries ts)
  backwards_long nothing = refl
  backwards_long (t then ts) =
      omega (arith, ap length (entries_join (backwards ts) (backwards_of t then nothing)), length-append (entries (backwards ts)) (entries_of (backwards_of t) ++ []), length-append (entries_of (backwards_of t)) [], backwards_long ts, backwards_long_of t, length-append (entries_of t) (entries ts))

  backwards_long_in : (ls : Lists) → length (list_entries (backwards_in ls)) ≡ length (list_entries ls)
  backwards_long_in neither = refl
  backwards_long_in (ts or ls) =
      omega (arith, backwards_long ts, backwards_long_in ls, length-append (entries ts) (list_entries ls), length-append (entries (backwards ts)) (list_entries (backwards_in ls)))
