-- `emit::add_lists` meets its contract. Assumes nothing.
use Rattle.std.proofs.Common.{◌≡◌, ℕ, Bool, not, ◌||◌, ltb, leb, ap, arith}
use Rattle.std.proofs.lemmas.Bool.Decides.{nat_tests}
use Rattle.def_meaning.specs.Limits.{branch_limit}
use Rattle.emit.proofs.BranchLaws as law
use Rattle.emit.proofs.add_lists.Goals as goal

pub bounds-entries-x : goal.bounds-entries-x
bounds-entries-x c = let f = law.part_fits _ _ _ _ _ _ _ _ _ c.loop-l.invariant c.loop-l-test.true c.requires.2 in omega arith

pub slice_bounds-add_list-end : goal.slice_bounds-add_list-end
slice_bounds-add_list-end c = let f = law.part_fits _ _ _ _ _ _ _ _ _ c.loop-l.invariant c.loop-l-test.true c.requires.2 in omega arith

pub slice_bounds-add_list-count-in-loop-l : goal.slice_bounds-add_list-count-in-loop-l
slice_bounds-add_list-count-in-loop-l c = let f = law.part_fits _ _ _ _ _ _ _ _ _ c.loop-l.invariant c.loop-l-test.true c.requires.2 in omega arith

pub slice_bounds-add_list-start-in-loop-l : goal.slice_bounds-add_list-start-in-loop-l
slice_bounds-add_list-start-in-loop-l c = let f = law.part_fits _ _ _ _ _ _ _ _ _ c.loop-l.invariant c.loop-l-test.true c.requires.2 in omega arith

pub bounds-out-n : goal.bounds-out-n
bounds-out-n c = let f = law.part_fits _ _ _ _ _ _ _ _ _ c.loop-l.invariant c.loop-l-test.true c.requires.2 in omega arith

pub branch_word-requires : goal.branch_word-requires
branch_word-requires c =
    let f = law.part_fits _ _ _ _ _ _ _ _ _ c.loop-l.invariant c.loop-l-test.true c.requires.2 in
    let m = law.of_list_few _ _ _ _ _ _ _ _ _ c.loop-l.invariant c.loop-l-test.true in
    omega (arith, c.requires, c.add_list-m.ensures.0)

above : (n m : ℕ) → ltb n m ≡ not (leb m n)
above n m = grind (arith, nat_tests)

pub loop-l-preserved : goal.loop-l-preserved
loop-l-preserved c =
    let l = c.loop-l in
    let m = c.add_list-m in
    law.left_more _ _ _ _ _ _ _ _ _ l.invariant c.loop-l-test.true m.new.out m.result c.branch_word.result _ c.requires.2 m.ensures.0 m.ensures.1 c.branch_word.ensures (ap (λ (b : Bool). l.long || b) (above branch_limit m.result))

pub returns : goal.returns
returns c = law.left_end _ _ _ _ _ _ _ _ _ c.loop-l-test.false c.loop-l.invariant
