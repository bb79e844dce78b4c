-- What is written so far is the head and the lines of the nodes so far. Assumes nothing.
use Rattle.std.proofs.Common.{◌≡◌, List, [], ◌++◌, ℕ, length, length-append, take, length-take-le, take_all, sym, ap, ◌∙◌, append-nil, arith}
use mathlib.Core.List.{flat_map}
use Rattle.lines.specs.Lines.{number_line, node_line, program_lines}
use Rattle.printing.proofs.LaidLaws.{flat_map_none}
use Rattle.printing.proofs.WriterLaws.{writes_same, writes_each}
use Rattle.lines.proofs.LineLaws.{length_number}
use Rattle.lines.proofs.ListingLaws.{length_nodes}
use Rattle.lines.proofs.put_program.Goals as goal

pub loop-word-init : goal.loop-word-init
loop-word-init c =
    let a = c.args in
    let head = number_line a.name.now (length a.words.now) in
    writes_same (head ++ flat_map node_line []) c.put_number_line.ensures (sym (ap (λ (x : List ℕ). head ++ x) (flat_map_none node_line) ∙ append-nil head))

pub put_node-requires : goal.put_node-requires
put_node-requires c =
    let a = c.args in
    let i = c.loop-word.word-index in
    let head = number_line a.name.now (length a.words.now) in
    let n = c.loop-word.invariant.put.next in
    let h = length_number a.name.now 19 (length a.words.now) (omega arith) in
    let b = length_nodes (take i a.words.now) in
    let k : length (take i a.words.now) ≡ i = length-take-le i a.words.now (omega arith) in
    let e = length-append head (flat_map node_line (take i a.words.now)) in
    omega arith

pub loop-word-preserved : goal.loop-word-preserved
loop-word-preserved c =
    let a = c.args in
    writes_each (number_line a.name.now (length a.words.now)) node_line a.words.now c.loop-word.word-index c.loop-word-test.true c.loop-word.invariant c.put_node.ensures

pub returns : goal.returns
unfolding program_lines
returns c =
    let a = c.args in
    let l = c.loop-word in
    let all = take_all l.word-index a.words.now c.loop-word-test.false in
    writes_same (program_lines a.name.now a.words.now) l.invariant (ap (λ (x : List ℕ). number_line a.name.now (length a.words.now) ++ flat_map node_line x) all)
