-- `compiler::compile_tokens` meets its contract. Assumes nothing.
use Rattle.std.proofs.Common.{ℕ, ◌-◌, ◌≤◌, ◌≡◌, List, length, take, drop, replicate, sym, ◌∙◌, length-take-le, arith}
use borrow.Rule.Slice.PartMut.{put_mid}
use Rattle.def_meaning.specs.Limits.{node_pool}
use Rattle.base.specs.Pools.{cleared}
use Rattle.base.proofs.PoolLaws.{zeroed_fill, zeroed_cleared}
use Rattle.compiler.proofs.FillLaws as law
use Rattle.compiler.proofs.compile_tokens.Goals as goal

module _ (p q : List ℕ) (h : node_pool ≤ length p) (e : ((y : ℕ) → y ≡ 0 → y ≡ 0) → q ≡ replicate (length (take (node_pool - 0) (drop 0 p))) 0) where
  zeros : put_mid 0 node_pool p q ≡ cleared node_pool p
  zeros = zeroed_fill 0 node_pool p q (omega arith) h e ∙ zeroed_cleared node_pool p

pub slice_bounds-fill-end-then-is_err : goal.slice_bounds-fill-end-then-is_err
slice_bounds-fill-end-then-is_err c =
    let k : length c.put_programs-made.new.forward ≡ length c.args.forward.now = c.put_programs-made.auto.forward in
    sym (length-take-le node_pool c.put_programs-made.new.forward (omega (arith, c.requires.1)))

pub slice_bounds-fill-end-then-is_err-3 : goal.slice_bounds-fill-end-then-is_err-3
slice_bounds-fill-end-then-is_err-3 c =
    let k : length c.put_programs-made.new.reverse ≡ length c.args.reverse.now = c.put_programs-made.auto.reverse in
    sym (length-take-le node_pool c.put_programs-made.new.reverse (omega (arith, c.requires.2)))

pub returns-then-is_err : goal.returns-then-is_err
returns-then-is_err c =
    let m = c.put_programs-made in
    let k : length m.new.forward ≡ length c.args.forward.now = m.auto.forward in
    let l : length m.new.reverse ≡ length c.args.reverse.now = m.auto.reverse in
    λ ts e s. law.refused_fills m.result c.args.forward.now m.new.forward c.args.reverse.now m.new.reverse _ _ _ (m.ensures ts e s) (sym c.is_err.ensures.value ∙ c.if-is_err.true)
    (zeros m.new.forward _ (omega (arith, c.requires.1)) c.fill.ensures.after) (zeros m.new.reverse _ (omega (arith, c.requires.2)) c.fill-then-is_err.ensures.after)

pub returns-else-is_err : goal.returns-else-is_err
returns-else-is_err c =
    let m = c.put_programs-made in
    λ ts e s. law.made_fills m.result c.args.forward.now m.new.forward c.args.reverse.now m.new.reverse _ (m.ensures ts e s) (sym c.is_err.ensures.value ∙ c.if-is_err.false)
