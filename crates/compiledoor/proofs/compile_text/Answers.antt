-- `compiledoor::compile_text` meets its contract. Assumes nothing.
use Rattle.std.proofs.Common.{◌≡◌, sym, length, le_refl, arith, rules}
use Rattle.std.proofs.Math.Seq.{length-take-le}
use Rattle.def_meaning.specs.Limits.{token_pool}
use Rattle.compiledoor.proofs.DoorLaws as law
use Rattle.compiledoor.proofs.compile_text.Goals as goal

pub slice_bounds-tokens-end : goal.slice_bounds-tokens-end
slice_bounds-tokens-end c =
    let r = c.read in
    let g = law.got c.args.text.now _ r.new.pool r.result r.ensures.0 r.ensures.1 (le_refl token_pool) c.in-Ok.got c.in-Ok.is in
    let f = g.fits in
    let k : length r.new.pool ≡ token_pool = r.auto.pool in
    omega arith

pub slice_bounds-compile_tokens-end : goal.slice_bounds-compile_tokens-end
slice_bounds-compile_tokens-end c =
    let r = c.read in
    let g = law.got c.args.text.now _ r.new.pool r.result r.ensures.0 r.ensures.1 (le_refl token_pool) c.in-Ok.got c.in-Ok.is in
    let f = g.fits in
    let k : length r.new.pool ≡ token_pool = r.auto.pool in
    sym (length-take-le c.in-Ok.got.words r.new.pool (omega arith))

pub compile_tokens-requires : goal.compile_tokens-requires
compile_tokens-requires c =
    let r = c.read in
    ((law.got c.args.text.now _ r.new.pool r.result r.ensures.0 r.ensures.1 (le_refl token_pool) c.in-Ok.got c.in-Ok.is).whole, omega arith, omega arith)

pub returns-in-Err : goal.returns-in-Err
returns-in-Err c =
    let r = c.read in
    law.text_refused c.args.text.now c.args.forward.now c.args.reverse.now c.in-Err.why (omega arith) (omega arith)
    (law.got_refused c.args.text.now _ r.new.pool r.result r.ensures.0 r.ensures.1 (le_refl token_pool) c.in-Err.why c.in-Err.is)

pub returns-in_err-sizes : goal.returns-in_err-sizes
returns-in_err-sizes c =
    let r = c.read in
    let m = c.compile_tokens in
    let g = law.got c.args.text.now _ r.new.pool r.result r.ensures.0 r.ensures.1 (le_refl token_pool) c.in-Ok.got c.in-Ok.is in
    law.text_compiled c.args.text.now c.args.forward.now m.new.forward c.args.reverse.now m.new.reverse c.in-Ok.got.end g.tokens m.result _ g.verdict
    (law.said_in_err c.in-Ok.got.end m.result c.map_err.result _ (λ w y h. search rules) c.map_err.ensures.cases c.in_err-sizes.field-0.0 c.from_residual.result c.in_err-sizes.was c.from_residual.ensures.1)
    (m.ensures g.tokens g.words g.spelled)

pub returns : goal.returns
returns c =
    let r = c.read in
    let m = c.compile_tokens in
    let g = law.got c.args.text.now _ r.new.pool r.result r.ensures.0 r.ensures.1 (le_refl token_pool) c.in-Ok.got c.in-Ok.is in
    law.text_compiled c.args.text.now c.args.forward.now m.new.forward c.args.reverse.now m.new.reverse c.in-Ok.got.end g.tokens m.result _ g.verdict
    (law.said_in_ok c.in-Ok.got.end m.result c.map_err.result _ (λ w y h. search rules) c.map_err.ensures.cases c.in_ok-sizes.sizes c.in_ok-sizes.was) (m.ensures g.tokens g.words g.spelled)
