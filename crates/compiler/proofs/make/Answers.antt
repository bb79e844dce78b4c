-- `compiler::make` meets its contract. Assumes nothing.
use Rattle.std.proofs.Common.{◌≡◌, sym, length, arith}
use Rattle.std.proofs.Math.Seq.{length-take-le}
use Rattle.def_meaning.specs.Limits.{entry_limit}
use Rattle.compiler.proofs.ProgramLaws as law
use Rattle.compiler.proofs.make.Goals as goal

pub slice_bounds-places-end : goal.slice_bounds-places-end
slice_bounds-places-end c =
    let k : length c.find_starts-count.new.starts ≡ entry_limit = c.find_starts-count.auto.starts in
    let few = law.count_fits c.args.tokens.now c.requires.0.tokens c.requires.0.entered c.requires.0.short c.find_starts-count.result (c.find_starts-count.ensures c.requires.0.tokens c.requires.0.entered).0 in
    omega arith

pub slice_bounds-starts-end : goal.slice_bounds-starts-end
slice_bounds-starts-end c =
    let k : length c.find_starts-count.new.starts ≡ entry_limit = c.find_starts-count.auto.starts in
    let few = law.count_fits c.args.tokens.now c.requires.0.tokens c.requires.0.entered c.requires.0.short c.find_starts-count.result (c.find_starts-count.ensures c.requires.0.tokens c.requires.0.entered).0 in
    sym (length-take-le c.find_starts-count.result c.find_starts-count.new.starts (omega arith))

pub returns-then-long-clause-made : goal.returns-then-long-clause-made
returns-then-long-clause-made c =
    let f = c.add_tokens-forward in
    let r = c.add_tokens-reverse in
    λ ts e s. let q = c.find_starts-count.ensures ts e in
    law.made_long c.args.tokens.now ts e s (c.requires.1 ts e) c.find_starts-count.result _ _ q.0 q.1 _ _ _ _ f.result.count r.result.count
    f.result.long r.result.long f.ensures.0 r.ensures.0 f.ensures.1 r.ensures.1 f.ensures.2 r.ensures.2 c.if-long.true

pub returns-then-forward-gt-NODE_LIMIT-clause-made : goal.returns-then-forward-gt-NODE_LIMIT-clause-made
returns-then-forward-gt-NODE_LIMIT-clause-made c =
    let f = c.add_tokens-forward in
    let r = c.add_tokens-reverse in
    λ ts e s. let q = c.find_starts-count.ensures ts e in
    law.made_many c.args.tokens.now ts e s (c.requires.1 ts e) c.find_starts-count.result _ _ q.0 q.1 _ _ _ _ f.result.count r.result.count
    f.result.long r.result.long f.ensures.0 r.ensures.0 f.ensures.1 r.ensures.1 f.ensures.2 r.ensures.2 c.if-long.false c.then-forward-gt-NODE_LIMIT.either

pub returns-clause-made : goal.returns-clause-made
returns-clause-made c =
    let f = c.add_tokens-forward in
    let r = c.add_tokens-reverse in
    λ ts e s. let q = c.find_starts-count.ensures ts e in
    law.made_both c.args.tokens.now ts e s (c.requires.1 ts e) c.find_starts-count.result _ _ q.0 q.1 _ _ _ _ f.result.count r.result.count
    f.result.long r.result.long f.ensures.0 r.ensures.0 f.ensures.1 r.ensures.1 f.ensures.2 r.ensures.2 c.if-long.false c.if-forward-gt-NODE_LIMIT.false c.if-reverse-gt-NODE_LIMIT.false
