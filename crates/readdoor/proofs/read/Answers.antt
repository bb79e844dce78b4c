-- Each way out gives what the definition gives there. Assumes nothing.
use Rattle.std.proofs.Common.{◌≡◌, ◌≤◌, length, drop, ◌++◌, ap, ◌∙◌, arith, rules, length-append, length-take-le}
use Rattle.base.proofs.PoolLaws.{zeroed_fill}
use Rattle.base.specs.Pools.{zeroed}
use Rattle.def_meaning.specs.Limits.{token_pool}
use Rattle.readdoor.specs.Door.{read_said}
use Rattle.readdoor.proofs.DoorLaws.{door_small, words_fit, door_read, door_refused}
use Rattle.readdoor.proofs.read.Goals.{Joined-r, in-Ok, in-Err}
use Rattle.readdoor.proofs.read.Goals as goal

pub returns-then-pool-lt-TOKEN_POOL : goal.returns-then-pool-lt-TOKEN_POOL
returns-then-pool-lt-TOKEN_POOL c =
    door_small c.args.text.now c.args.pool.now c.into.result c.if-pool-lt-TOKEN_POOL.true c.into.ensures.0 c.into.ensures.1

-- what is used of the lent words
fits : (c : Joined-r) → c.match-r.used ≤ token_pool
fits c =
    let k : length c.read_text-r.new.pool ≡ token_pool = c.read_text-r.auto.pool ∙ length-take-le token_pool c.args.pool.now c.if-pool-lt-TOKEN_POOL.false in
    elim c.match-r.branch [
      | in-Ok w ↦ (let f = words_fit c.args.text.now c.args.pool.now c.read_text-r.new.pool c.read_text-r.result c.if-pool-lt-TOKEN_POOL.false k c.read_text-r.ensures w.in-Ok.read w.in-Ok.is in omega arith)
      | in-Err w ↦ omega arith
    ]

pub offset_bounds-pool-used : goal.offset_bounds-pool-used
offset_bounds-pool-used c = let f = fits ((goal.at.offset_bounds-pool-used c).Joined-r) in search rules

pub slice_bounds-fill-count : goal.slice_bounds-fill-count
slice_bounds-fill-count c = fits ((goal.at.slice_bounds-fill-count c).Joined-r)

pub slice_bounds-fill-start : goal.slice_bounds-fill-start
slice_bounds-fill-start c = let f = fits ((goal.at.slice_bounds-fill-start c).Joined-r) in search rules

pub returns : goal.returns
returns c =
    let t = c.args.text.now in
    let p = c.args.pool.now in
    let q = c.read_text-r.new.pool in
    let k : length q ≡ token_pool = c.read_text-r.auto.pool ∙ length-take-le token_pool p c.if-pool-lt-TOKEN_POOL.false in
    let z = zeroed_fill c.match-r.used token_pool (q ++ drop token_pool p) c.fill.new.self (fits ((goal.at.returns c).Joined-r)) (omega (arith, length-append q (drop token_pool p))) c.fill.ensures.after in
    elim c.match-r.branch [
      | in-Ok w ↦ (let d = door_read t p q c.read_text-r.result c.if-pool-lt-TOKEN_POOL.false k c.read_text-r.ensures w.in-Ok.read _ w.in-Ok.is (z ∙ ap (λ i. zeroed i token_pool (q ++ drop token_pool p)) w.used-is) in (ap read_said w.r-is ∙ d.0, d.1))
      | in-Err w ↦ (let d = door_refused t p q c.read_text-r.result c.if-pool-lt-TOKEN_POOL.false k c.read_text-r.ensures w.in-Err.field-0 _ w.in-Err.is (z ∙ ap (λ i. zeroed i token_pool (q ++ drop token_pool p)) w.used-is) in (ap read_said (w.r-is ∙ w.in-Err.is) ∙ d.0, d.1))
    ]
