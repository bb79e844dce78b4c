-- `literaldoor::literals` meets its contract. Assumes nothing.
use Rattle.std.proofs.Common.{◌≡◌, length, length-take, arith, le_refl}
use Rattle.std.proofs.lemmas.Result.{err_from_is_err_and}
use Rattle.def_meaning.specs.Limits.{token_pool}
use Rattle.literaldoor.proofs.DoorLaws as law
use Rattle.literaldoor.proofs.ToldLaws as told
use Rattle.literaldoor.specs.Door.{literals_said}
use Rattle.readdoor.proofs.Got as into
use Rattle.literaldoor.proofs.literals.Goals as goal

pub returns-in_err-read : goal.returns-in_err-read
returns-in_err-read c =
    let p = err_from_is_err_and c.from_residual.result c.from_residual.ensures.1 in
    rw (p.1, p.2) (law.text_refused c.args.text.now c.in_err-read.field-0.0.why c.in_err-read.field-0.0.place c.args.bytes.now c.args.lengths.now (into.got_refused c.args.text.now _ c.read.new.pool c.read.result c.read.ensures.0 c.read.ensures.1 (le_refl token_pool) c.in_err-read.field-0.0 c.in_err-read.was))

pub slice_bounds-tokens-end : goal.slice_bounds-tokens-end
slice_bounds-tokens-end c = let g = (into.got c.args.text.now _ c.read.new.pool c.read.result c.read.ensures.0 c.read.ensures.1 (le_refl token_pool) c.in_ok-read.read c.in_ok-read.was).fits in let k : length c.read.new.pool ≡ token_pool = c.read.auto.pool in omega arith

pub slice_bounds-pick_tokens-end : goal.slice_bounds-pick_tokens-end
slice_bounds-pick_tokens-end c = let g = (into.got c.args.text.now _ c.read.new.pool c.read.result c.read.ensures.0 c.read.ensures.1 (le_refl token_pool) c.in_ok-read.read c.in_ok-read.was).fits in let k : length c.read.new.pool ≡ token_pool = c.read.auto.pool in omega (arith, length-take c.in_ok-read.read.words c.read.new.pool)

pub pick_tokens-requires : goal.pick_tokens-requires
pick_tokens-requires c = let g = into.got c.args.text.now _ c.read.new.pool c.read.result c.read.ensures.0 c.read.ensures.1 (le_refl token_pool) c.in_ok-read.read c.in_ok-read.was in told.entries_asked c.args.text.now _ g.tokens g.verdict _ (law.front _ _ _ g.words) g.few

pub returns : goal.returns
returns c =
    let g = into.got c.args.text.now _ c.read.new.pool c.read.result c.read.ensures.0 c.read.ensures.1 (le_refl token_pool) c.in_ok-read.read c.in_ok-read.was in
    law.text_picked c.args.text.now _ g.tokens _ (literals_said c.pick_tokens.result) c.args.bytes.now c.args.lengths.now
    c.pick_tokens.new.bytes c.pick_tokens.new.lengths g.verdict (law.front _ _ _ g.words) c.pick_tokens.ensures
