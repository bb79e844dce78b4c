-- Each way out is a case of the definitions. Assumes nothing.
use Rattle.std.proofs.Common.{ℕ, length, sym, ◌∙◌, arith, length-append, length-drop}
use Rattle.std.proofs.Math.Seq.{length-take-le}
use Rattle.base.proofs.PoolLaws.{zeroed_fill}
use Rattle.def_meaning.proofs.WordSpans.{sound_words_lem}
use Rattle.mirror.proofs.DoorLaws as law
use Rattle.mirror.proofs.mirror.Goals as goal

pub returns-then-pool-lt-NODE_POOL : goal.returns-then-pool-lt-NODE_POOL
returns-then-pool-lt-NODE_POOL c =
    law.no_room c.args.words.now c.args.pool.now c.if-pool-lt-NODE_POOL.true

pub returns-then-n-gt-NODE_LIMIT : goal.returns-then-n-gt-NODE_LIMIT
returns-then-n-gt-NODE_LIMIT c =
    let words = c.args.words.now in
    let pool = c.args.pool.now in
    let room = c.if-pool-lt-NODE_POOL.false in
    let r = law.too_many words pool room c.if-n-gt-NODE_LIMIT.true in
    (r.0, zeroed_fill 0 512 pool _ (omega arith) room c.fill.ensures.after ∙ r.1)

pub returns-then-not-is_sound : goal.returns-then-not-is_sound
returns-then-not-is_sound c =
    let words = c.args.words.now in
    let pool = c.args.pool.now in
    let room = c.if-pool-lt-NODE_POOL.false in
    let r = law.not_sound words pool room c.if-n-gt-NODE_LIMIT.false (sym c.is_sound.ensures ∙ c.if-not-is_sound.true) in
    (r.0, zeroed_fill 0 512 pool _ (omega arith) room c.fill-then-not-is_sound.ensures.after ∙ r.1)

pub mirror_words-requires : goal.mirror_words-requires
mirror_words-requires c =
    let words = c.args.words.now in
    let pool = c.args.pool.now in
    let yes = sym c.is_sound.ensures ∙ c.if-not-is_sound.false in
    (sound_words_lem words yes, length-take-le _ pool (omega arith))

pub returns : goal.returns
returns c =
    let words = c.args.words.now in
    let pool = c.args.pool.now in
    let yes = sym c.is_sound.ensures ∙ c.if-not-is_sound.false in
    let room = c.if-pool-lt-NODE_POOL.false in
    let few = c.if-n-gt-NODE_LIMIT.false in
    let r = law.success words pool room few yes c.mirror_words.new.out c.mirror_words.ensures in
    (r.0, zeroed_fill (length words) 512 _ _ few (omega (arith, length-append {A = ℕ}, length-drop {A = ℕ}, room)) c.fill-2.ensures.after ∙ r.1)
