-- `hits::hits` meets its contract. Assumes nothing.
use Rattle.std.proofs.Common.{◌≡◌, sym, ap, ◌∙◌, Bool, cond, is_some, ℕ, ◌+◌, drop, length, arith}
use Rattle.def_meaning.proofs.WordSpans.{sound_words_lem}
use Rattle.steps.specs.Steps.{seen}
use Rattle.hits.proofs.HitLaws as law
use Rattle.hits.proofs.hits.Goals as goal
use Rattle.hits.proofs.hits.Goals.{then-is_some, else-is_some}

pub loop-i-init : goal.loop-i-init
loop-i-init g c = law.none_yet g.W.Way.order c.args.words.now c.args.hay.now

pub check-requires : goal.check-requires
check-requires g c = sound_words_lem c.args.words.now (sym c.is_sound.ensures ∙ c.if-not-is_sound.false)

pub loop-i-preserved : goal.loop-i-preserved
loop-i-preserved g c =
    let o = g.W.Way.order in
    let W = c.args.words.now in
    let H = c.args.hay.now in
    let I = c.loop-i.i in
    let part = c.without-window.ensures ∙ ap (λ (k : ℕ). drop k (seen o H)) c.length.ensures in
    let told = c.is_some.ensures ∙ ap is_some c.check.ensures in
    elim c.if-is_some.branch [
      | then-is_some w ↦ w.last-is ∙ ap (λ (b : Bool). cond b (I + 1) c.loop-i.last) (sym w.if-is_some.true) ∙ ap (λ (b : Bool). cond b (I + 1) c.loop-i.last) told ∙ ap (cond _ (I + 1)) c.loop-i.invariant ∙ law.next_hit o W H _ I part
      | else-is_some w ↦ w.last-is ∙ ap (λ (b : Bool). cond b (I + 1) c.loop-i.last) (sym w.if-is_some.false) ∙ ap (λ (b : Bool). cond b (I + 1) c.loop-i.last) told ∙ ap (cond _ (I + 1)) c.loop-i.invariant ∙ law.next_hit o W H _ I part
    ]

pub returns : goal.returns
returns g c =
    let o = g.W.Way.order in
    let W = c.args.words.now in
    let H = c.args.hay.now in
    let all : c.loop-i.i ≡ length H = omega arith in
    c.loop-i.invariant ∙ ap (law.hit_in o W H) all ∙ law.sound_hit o W H (length H) (sym c.if-not-is_sound.false ∙ c.is_sound.ensures)
