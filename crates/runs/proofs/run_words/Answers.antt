-- `runs::run_words` meets its contract. Assumes nothing.
use Rattle.std.proofs.Common.{◌≡◌, refl, sym, ap, ◌∙◌, true, false, arith}
use Rattle.def_picking.specs.Runs.{closes}
use Rattle.entries.specs.Words.{token_in}
use Rattle.entries.proofs.WalkLaws.{token_words}
use Rattle.runs.specs.Whole.{run_end}
use Rattle.runs.proofs.SegmentLaws as law
use Rattle.runs.proofs.run_words.Goals as goal
use Rattle.runs.proofs.run_words.Goals.{in-Some+then-closes, in_default}

pub loop-token-preserved : goal.loop-token-preserved
loop-token-preserved c =
    let ws = c.loop-token.tokens.words.now in
    let i = c.loop-token.invariant in
    let f = c.in-Some.ensures.steps in
    let on : closes (token_in ws) ≡ false = ap closes (sym f.is) ∙ sym c.closes.ensures ∙ c.if-closes.false in
    let r = law.run_end_open ws f.long on in
    let w = token_words _ _ _ f in
    let l = ap run_end f.left in
    (refl, omega (arith, i.0, i.1, w), omega (arith, i.0, i.1, i.2, r, w, l, f.wide))

pub returns : goal.returns
returns c =
    let ws = c.loop-token.tokens.words.now in
    let i = c.loop-token.invariant in
    elim c.match-next.branch [
      | in-Some+then-closes w ↦
          (let f = w.in-Some.ensures.steps in
          let shut : closes (token_in ws) ≡ true = ap closes (sym f.is) ∙ sym w.closes.ensures ∙ w.if-closes.true in
          (omega (arith, i.2, law.run_end_closed ws f.long shut), omega arith))
      | in_default w ↦ (omega (arith, i.2, law.run_end_none ws w.in_default.ensures.steps.0), omega arith)
    ]
