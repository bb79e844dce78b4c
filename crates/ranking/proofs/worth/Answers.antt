-- `ranking::worth` meets its contract. Assumes nothing.
use Rattle.std.proofs.Common.{drop, sym, ap, ◌∙◌, ◌+◌, min, arith}
use Rattle.entries.specs.Words.{tokens_in}
use Rattle.def_picking.specs.Candidates.{lowest}
use Rattle.def_picking.specs.Literals.{literals}
use Rattle.atoms.specs.Score.{literal_score}
use Rattle.ranking.proofs.RankLaws as rank
use Rattle.ranking.proofs.WorthLaws as law
use Rattle.ranking.proofs.worth.Goals as goal

pub returns-then-n-eq0 : goal.returns-then-n-eq0
returns-then-n-eq0 c =
    law.worth_all (tokens_in c.args.ws.now) c.args.penalty c.args.best 0 0 (rank.least_none literal_score (tokens_in c.args.ws.now) c.args.n c.requires.1 c.if-n-eq0.true) (omega arith)

pub loop-k-init : goal.loop-k-init
loop-k-init c =
    rank.least_first literal_score (tokens_in c.args.ws.now) c.args.n c.requires.1 c.if-n-eq0.false ∙ ap (lowest literal_score (drop 1 (literals (tokens_in c.args.ws.now)))) (sym c.score_at-least.ensures)

pub returns-then-most-eq0 : goal.returns-then-most-eq0
returns-then-most-eq0 c =
    law.worth_none (tokens_in c.args.ws.now) c.args.penalty c.args.best c.loop-k.k c.loop-k.least c.saturating_sub-most.result c.loop-k.invariant (omega (arith, c.saturating_sub-most.ensures)) c.if-most-eq0.true

pub returns-then-beaten : goal.returns-then-beaten
returns-then-beaten c =
    law.worth_beaten (tokens_in c.args.ws.now) c.args.penalty c.args.best c.loop-k.k c.loop-k.least c.saturating_sub-most.result c.loop-k.invariant (omega (arith, c.saturating_sub-most.ensures)) (c.beaten.ensures c.if-beaten.true)

pub loop-k-preserved : goal.loop-k-preserved
loop-k-preserved c =
    c.loop-k.invariant
    ∙ rank.lowest_more literal_score (tokens_in c.args.ws.now) c.loop-k.k c.args.n c.loop-k.least c.requires.1 c.loop-k-test.true
    ∙ ap (lowest literal_score (drop (c.loop-k.k + 1) (literals (tokens_in c.args.ws.now)))) (ap (min c.loop-k.least) (sym c.score_at.ensures) ∙ sym c.min-least.ensures)

pub returns : goal.returns
returns c =
    law.worth_all (tokens_in c.args.ws.now) c.args.penalty c.args.best c.loop-k.least c.saturating_sub.result (c.loop-k.invariant ∙ rank.lowest_end literal_score (tokens_in c.args.ws.now) c.loop-k.k c.args.n c.loop-k.least c.requires.1 c.loop-k-test.false) (omega (arith, c.saturating_sub.ensures))
