-- `literaldoor::pick_tokens` meets its contract. Assumes nothing.
use Rattle.std.proofs.Common.{sym, ◌∙◌}
use Rattle.base.specs.declared.Refusal.TheVariants.{TooManyLiterals}
use Rattle.entries.specs.Words.{tokens_in}
use Rattle.def_picking.specs.Candidates.{too_many_literals}
use Rattle.picks.specs.Ranks.{pick_says}
use Rattle.literaldoor.specs.Door.{literals_said}
use Rattle.literaldoor.proofs.DoorLaws as law
use Rattle.literaldoor.proofs.pick_tokens.Goals as goal

pub returns-then-not-plain_alternatives : goal.returns-then-not-plain_alternatives
returns-then-not-plain_alternatives c =
    rw (c.into.ensures.0, c.into.ensures.1) (law.not_plain c.args.reached (tokens_in c.args.ws.now) c.args.bytes.now c.args.lengths.now (sym c.plain_alternatives.ensures ∙ c.if-not-plain_alternatives.true))

pub returns-in_err-winner : goal.returns-in_err-winner
returns-in_err-winner c =
    let said = law.raised c.from_residual.result TooManyLiterals 0 c.from_residual.ensures.1 in
    law.plain_chosen c.args.reached (tokens_in c.args.ws.now) too_many_literals (literals_said c.from_residual.result)
    c.args.bytes.now c.args.lengths.now c.args.bytes.now c.args.lengths.now
    (sym c.plain_alternatives.ensures ∙ c.if-not-plain_alternatives.false) c.in_err-winner.ensures.0 (let h = law.too_many c.args.reached c.args.bytes.now c.args.lengths.now in (said ∙ h.0, h.1, h.2))

pub returns : goal.returns
returns c =
    law.plain_chosen c.args.reached (tokens_in c.args.ws.now) (pick_says c.args.ws.now c.in_ok-winner.winner) (literals_said c.write_winner.result)
    c.args.bytes.now c.args.lengths.now c.write_winner.new.bytes c.write_winner.new.lengths
    (sym c.plain_alternatives.ensures ∙ c.if-not-plain_alternatives.false) c.in_ok-winner.ensures.0 c.write_winner.ensures
