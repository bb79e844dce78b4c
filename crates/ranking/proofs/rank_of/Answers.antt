-- `ranking::rank_of` meets its contract. Assumes nothing.
use Rattle.std.proofs.Common.{refl, None, Ok, Err}
use Rattle.entries.specs.Words.{tokens_in}
use Rattle.ranking.proofs.RankLaws as law
use Rattle.picks.proofs.WinnerLaws as winner
use Rattle.ranking.proofs.rank_of.Goals as goal

pub returns-then-t-gt-COMBINATION_LIMIT : goal.returns-then-t-gt-COMBINATION_LIMIT
returns-then-t-gt-COMBINATION_LIMIT c =
    winner.settled c.args.best (Ok None) _ (law.rank_skipped (tokens_in c.args.ws.now) _ _ c.tally_tokens-t.ensures.literals_are c.tally_tokens-t.ensures.combinations_are c.if-t-gt-COMBINATION_LIMIT.true)

pub returns-then-t-gt-LITERAL_LIMIT : goal.returns-then-t-gt-LITERAL_LIMIT
returns-then-t-gt-LITERAL_LIMIT c =
    winner.settled c.args.best (Err (record {})) _ (law.rank_excessive (tokens_in c.args.ws.now) _ _ c.tally_tokens-t.ensures.literals_are c.tally_tokens-t.ensures.combinations_are c.if-t-gt-COMBINATION_LIMIT.false c.if-t-gt-LITERAL_LIMIT.true)

pub returns : goal.returns
returns c =
    winner.settled_on c.args.best (Ok c.worth.result) _ _ c.worth.ensures (law.rank_given (tokens_in c.args.ws.now) _ _ c.tally_tokens-t.ensures.literals_are c.tally_tokens-t.ensures.combinations_are c.if-t-gt-COMBINATION_LIMIT.false c.if-t-gt-LITERAL_LIMIT.false _ _ refl c.penalty_of.ensures)
