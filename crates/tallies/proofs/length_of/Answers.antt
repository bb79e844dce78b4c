-- `tallies::length_of` meets its contract. Assumes nothing.
use Rattle.std.proofs.Common.{arith, rules}
use Rattle.entries.proofs.WalkLaws.{token_words}
use Rattle.tallies.proofs.TallyLaws as law
use Rattle.tallies.proofs.length_of.Goals as goal

pub loop-token-preserved : goal.loop-token-preserved
loop-token-preserved c =
    let f = c.in-Some.ensures.steps in (
      search rules,
      search rules,
      omega (arith, c.loop-token.invariant.2, c.length_token-n.ensures.1, token_words _ _ _ f),
      omega (arith, c.loop-token.invariant.3, c.length_token-n.ensures.0, law.tokens_length_more _ _ _ f),
    )

pub returns : goal.returns
returns c =
    let short = c.in-None.ensures.steps.0 in
    (omega (arith, c.loop-token.invariant.3, law.tokens_length_end _ short), omega (arith, c.loop-token.invariant.2))
