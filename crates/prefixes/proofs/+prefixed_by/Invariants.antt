-- `prefixes::prefixed_by`, which calls itself, meets its contract. Assumes nothing.
use Rattle.std.proofs.Common.{length}
use Rattle.prefixes.specs.Numbers.{Past}
use Rattle.prefixes.proofs.+prefixed_by.Given as goal

abbrev pub decreases-prefixed_by : goal.decreases-prefixed_by
decreases-prefixed_by l = length l.tokens.words.now

abbrev pub invariant-loop-token : goal.invariant-loop-token
invariant-loop-token l =
    (goal.iterator-loop-token).can_next l.tokens × (goal.iterator-loop-token).is_finite l.tokens
    × Past l.fn.tokens.words.now l.tokens.words.now
