-- A word is proper if there is room for it, and its fields are by its kind. Assumes nothing.
use mathlib.Core.Path.{sym}
use borrow.Author.Tests.{lt-ltb, le-ltb}
use Rattle.def_meaning.specs.Words.{proper}
use Rattle.nodes.proofs.proper_word.Goals as goal

pub returns-then-w-ge-WORDS : goal.returns-then-w-ge-WORDS
unfolding proper
returns-then-w-ge-WORDS c =
    rw (le-ltb _ _ c.if-w-ge-WORDS.true)

pub returns-then-k-le-NEGATED_MASK : goal.returns-then-k-le-NEGATED_MASK
unfolding proper
returns-then-k-le-NEGATED_MASK c =
    rw (lt-ltb _ _ c.if-w-ge-WORDS.false, sym c.kind-k.ensures, sym c.first.ensures, sym c.second.ensures) c.proper_test.ensures

pub returns-else-k-le-NEGATED_MASK : goal.returns-else-k-le-NEGATED_MASK
unfolding proper
returns-else-k-le-NEGATED_MASK c =
    rw (lt-ltb _ _ c.if-w-ge-WORDS.false) c.proper_other.ensures
