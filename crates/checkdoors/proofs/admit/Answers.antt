-- `checkdoors::admit` meets its contract: the tests, in their order. Assumes nothing.
use Rattle.std.proofs.Common.{sym, ◌∙◌}
use Rattle.checkdoors.proofs.DoorLaws as law
use Rattle.checkdoors.proofs.admit.Goals as goal

pub returns-then-end-start : goal.returns-then-end-start
returns-then-end-start c = let a = c.args in law.crossed a.words.now a.len a.start a.end c.if-end-start.true

pub returns-then-len-end : goal.returns-then-len-end
returns-then-len-end c = let a = c.args in law.beyond a.words.now a.len a.start a.end c.if-end-start.false c.if-len-end.true

pub returns-then-words-gt-NODE_LIMIT : goal.returns-then-words-gt-NODE_LIMIT
returns-then-words-gt-NODE_LIMIT c = let a = c.args in law.many a.words.now a.len a.start a.end c.if-end-start.false c.if-len-end.false c.if-words-gt-NODE_LIMIT.true

pub returns-then-not-is_sound : goal.returns-then-not-is_sound
returns-then-not-is_sound c = let a = c.args in law.unsound a.words.now a.len a.start a.end c.if-end-start.false c.if-len-end.false c.if-words-gt-NODE_LIMIT.false (sym c.if-not-is_sound.true ∙ c.is_sound.ensures)

pub returns : goal.returns
returns c = let a = c.args in law.passed a.words.now a.len a.start a.end c.if-end-start.false c.if-len-end.false c.if-words-gt-NODE_LIMIT.false (sym c.if-not-is_sound.false ∙ c.is_sound.ensures)
