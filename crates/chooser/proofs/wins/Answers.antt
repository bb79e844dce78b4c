-- `chooser::wins` meets its contract. Assumes nothing.
use Rattle.std.proofs.Common.{ap, ◌∙◌, List, ℕ, length}
use Rattle.def_picking.specs.Literals.{literals}
use Rattle.def_picking.specs.Candidates.{least}
use Rattle.entries.specs.Words.{tokens_in}
use Rattle.chooser.proofs.ShiftLaws as shift
use Rattle.chooser.proofs.wins.Goals as goal

pub returns-then-old-new : goal.returns-then-old-new
returns-then-old-new c = shift.higher_wins c.args.new.rank c.args.old.rank _ _ c.if-old-new.true

pub returns-then-old-new-2 : goal.returns-then-old-new-2
returns-then-old-new-2 c =
    let shortest : List ℕ → ℕ = λ l. least length (literals (tokens_in l)) in
    shift.equal_ranks c.args.new.rank c.args.old.rank _ _ _ _ c.if-old-new.false c.if-old-new-2.true (c.shortest_in.ensures ∙ ap shortest c.words.ensures) (c.shortest_in-then-old-new-2.ensures ∙ ap shortest c.words-then-old-new-2.ensures)

pub returns-else-old-new-2 : goal.returns-else-old-new-2
returns-else-old-new-2 c = shift.lower_loses c.args.new.rank c.args.old.rank _ _ c.if-old-new.false c.if-old-new-2.false
