-- `classes::Entry::is_plain` meets its contract. Assumes nothing.
use Rattle.std.proofs.Common.{not, sym, ap, ◌∙◌, ⊎_elim}
use Rattle.classes.proofs.EntryLaws.{neither_plain, plain_but}
use Rattle.classes.proofs.Entry.is_plain.Goals as goal
use Rattle.classes.proofs.Entry.is_plain.Goals.{in-Any, in_default}

pub returns : goal.returns
returns c =
    elim c.match-matches.branch [
      | in-Any w ↦ ap not w.matches-is ∙ sym (neither_plain _ w.in-Any.is)
      | in_default w ↦ ap not w.matches-is ∙ sym (plain_but _ (⊎_elim (λ h. w.in_default.not-Any h.0 h.1) (⊎_elim (λ h. w.in_default.not-NotAny h.0 h.1) w.in_default.not-Other)))
    ]
