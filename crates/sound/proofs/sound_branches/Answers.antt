-- The pieces are branches, whose words are flat. Assumes nothing.
use Rattle.std.proofs.Common.{rules}
use Rattle.def_meaning.specs.Words.{flat_words}
use Rattle.sound.specs.Steps.{branch_inside}
use Rattle.sound.proofs.SoundSteps.{sb, branch_steps}
use Rattle.sound.proofs.sound_branches.Goals as goal

pub returns : goal.returns
returns c = c.pieces.ensures sb flat_words branch_inside branch_steps (λ w r q. search rules) (λ ws r q. search rules)
