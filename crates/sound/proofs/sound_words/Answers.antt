-- The pieces are items, whose words are branches. Assumes nothing.
use Rattle.std.proofs.Common.{rules}
use Rattle.sound.specs.Steps.{item_inside}
use Rattle.sound.proofs.SoundSteps.{sb, sw, item_steps}
use Rattle.sound.proofs.sound_words.Goals as goal

pub returns : goal.returns
returns c = c.pieces.ensures sw sb item_inside item_steps (λ w r q. search rules) (λ ws r q. search rules)
