-- A byte without a tilde is the token that it spells. Assumes nothing.
use Rattle.std.proofs.Common.{ap}
use Rattle.def_reading.specs.Pieces.{found, hex_token}
use Rattle.digits.specs.Answers.{hex_of}
use Rattle.digits.proofs.LeafFromHexByte.from.Goals as goal

pub returns-in-Whole : goal.returns-in-Whole
unfolding hex_token
returns-in-Whole c = λ s e. ap (λ h. hex_token (found (hex_of h) s e)) c.in-Whole.is

pub returns-in-Masked : goal.returns-in-Masked
unfolding hex_token
returns-in-Masked c = λ s e. ap (λ h. hex_token (found (hex_of h) s e)) c.in-Masked.is
