-- `runs::part_words` meets its contract. Assumes nothing.
use Rattle.runs.proofs.PartLaws as parts
use Rattle.std.proofs.Common.{◌∙◌}
use Rattle.runs.proofs.part_words.Goals as goal

pub returns-then-ws-eq-BYTE : goal.returns-then-ws-eq-BYTE
returns-then-ws-eq-BYTE c =
    c.byte_words.ensures.0 ∙ parts.part_end_bytes c.args.ws.now c.if-ws-eq-BYTE.true

pub returns-else-ws-eq-BYTE : goal.returns-else-ws-eq-BYTE
returns-else-ws-eq-BYTE c =
    c.width_of.ensures ∙ parts.part_end_token c.args.ws.now c.if-ws-eq-BYTE.false
