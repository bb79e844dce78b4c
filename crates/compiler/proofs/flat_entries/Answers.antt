-- `compiler::flat_entries` meets its contract. Assumes nothing.
use Rattle.std.proofs.Common.{refl, ◌∙◌, ◌/◌, length, rules, tests}
use Rattle.std.specs.Simd.{first_chunks}
use Rattle.std.proofs.lemmas.Iterator.{YieldsList-from_slice}
use Rattle.std.proofs.lemmas.Iterator.Search.{all_from_yields_List}
use Rattle.compiler.proofs.WalkLaws.{flat_chunk, flat_chunks}
use Rattle.compiler.proofs.flat_entries.Goals as goal

pub returns : goal.returns
returns c =
    let ws = c.args.ws.now in
    let chunks = first_chunks 4 (length ws / 4) ws in
    all_from_yields_List flat_chunk _ _ c.all.result c.all.ensures.ran (YieldsList-from_slice chunks cc) (λ x b q k. search (rules, tests)) ∙ flat_chunks (length ws / 4) ws refl
