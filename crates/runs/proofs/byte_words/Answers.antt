-- `runs::byte_words` meets its contract. Assumes nothing.
use Rattle.std.proofs.Common.{◌≡◌, refl, eqb, get_or, ap, ◌*◌, ◌∙◌, ◌/◌, length, List, ℕ, rules, tests}
use Rattle.std.specs.Simd.{first_chunks}
use Rattle.std.proofs.lemmas.Iterator.{YieldsList-from_slice}
use Rattle.std.proofs.lemmas.Iterator.Consumers.{count_from_yields_List}
use Rattle.std.proofs.lemmas.Iterator.Search.{YieldsList-from_take_while}
use Rattle.std.proofs.lemmas.List.Folds.{length-prefix_len}
use Rattle.runs.specs.Whole.{byte_end}
use Rattle.runs.proofs.PartLaws as parts
use Rattle.runs.proofs.byte_words.Goals as goal

pub returns : goal.returns
returns c =
    let n =
    count_from_yields_List c.take_while.result _ c.count.ensures.ran
    (YieldsList-from_take_while _ (λ e. eqb (get_or e 0 0) 0) (YieldsList-from_slice (first_chunks 4 (length c.args.ws.now / 4) c.args.ws.now) (cc (c.take_while.ensures.source, c.iter.ensures.rest, c.as_chunks.ensures.front))) c.take_while.ensures.closure c.take_while.ensures.done (λ x b q k. search (rules, tests))) in
    let k : 4 * c.count.result ≡ byte_end c.args.ws.now = ap (λ (x : ℕ). 4 * x) (n ∙ length-prefix_len (λ (e : List ℕ). eqb (get_or e 0 0) 0) (first_chunks 4 (length c.args.ws.now / 4) c.args.ws.now)) ∙ (parts.byte_entries _ c.args.ws.now refl).0 in
    (k, rw k (parts.byte_entries _ c.args.ws.now refl).1)
