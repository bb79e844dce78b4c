-- `generator::total_of` meets its contract. Assumes nothing.
use Rattle.std.proofs.Common.{ℕ, ◌∙◌, length, rules, tests, arith}
use Rattle.std.proofs.lemmas.Iterator.{YieldsList-from_map, YieldsList-from_range}
use Rattle.std.proofs.lemmas.Iterator.Consumers.{sum_from_yields_List, fits_from_yields_list}
use Rattle.def_picking.specs.Numbers.{literal_at}
use Rattle.entries.specs.Words.{tokens_in}
use Rattle.tallies.proofs.SizeLaws.{literal_fits}
use Rattle.generator.proofs.OutputLaws as law
use Rattle.generator.proofs.total_of.Goals as goal

pub sum-requires-clause-fits : goal.sum-requires-clause-fits
sum-requires-clause-fits c =
    fits_from_yields_list c.map.result _
    (YieldsList-from_map _ (λ (k : ℕ). length (literal_at (tokens_in c.args.ws.now) k)) (YieldsList-from_range 0 c.args.n c.args.n c.map.ensures.source (omega arith)) c.map.ensures.closure (λ x r q k. search (rules, tests)))
    (omega (arith, law.lengths_few (tokens_in c.args.ws.now) c.args.n c.requires.1 0 c.args.n (omega arith) (λ j h. omega (arith, literal_fits c.args.ws.now j (omega (arith, c.requires.1)), c.requires.0)), c.requires.2))

pub returns : goal.returns
returns c =
    sum_from_yields_List c.map.result _ c.sum.ensures.ran
    (YieldsList-from_map _ (λ (k : ℕ). length (literal_at (tokens_in c.args.ws.now) k)) (YieldsList-from_range 0 c.args.n c.args.n c.map.ensures.source (omega arith)) c.map.ensures.closure (λ x r q k. search (rules, tests)))
    ∙ law.lengths_added (tokens_in c.args.ws.now) c.args.n c.requires.1 0 c.args.n (omega arith)
