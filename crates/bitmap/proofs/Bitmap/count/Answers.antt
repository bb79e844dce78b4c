-- `bitmap::Bitmap::count` meets its contract. Assumes nothing.
use Rattle.std.proofs.Common.{ℕ, ◌+◌, refl, arith, rules, tests, ◌∙◌}
use Rattle.std.proofs.lemmas.Iterator.{YieldsList-from_slice, YieldsList-from_map}
use Rattle.std.proofs.lemmas.Iterator.Adapters.{fits_from_length, at_most_from_yields_List, total_from_yields_List}
use Rattle.bitmap.specs.Bitmap.{bit, tally}
use Rattle.bitmap.proofs.Words.{words_sum}
use Rattle.bitmap.proofs.Bitmap.count.Goals as goal

pub sum-requires-clause-fits : goal.sum-requires-clause-fits
sum-requires-clause-fits c =
    fits_from_length _ _ 4 _ (at_most_from_yields_List (YieldsList-from_slice c.map.result.iter.rest.now refl) (search rules)) c.map.ensures.closure (omega arith) (λ x r q k. search (rules, tests))

pub returns : goal.returns
returns c =
    total_from_yields_List (λ (a x : ℕ). a + x) 0 c.sum.result c.sum.ensures.ran
    (YieldsList-from_map _ (λ w. tally (bit w) 64) (YieldsList-from_slice c.map.result.iter.rest.now refl) c.map.ensures.closure (λ x r q k. search (rules, tests)))
    ∙ words_sum c.map.result.iter.rest.now c.args.self.words (search rules) (search rules) (search rules) (search rules) (search rules)
