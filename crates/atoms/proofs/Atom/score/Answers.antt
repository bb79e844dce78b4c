-- `atoms::Atom::score` meets its contract. Assumes nothing.
use Rattle.std.proofs.Common.{ℕ, ◌+◌, ◌∙◌, take, arith, rules, tests}
use Rattle.std.proofs.lemmas.Iterator.{YieldsList-from_slice, YieldsList-from_take, YieldsList-from_map}
use Rattle.std.proofs.lemmas.Iterator.Adapters.{fits_from_length, at_most_from_yields_List, total_from_yields_List}
use Rattle.std.proofs.Math.ListN.{length-take}
use Rattle.atoms.specs.Score.{byte_score}
use Rattle.atoms.proofs.Laws.{byte_le, atom_total}
use Rattle.atoms.proofs.Atom.score.Goals as goal

pub sum-requires-clause-fits : goal.sum-requires-clause-fits
sum-requires-clause-fits c =
    fits_from_length _ _ 4 _ (at_most_from_yields_List (YieldsList-from_take 4 (YieldsList-from_slice c.args.bytes.now cc) cc) (omega (arith, length-take {A = ℕ})))
    c.map.ensures.closure (omega arith) (λ x r q k. search (rules, tests, byte_le))

pub returns : goal.returns
returns c =
    total_from_yields_List (λ (a x : ℕ). a + x) 0 c.sum.result c.sum.ensures.ran
    (YieldsList-from_map _ byte_score (YieldsList-from_take 4 (YieldsList-from_slice c.args.bytes.now cc) cc) c.map.ensures.closure (λ x r q k. search (rules, tests)))
    ∙ atom_total (take 4 c.args.bytes.now)
