-- The blanks from here are those that the front of the rest has. Assumes nothing.
use Rattle.std.proofs.Common.{◌≡◌, ℕ, suc, ◌+◌, cond, List, [], ◌∷◌, length, take, refl, ap, ◌∙◌, arith, rules}
use Rattle.std.specs.List.{prefix_len}
use Rattle.std.proofs.lemmas.Iterator.{YieldsList-from_slice}
use Rattle.std.proofs.lemmas.Iterator.Consumers.{count_from_yields_List}
use Rattle.std.proofs.lemmas.Iterator.Search.{YieldsList-from_take_while}
use Rattle.std.proofs.lemmas.List.Folds.{length-prefix_len}
use Rattle.def_reading.specs.Blanks.{blank, blanks, skip}
use Rattle.digits.proofs.skip_blanks.Goals as goal

prefix_blanks : (s : List ℕ) → prefix_len blank s ≡ blanks s
unfolding blanks
prefix_blanks [] = refl
prefix_blanks (c ∷ s) = ap (λ n. cond (blank c) n 0) (let e = prefix_blanks s in let z : 1 + prefix_len blank s ≡ suc (blanks s) = omega arith in z)

pub returns : goal.returns
unfolding skip
returns c =
    let s = c.rest.result.now in
    let n : c.count.result ≡ length (take (prefix_len blank s) s) = count_from_yields_List _ c.count.result c.count.ensures.ran (YieldsList-from_take_while _ blank (YieldsList-from_slice s cc) c.take_while-blanks.ensures.closure c.take_while-blanks.ensures.done (λ x b q k. search rules)) in
    ap (λ i. c.args.at + i) (n ∙ length-prefix_len blank s ∙ prefix_blanks s ∙ ap blanks c.rest.ensures)
