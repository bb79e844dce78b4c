-- A branch's words are flat if each of them is. Assumes nothing.
use Rattle.std.proofs.Common.{refl, sym, ◌∙◌, ◌&&◌, rules}
use Rattle.std.proofs.lemmas.Iterator.{YieldsList-from_slice}
use Rattle.std.proofs.lemmas.Iterator.Search.{all_from_yields_List}
use Rattle.std.proofs.lemmas.List.Recursion.{same_from_clauses}
use Rattle.std.specs.List.{list_all}
use Rattle.def_meaning.specs.Words.{flat_words}
use Rattle.sound.specs.Steps.{flat_word}
use Rattle.sound.proofs.SoundSteps.{flat_none, flat_cons}
use Rattle.sound.proofs.flat_words.Goals as goal

pub returns : goal.returns
returns c =
    all_from_yields_List flat_word _ _ _ c.all.ensures.ran (YieldsList-from_slice c.args.words.now cc) (λ x b q k. search rules)
    ∙ same_from_clauses (list_all flat_word) flat_words (λ w r. flat_word w && r) (sym flat_none) (λ _ _. refl) flat_cons c.args.words.now
