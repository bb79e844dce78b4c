-- `entries::plain_list` meets its contract. Assumes nothing.
use Rattle.std.proofs.Common.{◌∙◌, rules, tests}
use Rattle.std.proofs.lemmas.Iterator.{YieldsList-from_slice}
use Rattle.std.proofs.lemmas.Iterator.Search.{all_from_yields_List}
use Rattle.def_picking.specs.Literals.{is_plain}
use Rattle.classes.specs.Entry.{entry_at}
use Rattle.entries.proofs.WalkLaws.{plain_entries}
use Rattle.entries.proofs.plain_list.Goals as goal

pub returns : goal.returns
returns c =
    all_from_yields_List (λ e. is_plain (entry_at e)) _ _ _ c.all.ensures.ran (YieldsList-from_slice _ (c.iter.ensures.rest ∙ c.as_chunks.ensures.front)) (λ x b q k. search (rules, tests))
    ∙ plain_entries c.args.ws.now
