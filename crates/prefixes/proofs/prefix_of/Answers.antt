-- `prefixes::prefix_of` meets its contract. Assumes nothing.
use Rattle.std.proofs.Common.{ℕ, ◌/◌, sym, ap, ◌∙◌}
use Rattle.def_picking.specs.Numbers.{count, prefix_of}
use Rattle.prefixes.proofs.PrefixLaws as prefix
use Rattle.tallies.proofs.TallyLaws.{one_count}
use Rattle.prefixes.proofs.prefix_of.Goals as goal

pub prefix_in-requires : goal.prefix_in-requires
unfolding count
prefix_in-requires c = (c.requires.0, rw c.in-Alternatives.is at c.requires.1)

pub returns-in-Alternatives : goal.returns-in-Alternatives
unfolding prefix_of
returns-in-Alternatives c = rw c.in-Alternatives.is c.prefix_in.ensures

pub returns-in-One : goal.returns-in-One
returns-in-One c =
    rw c.in-One.is
    (c.unwrap_or.ensures ∙ prefix.checked _ _ _ c.checked_div.ensures ∙ ap (λ (n : ℕ). c.args.q / n) (c.count.ensures.0 ∙ sym (one_count c.in-One.entry))
    ∙ sym (prefix.one_prefix c.in-One.entry c.args.p c.args.q))
