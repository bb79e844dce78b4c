-- `prefixes::prefixed_by`, which calls itself, meets its contract. Assumes nothing.
use Rattle.std.proofs.Common.{ℕ, ◌≡◌, ◌*◌, sym, ap, ◌∙◌, arith, rules}
use Rattle.def_picking.specs.Numbers.{prefix_of, prefixed}
use Rattle.entries.proofs.WalkLaws.{token_words, token_wide}
use Rattle.classes.specs.declared.Entry.TheVariants.{Byte}
use Rattle.entries.specs.declared.Token.TheVariants.{One}
use Rattle.entries.specs.Walks.{meant}
use Rattle.entries.specs.Words.{tokens_in}
use Rattle.prefixes.proofs.PrefixLaws as prefix
use Rattle.prefixes.proofs.+prefixed_by.Goals as goal

pub loop-token-preserved : goal.loop-token-preserved
loop-token-preserved t c =
    let a = c.in-One-Byte in
    let e : a.field-0 ≡ Byte a.field-0-0 = rw a.is at a.field-0-is in
    (search rules, search rules, prefix.past_more _ _ _ c.in-Some.ensures.steps a.field-0-0 (a.is ∙ ap One e) _ c.loop-token.invariant.2)

pub overflow_mul-after : goal.overflow_mul-after
overflow_mul-after t c =
    let num = prefix.past_numerable _ _ c.loop-token.invariant.2 c.args.p c.requires in
    omega (arith, prefix.after_fits _ _ _ c.in-Some.ensures.steps c.args.p num _ c.tally_token.ensures.literals_are)

pub prefixed_by-q-requires : goal.prefixed_by-q-requires
prefixed_by-q-requires t c =
    let num = prefix.past_numerable _ _ c.loop-token.invariant.2 c.args.p c.requires in
    let f = c.in-Some.ensures.steps in
    (omega (arith, c.decreases, c.loop-token.invariant.2.short, token_words _ _ _ f, token_wide _ _ _ f), prefix.after_numerable _ _ _ f c.args.p num _ c.tally_token.ensures.literals_are)

pub prefix_of-requires : goal.prefix_of-requires
prefix_of-requires t c =
    let num = prefix.past_numerable _ _ c.loop-token.invariant.2 c.args.p c.requires in
    let f = c.in-Some.ensures.steps in
    (prefix.prefixes_few _ _ _ f c.args.p num _ c.tally_token.ensures.literals_are, prefix.token_few _ _ _ f c.args.p num _ c.tally_token.ensures.literals_are)

pub returns-in-Some : goal.returns-in-Some
returns-in-Some t c =
    let num = prefix.past_numerable _ _ c.loop-token.invariant.2 c.args.p c.requires in
    let f = c.in-Some.ensures.steps in
    c.prefix_of.ensures
    ∙ ap (prefix_of (meant c.in-Some.token) c.args.p)
    (c.prefixed_by-q.ensures ∙ ap (λ (x : ℕ). prefixed (tokens_in c.next.new.self.words.now) (c.args.p * x) c.args.k) (prefix.token_exact _ _ _ f c.args.p num _ c.tally_token.ensures.literals_are))
    ∙ sym (prefix.prefixed_step _ _ _ f c.args.p c.args.k) ∙ sym (c.loop-token.invariant.2.numbered c.args.p c.args.k)

pub returns : goal.returns
returns t c =
    sym (c.loop-token.invariant.2.numbered c.args.p c.args.k ∙ prefix.prefixed_end _ c.in_default.ensures.steps.0 c.args.p c.args.k)
