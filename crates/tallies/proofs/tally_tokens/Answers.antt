-- `tallies::tally_tokens` meets its contract. Assumes nothing.
use Rattle.std.proofs.Common.{ℕ, ◌≡◌, ◌*◌, min, sym, ap, ◌∙◌, arith, rules}
use Rattle.def_picking.specs.Numbers.{count}
use Rattle.def_picking.specs.Literals.{combinations as combinations_all}
use Rattle.classes.specs.declared.Entry.TheVariants.{Byte}
use Rattle.entries.specs.declared.Token.TheVariants.{One}
use Rattle.entries.specs.Words.{tokens_in}
use Rattle.tallies.specs.Tallies.{count_top}
use Rattle.tallies.proofs.TallyLaws as law
use Rattle.tallies.proofs.tally_tokens.Goals as goal

pub loop-token-preserved : goal.loop-token-preserved
loop-token-preserved c =
    let f = c.in-Some.ensures.steps in (
      search rules,
      search rules,
      omega (arith, c.times-literals.ensures),
      omega (arith, c.times-combinations.ensures),
      c.loop-token.invariant.4 ∙ law.tokens_count_more _ _ _ f _ c.loop-token.literals c.tally_token-t.ensures.literals_are
          ∙ ap (λ (x : ℕ). min count_top (x * count (tokens_in c.next.new.self.words.now))) (sym c.times-literals.ensures),
      c.loop-token.invariant.5 ∙ law.tokens_combinations_more _ _ _ f _ c.loop-token.combinations c.tally_token-t.ensures.combinations_are
          ∙ ap (λ (x : ℕ). min count_top (x * combinations_all (tokens_in c.next.new.self.words.now))) (sym c.times-combinations.ensures),
    )

pub loop-token-preserved-in-One-Byte : goal.loop-token-preserved-in-One-Byte
loop-token-preserved-in-One-Byte c =
    let a = c.in-One-Byte in
    let e : a.field-0 ≡ Byte a.field-0-0 = rw a.is at a.field-0-is in
    let t = a.is ∙ ap One e in
    let f = c.in-Some.ensures.steps in (
      search rules,
      search rules,
      c.loop-token.invariant.2,
      c.loop-token.invariant.3,
      c.loop-token.invariant.4 ∙ law.byte_count_more _ _ _ f a.field-0-0 t c.loop-token.literals c.loop-token.invariant.2,
      c.loop-token.invariant.5 ∙ law.byte_combinations_more _ _ _ f a.field-0-0 t c.loop-token.combinations c.loop-token.invariant.3,
    )

pub returns : goal.returns
returns c =
    let short = c.in-None.ensures.steps.0 in
    record {
      literals_are = sym (c.loop-token.invariant.4 ∙ law.tokens_count_end _ short _ c.loop-token.invariant.2);
      combinations_are = sym (c.loop-token.invariant.5 ∙ law.tokens_combinations_end _ short _ c.loop-token.invariant.3);
    }
