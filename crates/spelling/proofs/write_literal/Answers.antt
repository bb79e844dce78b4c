-- `spelling::write_literal` meets its contract. Assumes nothing.
use Rattle.std.proofs.Common.{ℕ, ◌≡◌, ◌*◌, ◌<◌, List, sym, ap, ◌∙◌, subst, arith, rules}
use Rattle.def_picking.specs.Numbers.{literal_at}
use Rattle.classes.specs.declared.Entry.TheVariants.{Byte}
use Rattle.entries.specs.declared.Token.TheVariants.{One}
use Rattle.entries.specs.Walks.{meant}
use Rattle.entries.specs.Words.{tokens_in}
use Rattle.prefixes.proofs.PrefixLaws as prefix
use Rattle.prefixes.specs.Numbers.{Numerable}
use Rattle.spelling.proofs.SpellLaws as spell
use Rattle.spelling.proofs.WriteLaws as write
use Rattle.spelling.proofs.WriteLaws.{Halfway}
use Rattle.spelling.proofs.write_literal.Goals as goal

pub bounds-dst-i : goal.bounds-dst-i
bounds-dst-i c =
    let a = c.in-One-Byte in
    let e : a.field-0 ≡ Byte a.b = rw a.is at a.field-0-is in
    let s = spell.byte_piece _ _ _ c.in-Some.ensures.steps a.b (a.is ∙ ap One e) c.loop-token.p c.args.k in
    let half = subst (λ (l : List ℕ). Halfway (literal_at (tokens_in c.args.ws.now) c.args.k) l c.loop-token.i c.args.dst.now c.loop-token.dst) s c.loop-token.invariant.3 in
    write.room_one _ _ _ _ _ _ half c.requires.2

pub loop-token-preserved-in-One-Byte : goal.loop-token-preserved-in-One-Byte
loop-token-preserved-in-One-Byte c =
    let a = c.in-One-Byte in
    let e : a.field-0 ≡ Byte a.b = rw a.is at a.field-0-is in
    let t = a.is ∙ ap One e in
    let f = c.in-Some.ensures.steps in
    let n = prefix.byte_counted _ _ _ f a.b t in
    let s = spell.byte_piece _ _ _ f a.b t c.loop-token.p c.args.k in
    let half = subst (λ (l : List ℕ). Halfway (literal_at (tokens_in c.args.ws.now) c.args.k) l c.loop-token.i c.args.dst.now c.loop-token.dst) s c.loop-token.invariant.3 in (
      search rules,
      search rules,
      subst (λ (m : ℕ). Numerable c.loop-token.p m) n c.loop-token.invariant.2,
      write.one_more _ _ _ _ _ _ half c.requires.2,
      subst (λ (m : ℕ). c.args.k < c.loop-token.p * m) n c.loop-token.invariant.4,
    )

pub number_of-q-requires : goal.number_of-q-requires
number_of-q-requires c =
    let f = c.in-Some.ensures.steps in
    let num = c.loop-token.invariant.2 in
    let n = c.tally_token-t.ensures.literals_are in
    (prefix.after_numerable _ _ _ f c.loop-token.p num _ n, prefix.after_below _ _ _ f c.loop-token.p num _ n c.args.k c.loop-token.invariant.4)

pub write_token-i-requires : goal.write_token-i-requires
write_token-i-requires c =
    let f = c.in-Some.ensures.steps in
    let num = c.loop-token.invariant.2 in
    let n = c.tally_token-t.ensures.literals_are in
    let x = prefix.token_exact _ _ _ f c.loop-token.p num _ n in
    let s = spell.next_piece _ _ _ f c.loop-token.p c.args.k c.number_of-q.result _ x (c.number_of-q.ensures (meant c.in-Some.token) (sym x)) in
    let half = subst (λ (l : List ℕ). Halfway (literal_at (tokens_in c.args.ws.now) c.args.k) l c.loop-token.i c.args.dst.now c.loop-token.dst) s c.loop-token.invariant.3 in
    record {
      prefixes = prefix.prefixes_few _ _ _ f c.loop-token.p num _ n;
      some = prefix.token_some _ _ _ f c.loop-token.p num _ n;
      few = prefix.token_few _ _ _ f c.loop-token.p num _ n;
      fits = (write.room_piece _ _ _ _ _ _ half c.requires.2).1;
    }

pub overflow_mul-p : goal.overflow_mul-p
overflow_mul-p c =
    let num = c.loop-token.invariant.2 in
    omega (arith, prefix.after_fits _ _ _ c.in-Some.ensures.steps c.loop-token.p num _ c.tally_token-t.ensures.literals_are)

pub loop-token-preserved : goal.loop-token-preserved
loop-token-preserved c =
    let f = c.in-Some.ensures.steps in
    let num = c.loop-token.invariant.2 in
    let n = c.tally_token-t.ensures.literals_are in
    let x = prefix.token_exact _ _ _ f c.loop-token.p num _ n in
    let s = spell.next_piece _ _ _ f c.loop-token.p c.args.k c.number_of-q.result _ x (c.number_of-q.ensures (meant c.in-Some.token) (sym x)) in
    let half = subst (λ (l : List ℕ). Halfway (literal_at (tokens_in c.args.ws.now) c.args.k) l c.loop-token.i c.args.dst.now c.loop-token.dst) s c.loop-token.invariant.3 in (
      search rules,
      search rules,
      prefix.after_numerable _ _ _ f c.loop-token.p num _ n,
      write.piece_more _ _ _ _ _ _ _ _ half c.write_token-i.ensures,
      prefix.after_below _ _ _ f c.loop-token.p num _ n c.args.k c.loop-token.invariant.4,
    )

pub returns : goal.returns
returns c =
    write.all_written _ _ _ _ (subst (λ (l : List ℕ). Halfway (literal_at (tokens_in c.args.ws.now) c.args.k) l c.loop-token.i c.args.dst.now c.loop-token.dst)
    (spell.ending_end _ c.in_default.ensures.steps.0 c.loop-token.p c.args.k) c.loop-token.invariant.3)
