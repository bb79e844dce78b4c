-- The three readers together. A call falls in four times the bytes of text left, with a rank among calls that read nothing. Assumes nothing.
use Prim.Native.Char.{code}
use Rattle.std.proofs.Common.{◌≡◌, ℕ, ◌+◌, ◌≤◌, Bool, length, Ok, Err, sym, ap, ◌∙◌, subst, arith}
use Rattle.std.proofs.lemmas.Result.{err_from_is_err_and}
use Rattle.base.specs.declared.Refused.{Refused}
use Rattle.base.specs.declared.Refusal.TheVariants.{HexStringTooDeep, TooManyTokens}
use Rattle.def_meaning.specs.Limits.{token_pool}
use Rattle.def_meaning.specs.Entries.{entries_of}
use Rattle.def_reading.specs.Lists.{token, list}
use Rattle.def_reading.proofs.PieceLaws.{here_at, skip_from}
use Rattle.def_reading.proofs.ListSteps.{list_deep}
use Rattle.digits.specs.Answers.{leaf_seen, token_of}
use Rattle.reader.specs.Written.{written}
use Rattle.reader.specs.Says.{TokenGot, ListGot, TokenSays, ListSays, alternatives}
use Rattle.reader.proofs.SaysLaws.{says_same, says_read, says_absent, says_refused, list_says_refused, token_full, token_found, token_other, token_refuses, one_entry, no_bracket, bracket_full}
use Rattle.reader.proofs.ListLoop.{Tokened, stepped, tokened_start, tokened_next, tokened_end, tokened_stop}
use Rattle.reader.proofs.AlternativesLoop.{ListsRead, turned, lists_read_start, lists_read_next, lists_read_done, lists_read_else, lists_read_missing, lists_read_stop}
use Rattle.reader.proofs.+read_alternatives_read_list_read_token.Goals as goal

pub read_alternatives-returns-then-peek-ne40 : goal.read_alternatives-returns-then-peek-ne40
read_alternatives-returns-then-peek-ne40 t c =
    let f = c.args.from in
    says_absent (alternatives c.args.text.now c.args.level f.count f.at) f.words c.args.pool.now (no_bracket c.args.text.now c.args.level f.count f.at (λ z. c.if-peek-ne40.true (c.peek.ensures ∙ z)))

pub read_alternatives-returns-then-from-ge-TOKEN_LIMIT : goal.read_alternatives-returns-then-from-ge-TOKEN_LIMIT
read_alternatives-returns-then-from-ge-TOKEN_LIMIT t c =
    let f = c.args.from in
    says_refused (alternatives c.args.text.now c.args.level f.count f.at) f.words c.args.pool.now c.args.pool.now TooManyTokens f.at
    (bracket_full c.args.text.now c.args.level f.count f.at (sym c.peek.ensures ∙ c.if-peek-ne40.false) c.if-from-ge-TOKEN_LIMIT.true)

pub read_alternatives-loop-got-init : goal.read_alternatives-loop-got-init
read_alternatives-loop-got-init t c =
    let f = c.args.from in
    subst (λ (x : ℕ). ListsRead c.args.text.now c.args.level f.count f.at f.words c.args.pool.now c.args.pool.now x x (f.words + 4) (f.count + 1) 0) (sym c.skip_blanks.ensures)
    (lists_read_start c.args.text.now c.args.level f.count f.at f.words c.args.pool.now
    (here_at c.args.text.now f.at (code "(") (sym c.peek.ensures ∙ c.if-peek-ne40.false) (omega arith)) c.requires.0.used c.if-from-ge-TOKEN_LIMIT.false)

pub read_alternatives-put_head-requires : goal.read_alternatives-put_head-requires
read_alternatives-put_head-requires t c =
    let o = c.requires.0 in
    let l = c.loop-got in
    let f = c.args.from in
    let i = l.invariant in
    let g = c.in-Some.got in
    let w = turned c.args.text.now c.args.level f.count f.at f.words c.args.pool.now l.pool l.x.at l.miss l.x.words l.x.count l.k i c.read_list.result c.read_list.new.pool c.read_list.ensures
    g.to.at g.to.words g.to.count g.tokens (c.in_ok-got.was ∙ ap Ok c.in-Some.is) in
    let z : length c.read_list.new.pool ≡ token_pool = (c.read_list.auto.pool ∙ i.kept) ∙ o.pool in (w.more, omega arith, z, w.few)

pub read_alternatives-put_head-requires-in-41 : goal.read_alternatives-put_head-requires-in-41
read_alternatives-put_head-requires-in-41 t c =
    let o = c.requires.0 in
    let l = c.loop-got in
    let f = c.args.from in
    let i = l.invariant in
    let g = c.in-Some.got in
    let w = turned c.args.text.now c.args.level f.count f.at f.words c.args.pool.now l.pool l.x.at l.miss l.x.words l.x.count l.k i c.read_list.result c.read_list.new.pool c.read_list.ensures
    g.to.at g.to.words g.to.count g.tokens (c.in_ok-got.was ∙ ap Ok c.in-Some.is) in
    let z : length c.put_head.new.pool ≡ token_pool = (c.put_head.auto.pool ∙ (c.read_list.auto.pool ∙ i.kept)) ∙ o.pool in (omega arith, omega arith, z, omega arith)

pub read_alternatives-returns-in-41 : goal.read_alternatives-returns-in-41
read_alternatives-returns-in-41 t c =
    let o = c.requires.0 in
    let l = c.loop-got in
    let f = c.args.from in
    let i = l.invariant in
    let g = c.in-Some.got in
    let b = c.if-from-ge-TOKEN_LIMIT.false in
    let r : f.words + 4 ≤ length c.args.pool.now = omega arith in
    let r' : l.x.words + 4 ≤ length c.args.pool.now = omega arith in
    lists_read_done c.args.text.now c.args.level f.count f.at f.words c.args.pool.now l.pool l.x.at l.miss l.x.words l.x.count l.k i c.read_list.result c.read_list.new.pool c.read_list.ensures
    g.to.at g.to.words g.to.count g.tokens c.skip_blanks-at.result c.put_head.new.pool c.put_head-in-41.new.pool r r' (sym c.peek.ensures ∙ c.if-peek-ne40.false) b (c.in_ok-got.was ∙ ap Ok c.in-Some.is)
    c.put_head.ensures c.put_head-in-41.ensures (sym c.peek-in-loop-got.ensures ∙ c.in-41.is) c.skip_blanks-at.ensures

pub read_alternatives-returns-in_default-peek : goal.read_alternatives-returns-in_default-peek
read_alternatives-returns-in_default-peek t c =
    let l = c.loop-got in
    let f = c.args.from in
    let g = c.in-Some.got in
    let e = c.peek-in-loop-got.ensures in
    subst (λ (z : Refused). TokenSays (alternatives c.args.text.now c.args.level f.count f.at) f.words (Err z) c.args.pool.now c.put_head.new.pool) (sym c.unexpected-in_default-peek.ensures)
    (lists_read_else c.args.text.now c.args.level f.count f.at f.words c.args.pool.now l.pool l.x.at l.miss l.x.words l.x.count l.k l.invariant c.read_list.result c.read_list.new.pool c.read_list.ensures
    g.to.at g.to.words g.to.count g.tokens c.put_head.new.pool (sym c.peek.ensures ∙ c.if-peek-ne40.false) c.if-from-ge-TOKEN_LIMIT.false (c.in_ok-got.was ∙ ap Ok c.in-Some.is) (λ z. omega arith) (λ z. omega arith))

pub read_alternatives-loop-got-smaller : goal.read_alternatives-loop-got-smaller
read_alternatives-loop-got-smaller t c =
    let l = c.loop-got in
    let f = c.args.from in
    let g = c.in-Some.got in
    let w = turned c.args.text.now c.args.level f.count f.at f.words c.args.pool.now l.pool l.x.at l.miss l.x.words l.x.count l.k l.invariant c.read_list.result c.read_list.new.pool c.read_list.ensures
    g.to.at g.to.words g.to.count g.tokens (c.in_ok-got.was ∙ ap Ok c.in-Some.is) in
    let s = c.skip_blanks-at-in-124.ensures in
    let k = skip_from c.args.text.now (g.to.at + 1) in omega arith

pub read_alternatives-loop-got-preserved : goal.read_alternatives-loop-got-preserved
read_alternatives-loop-got-preserved t c =
    let o = c.requires.0 in
    let l = c.loop-got in
    let f = c.args.from in
    let i = l.invariant in
    let g = c.in-Some.got in
    let b = c.if-from-ge-TOKEN_LIMIT.false in
    let r : f.words + 4 ≤ length c.args.pool.now = omega arith in
    let r' : l.x.words + 4 ≤ length c.args.pool.now = omega arith in
    lists_read_next c.args.text.now c.args.level f.count f.at f.words c.args.pool.now l.pool l.x.at l.miss l.x.words l.x.count l.k i c.read_list.result c.read_list.new.pool c.read_list.ensures
    g.to.at g.to.words g.to.count g.tokens c.skip_blanks-at-in-124.result c.put_head.new.pool r r' (c.in_ok-got.was ∙ ap Ok c.in-Some.is) c.put_head.ensures (c.put_head.auto.pool ∙ (c.read_list.auto.pool ∙ i.kept))
    (sym c.peek-in-loop-got.ensures ∙ c.in-124.is) c.skip_blanks-at-in-124.ensures

pub read_alternatives-returns-in_default : goal.read_alternatives-returns-in_default
read_alternatives-returns-in_default t c =
    let l = c.loop-got in
    let f = c.args.from in
    subst (λ (z : Refused). TokenSays (alternatives c.args.text.now c.args.level f.count f.at) f.words (Err z) c.args.pool.now c.read_list.new.pool) (sym c.unexpected.ensures)
    (lists_read_missing c.args.text.now c.args.level f.count f.at f.words c.args.pool.now l.pool l.x.at l.miss l.x.words l.x.count l.k l.invariant c.read_list.result c.read_list.new.pool c.read_list.ensures
    (sym c.peek.ensures ∙ c.if-peek-ne40.false) c.if-from-ge-TOKEN_LIMIT.false (c.in_ok-got.was ∙ ap Ok c.in_default.is) c.read_list.new.pool)

pub read_alternatives-returns-in_err-got : goal.read_alternatives-returns-in_err-got
read_alternatives-returns-in_err-got t c =
    let l = c.loop-got in
    let f = c.args.from in
    let p = err_from_is_err_and c.from_residual.result c.from_residual.ensures.1 in
    let y = c.in_err-got.field-0.0 in
    subst (λ (r : TokenGot). TokenSays (alternatives c.args.text.now c.args.level f.count f.at) f.words r c.args.pool.now c.read_list.new.pool) (sym (p.1 ∙ ap Err p.2))
    (lists_read_stop c.args.text.now c.args.level f.count f.at f.words c.args.pool.now l.pool l.x.at l.miss l.x.words l.x.count l.k l.invariant c.read_list.result c.read_list.new.pool c.read_list.ensures
    (sym c.peek.ensures ∙ c.if-peek-ne40.false) c.if-from-ge-TOKEN_LIMIT.false y.why y.place c.in_err-got.was c.read_list.new.pool)

pub read_list-returns-then-level-gt-LEVEL_LIMIT : goal.read_list-returns-then-level-gt-LEVEL_LIMIT
read_list-returns-then-level-gt-LEVEL_LIMIT t c =
    let f = c.args.from in
    list_says_refused (list c.args.text.now c.args.level f.count f.at) f.words c.args.pool.now c.args.pool.now HexStringTooDeep f.at (list_deep c.args.text.now c.args.level f.count f.at c.if-level-gt-LEVEL_LIMIT.true)

pub read_list-loop-got-init : goal.read_list-loop-got-init
read_list-loop-got-init t c =
    let o = c.requires in
    let f = c.args.from in
    tokened_start c.args.text.now c.args.level f.count f.at f.words c.args.pool.now o.inside o.used o.few

pub read_list-loop-got-smaller : goal.read_list-loop-got-smaller
read_list-loop-got-smaller t c =
    let l = c.loop-got in
    let f = c.args.from in
    let g = c.in-Some.got in
    let s = stepped c.args.text.now c.args.level f.count f.at f.words c.args.pool.now l.pool l.to.at l.to.words l.to.count l.k l.first l.last l.invariant c.read_token.result c.read_token.new.pool c.read_token.ensures
    g.to.at g.to.words g.to.count g.jump (c.in_ok-got.was ∙ ap Ok c.in-Some.is) in omega arith

pub read_list-loop-got-preserved : goal.read_list-loop-got-preserved
read_list-loop-got-preserved t c =
    let o = c.requires in
    let l = c.loop-got in
    let f = c.args.from in
    let i = l.invariant in
    let g = c.in-Some.got in
    let r : f.words ≤ length c.args.pool.now = omega arith in
    subst (λ (b : Bool). Tokened c.args.text.now c.args.level f.count f.at f.words c.args.pool.now c.read_token.new.pool g.to.at g.to.words g.to.count (l.k + 1) b g.jump) (sym c.first_jump-first.ensures)
    (tokened_next c.args.text.now c.args.level f.count f.at f.words c.args.pool.now l.pool l.to.at l.to.words l.to.count l.k l.first l.last i c.read_token.result c.read_token.new.pool c.read_token.ensures
    g.to.at g.to.words g.to.count g.jump r c.read_token.auto.pool (c.in_ok-got.was ∙ ap Ok c.in-Some.is))

pub read_list-returns : goal.read_list-returns
read_list-returns t c =
    let l = c.loop-got in
    let f = c.args.from in
    subst (λ (r : ListGot). ListSays (list c.args.text.now c.args.level f.count f.at) f.words r c.args.pool.now c.read_token.new.pool) (sym c.list_end.ensures)
    (tokened_end c.args.text.now c.args.level f.count f.at f.words c.args.pool.now l.pool l.to.at l.to.words l.to.count l.k l.first l.last l.invariant c.read_token.result c.read_token.new.pool c.read_token.ensures c.if-level-gt-LEVEL_LIMIT.false
    (c.in_ok-got.was ∙ ap Ok c.in_default.is))

pub read_list-returns-in_err-got : goal.read_list-returns-in_err-got
read_list-returns-in_err-got t c =
    let l = c.loop-got in
    let f = c.args.from in
    let p = err_from_is_err_and c.from_residual.result c.from_residual.ensures.1 in
    let y = c.in_err-got.field-0.0 in
    subst (λ (r : ListGot). ListSays (list c.args.text.now c.args.level f.count f.at) f.words r c.args.pool.now c.read_token.new.pool) (sym (p.1 ∙ ap Err p.2))
    (tokened_stop c.args.text.now c.args.level f.count f.at f.words c.args.pool.now l.pool l.to.at l.to.words l.to.count l.k l.first l.last l.invariant c.read_token.result c.read_token.new.pool c.read_token.ensures c.if-level-gt-LEVEL_LIMIT.false
    y.why y.place c.in_err-got.was)

pub read_token-returns-in_err-leaf : goal.read_token-returns-in_err-leaf
read_token-returns-in_err-leaf t c =
    let f = c.args.from in
    let p = err_from_is_err_and c.from_residual.result c.from_residual.ensures.1 in
    let y = c.in_err-leaf.field-0.0 in
    subst (λ (r : TokenGot). TokenSays (token c.args.text.now c.args.level f.count f.at) f.words r c.args.pool.now c.args.pool.now) (sym (p.1 ∙ ap Err p.2))
    (says_refused (token c.args.text.now c.args.level f.count f.at) f.words c.args.pool.now c.args.pool.now y.why y.place (token_refuses c.args.text.now c.args.level f.count f.at (sym c.leaf_token.ensures ∙ ap leaf_seen c.in_err-leaf.was)))

pub read_token-returns-in_default : goal.read_token-returns-in_default
read_token-returns-in_default t c =
    let f = c.args.from in
    says_same (token c.args.text.now c.args.level f.count f.at) (alternatives c.args.text.now c.args.level f.count f.at) _ _ _ _
    (token_other c.args.text.now c.args.level f.count f.at (sym c.leaf_token.ensures ∙ ap leaf_seen (c.in_ok-leaf.was ∙ ap Ok c.in_default.is))) c.read_alternatives.ensures

pub read_token-returns-then-from-ge-TOKEN_LIMIT : goal.read_token-returns-then-from-ge-TOKEN_LIMIT
read_token-returns-then-from-ge-TOKEN_LIMIT t c =
    let f = c.args.from in
    says_refused (token c.args.text.now c.args.level f.count f.at) f.words c.args.pool.now c.args.pool.now TooManyTokens f.at
    (token_full c.args.text.now c.args.level f.count f.at (sym c.leaf_token.ensures ∙ ap leaf_seen (c.in_ok-leaf.was ∙ ap Ok c.in-Some.is)) c.if-from-ge-TOKEN_LIMIT.true)

pub read_token-returns : goal.read_token-returns
read_token-returns t c =
    let f = c.args.from in
    let k = c.in-Some.leaf in
    let w : length (entries_of (token_of k.value)) ≡ 4 = one_entry c.args.text.now c.args.level f.count f.at (sym c.leaf_token.ensures ∙ ap leaf_seen (c.in_ok-leaf.was ∙ ap Ok c.in-Some.is)) in
    says_read (token c.args.text.now c.args.level f.count f.at) f.words c.args.pool.now c.put.new.pool (token_of k.value) k.end (f.count + 1) (f.words + 4) c.is_jump-jump.result
    (token_found c.args.text.now c.args.level f.count f.at (sym c.leaf_token.ensures ∙ ap leaf_seen (c.in_ok-leaf.was ∙ ap Ok c.in-Some.is)) c.if-from-ge-TOKEN_LIMIT.false)
    (omega arith) c.is_jump-jump.ensures (c.put.ensures ∙ ap (written c.args.pool.now f.words) c.entry.ensures)
