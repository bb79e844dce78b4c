-- `spelling::write_list` meets its contract. Assumes nothing.
use Rattle.std.proofs.Common.{ℕ, ◌/◌, ◌*◌, ◌<◌, ◌≡◌, List, [], length, get_or, drop, ap, subst, arith}
use Rattle.def_picking.specs.Numbers.{literal_at}
use Rattle.entries.specs.Words.{branch_in}
use Rattle.spelling.proofs.SpellLaws as spell
use Rattle.spelling.proofs.WriteLaws as write
use Rattle.spelling.proofs.WriteLaws.{Halfway}
use Rattle.spelling.specs.Writing.{Written}
use Rattle.spelling.proofs.write_list.Goals as goal

pub nonzero_div-n : goal.nonzero_div-n
nonzero_div-n c =
    let h : c.loop-i.i < length c.args.ws.now / 4 = omega (arith, c.as_chunks.ensures.front_len) in
    let e = ap (λ (cs : List (List ℕ)). get_or cs c.loop-i.i []) c.as_chunks.ensures.front in
    spell.chunk_some c.args.ws.now c.loop-i.i _ h e c.from-entry.result c.from-entry.ensures c.count-c.result c.loop-i.n c.count-c.ensures.0 c.loop-i.invariant.0 c.loop-i.invariant.1
    c.loop-i.invariant.2

pub nonzero_div-k : goal.nonzero_div-k
nonzero_div-k c =
    let h : c.loop-i.i < length c.args.ws.now / 4 = omega (arith, c.as_chunks.ensures.front_len) in
    let e = ap (λ (cs : List (List ℕ)). get_or cs c.loop-i.i []) c.as_chunks.ensures.front in
    spell.chunk_rest_some c.args.ws.now c.loop-i.i _ h e c.from-entry.result c.from-entry.ensures c.count-c.result c.loop-i.n c.count-c.ensures.0 c.loop-i.invariant.0 c.loop-i.invariant.1
    c.loop-i.invariant.2

pub nonzero_rem-k : goal.nonzero_rem-k
nonzero_rem-k c =
    let h : c.loop-i.i < length c.args.ws.now / 4 = omega (arith, c.as_chunks.ensures.front_len) in
    let e = ap (λ (cs : List (List ℕ)). get_or cs c.loop-i.i []) c.as_chunks.ensures.front in
    spell.chunk_some c.args.ws.now c.loop-i.i _ h e c.from-entry.result c.from-entry.ensures c.count-c.result c.loop-i.n c.count-c.ensures.0 c.loop-i.invariant.0 c.loop-i.invariant.1
    c.loop-i.invariant.2

pub at-requires : goal.at-requires
at-requires c =
    let h : c.loop-i.i < length c.args.ws.now / 4 = omega (arith, c.as_chunks.ensures.front_len) in
    let e = ap (λ (cs : List (List ℕ)). get_or cs c.loop-i.i []) c.as_chunks.ensures.front in
    spell.chunk_digit c.args.ws.now c.loop-i.i _ h e c.from-entry.result c.from-entry.ensures c.count-c.result c.loop-i.n c.count-c.ensures.0 c.loop-i.invariant.0 c.loop-i.invariant.1
    c.loop-i.invariant.2 c.args.k

pub bounds-dst-i-in-loop-i : goal.bounds-dst-i-in-loop-i
bounds-dst-i-in-loop-i c =
    let h : c.loop-i.i < length c.args.ws.now / 4 = omega (arith, c.as_chunks.ensures.front_len) in
    let e = ap (λ (cs : List (List ℕ)). get_or cs c.loop-i.i []) c.as_chunks.ensures.front in
    let b =
    spell.chunk_byte c.args.ws.now c.loop-i.i _ h e c.from-entry.result c.from-entry.ensures c.count-c.result c.loop-i.n c.count-c.ensures.0 c.loop-i.invariant.0 c.loop-i.invariant.1
    c.loop-i.invariant.2 c.args.k in
    let half = subst (λ (l : List ℕ). Halfway (literal_at (branch_in c.args.ws.now) c.args.k) l c.loop-i.i c.args.dst.now c.loop-i.dst) b c.loop-i.invariant.3 in
    write.room_one _ _ _ _ _ _ half c.requires.2

pub bounds-dst-i : goal.bounds-dst-i
bounds-dst-i c =
    let h : c.loop-i.i < length c.args.ws.now / 4 = omega (arith, c.as_chunks.ensures.front_len) in
    let e = ap (λ (cs : List (List ℕ)). get_or cs c.loop-i.i []) c.as_chunks.ensures.front in
    let b =
    spell.byte_chunk c.args.ws.now c.loop-i.i _ h e c.from-entry.result c.from-entry.ensures _ c.loop-i.n c.in-Byte.is c.loop-i.invariant.0 c.loop-i.invariant.1 c.loop-i.invariant.2
    c.args.k in
    let half = subst (λ (l : List ℕ). Halfway (literal_at (branch_in c.args.ws.now) c.args.k) l c.loop-i.i c.args.dst.now c.loop-i.dst) b c.loop-i.invariant.3 in
    write.room_one _ _ _ _ _ _ half c.requires.2

pub loop-i-preserved-in-Byte : goal.loop-i-preserved-in-Byte
loop-i-preserved-in-Byte c =
    let h : c.loop-i.i < length c.args.ws.now / 4 = omega (arith, c.as_chunks.ensures.front_len) in
    let e = ap (λ (cs : List (List ℕ)). get_or cs c.loop-i.i []) c.as_chunks.ensures.front in
    let b =
    spell.byte_chunk c.args.ws.now c.loop-i.i _ h e c.from-entry.result c.from-entry.ensures _ c.loop-i.n c.in-Byte.is c.loop-i.invariant.0 c.loop-i.invariant.1 c.loop-i.invariant.2
    c.args.k in
    let half = subst (λ (l : List ℕ). Halfway (literal_at (branch_in c.args.ws.now) c.args.k) l c.loop-i.i c.args.dst.now c.loop-i.dst) b c.loop-i.invariant.3 in (
      spell.byte_chunk_rest c.args.ws.now c.loop-i.i _ h e c.from-entry.result c.from-entry.ensures _ c.loop-i.n c.in-Byte.is c.loop-i.invariant.0 c.loop-i.invariant.1
          c.loop-i.invariant.2,
      c.loop-i.invariant.1,
      c.loop-i.invariant.2,
      write.one_more _ _ _ _ _ _ half c.requires.2,
    )

pub loop-i-preserved : goal.loop-i-preserved
loop-i-preserved c =
    let h : c.loop-i.i < length c.args.ws.now / 4 = omega (arith, c.as_chunks.ensures.front_len) in
    let e = ap (λ (cs : List (List ℕ)). get_or cs c.loop-i.i []) c.as_chunks.ensures.front in
    let b =
    spell.chunk_byte c.args.ws.now c.loop-i.i _ h e c.from-entry.result c.from-entry.ensures c.count-c.result c.loop-i.n c.count-c.ensures.0 c.loop-i.invariant.0 c.loop-i.invariant.1
    c.loop-i.invariant.2 c.args.k in
    let half = subst (λ (l : List ℕ). Halfway (literal_at (branch_in c.args.ws.now) c.args.k) l c.loop-i.i c.args.dst.now c.loop-i.dst) b c.loop-i.invariant.3 in (
      spell.chunk_rest c.args.ws.now c.loop-i.i _ h e c.from-entry.result c.from-entry.ensures c.count-c.result c.loop-i.n c.count-c.ensures.0 c.loop-i.invariant.0 c.loop-i.invariant.1
          c.loop-i.invariant.2,
      spell.chunk_rest_some c.args.ws.now c.loop-i.i _ h e c.from-entry.result c.from-entry.ensures c.count-c.result c.loop-i.n c.count-c.ensures.0 c.loop-i.invariant.0
          c.loop-i.invariant.1 c.loop-i.invariant.2,
      spell.chunk_rest_few c.args.ws.now c.loop-i.i _ h e c.from-entry.result c.from-entry.ensures c.count-c.result c.loop-i.n c.count-c.ensures.0 c.loop-i.invariant.0
          c.loop-i.invariant.1 c.loop-i.invariant.2,
      rw c.at.ensures (write.one_more _ _ _ _ _ _ half c.requires.2),
    )

pub returns : goal.returns
returns c =
    let z : c.loop-i.i ≡ length c.as_chunks.result.0.now = omega arith in
    let l : literal_at (branch_in (drop (4 * c.loop-i.i) c.args.ws.now)) c.args.k ≡ [] = spell.chunks_end c.args.ws.now c.loop-i.i c.args.k (omega (arith, c.as_chunks.ensures.front_len)) in
    subst (λ (n : ℕ). Written n (literal_at (branch_in c.args.ws.now) c.args.k) c.args.dst.now c.loop-i.dst) z
    (write.all_written _ _ _ _ (subst (λ (l : List ℕ). Halfway (literal_at (branch_in c.args.ws.now) c.args.k) l c.loop-i.i c.args.dst.now c.loop-i.dst) l c.loop-i.invariant.3))
