-- What the compiling door answers is what the definition compiles. Assumes nothing.
use Rattle.std.proofs.Common.{ℕ, ap, ◌∙◌, length-take, arith}
use Rattle.def_meaning.specs.Limits.{node_pool}
use Rattle.base.specs.Refusals.{number_of}
use Rattle.printing.proofs.WriterLaws.{writes_then, writes_same}
use Rattle.lines.specs.Lines.{refused_line}
use Rattle.lister.specs.Listings.{listing_of}
use Rattle.lister.proofs.DoorLaws.{made_door, refused_door, made_lines, refused_lines, programs_end, zeros, length_zeros}
use Rattle.lister.proofs.put_listing.Goals as goal

pub slice_bounds-forward-end : goal.slice_bounds-forward-end
slice_bounds-forward-end c =
    let k = c.compile in
    let t =
    made_door c.args.text.now (zeros node_pool) (zeros node_pool) k.new.forward k.new.reverse c.in-Ok.made k.result
    (length_zeros node_pool) (length_zeros node_pool)
    (k.auto.forward ∙ length_zeros node_pool) (k.auto.reverse ∙ length_zeros node_pool) c.in-Ok.is k.ensures.0 k.ensures.1 k.ensures.2 in
    omega (arith, t.forward_few)

pub slice_bounds-put_programs-end : goal.slice_bounds-put_programs-end
slice_bounds-put_programs-end c =
    let k = c.compile in
    let t =
    made_door c.args.text.now (zeros node_pool) (zeros node_pool) k.new.forward k.new.reverse c.in-Ok.made k.result
    (length_zeros node_pool) (length_zeros node_pool)
    (k.auto.forward ∙ length_zeros node_pool) (k.auto.reverse ∙ length_zeros node_pool) c.in-Ok.is k.ensures.0 k.ensures.1 k.ensures.2 in
    omega (arith, t.forward_few, length-take c.in-Ok.made.forward k.new.forward)

pub slice_bounds-reverse-end : goal.slice_bounds-reverse-end
slice_bounds-reverse-end c =
    let k = c.compile in
    let t =
    made_door c.args.text.now (zeros node_pool) (zeros node_pool) k.new.forward k.new.reverse c.in-Ok.made k.result
    (length_zeros node_pool) (length_zeros node_pool)
    (k.auto.forward ∙ length_zeros node_pool) (k.auto.reverse ∙ length_zeros node_pool) c.in-Ok.is k.ensures.0 k.ensures.1 k.ensures.2 in
    omega (arith, t.reverse_few)

pub slice_bounds-put_programs-end-in-Ok : goal.slice_bounds-put_programs-end-in-Ok
slice_bounds-put_programs-end-in-Ok c =
    let k = c.compile in
    let t =
    made_door c.args.text.now (zeros node_pool) (zeros node_pool) k.new.forward k.new.reverse c.in-Ok.made k.result
    (length_zeros node_pool) (length_zeros node_pool)
    (k.auto.forward ∙ length_zeros node_pool) (k.auto.reverse ∙ length_zeros node_pool) c.in-Ok.is k.ensures.0 k.ensures.1 k.ensures.2 in
    omega (arith, t.reverse_few, length-take c.in-Ok.made.reverse k.new.reverse)

pub put_picked-requires : goal.put_picked-requires
put_picked-requires c =
    let k = c.compile in
    let t =
    made_door c.args.text.now (zeros node_pool) (zeros node_pool) k.new.forward k.new.reverse c.in-Ok.made k.result
    (length_zeros node_pool) (length_zeros node_pool)
    (k.auto.forward ∙ length_zeros node_pool) (k.auto.reverse ∙ length_zeros node_pool) c.in-Ok.is k.ensures.0 k.ensures.1 k.ensures.2 in
    let l = programs_end k.new.forward k.new.reverse c.in-Ok.made.forward c.in-Ok.made.reverse c.put_programs.ensures t.forward_few t.reverse_few in
    omega arith

pub returns-in-Ok : goal.returns-in-Ok
returns-in-Ok c =
    let k = c.compile in
    let t =
    made_door c.args.text.now (zeros node_pool) (zeros node_pool) k.new.forward k.new.reverse c.in-Ok.made k.result
    (length_zeros node_pool) (length_zeros node_pool)
    (k.auto.forward ∙ length_zeros node_pool) (k.auto.reverse ∙ length_zeros node_pool) c.in-Ok.is k.ensures.0 k.ensures.1 k.ensures.2 in
    writes_same (listing_of c.args.text.now) (writes_then c.put_programs.ensures c.put_picked.ensures) (made_lines c.args.text.now t)

pub returns-in-Err : goal.returns-in-Err
returns-in-Err c =
    let a = c.args in
    let k = c.compile in
    let r = c.in-Err.refused in
    let e = refused_door a.text.now (zeros node_pool) (zeros node_pool) r k.result (length_zeros node_pool) (length_zeros node_pool) c.in-Err.is k.ensures.0 in
    writes_same (listing_of a.text.now) c.put_refused.ensures (ap (λ (n : ℕ). refused_line n r.place) c.number.ensures ∙ refused_lines a.text.now (number_of r.why) r.place e)
