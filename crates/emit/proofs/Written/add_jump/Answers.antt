-- `emit::Written::add_jump` meets its contract. Assumes nothing.
use Rattle.std.proofs.Common.{◌-◌, refl, sym, ap, ◌∙◌, set}
use Rattle.emit.proofs.PutLaws as law
use Rattle.emit.proofs.Written.add_jump.Goals as goal

pub overflow_sub-out : goal.overflow_sub-out
overflow_sub-out c =
    let w = c.args.self in
    law.grown_behind w.count w.last c.args.len c.in-Some.sum (sym c.in-Some.is ∙ c.grown.ensures) w.behind

pub invariant_of-result : goal.invariant_of-result
invariant_of-result c =
    let w = c.args.self in
    record { behind = law.grown_behind w.count w.last c.args.len c.in-Some.sum (sym c.in-Some.is ∙ c.grown.ensures) w.behind }

pub returns-in-Some : goal.returns-in-Some
returns-in-Some c =
    let w = c.args.self in
    let (a, b, d) = law.put_grown c.args.out.now w.count w.last c.args.len c.in-Some.sum (sym c.in-Some.is ∙ c.grown.ensures) in
    (a, b, ap (set c.args.out.now (w.count - 1)) c.into.ensures ∙ d, refl)

pub returns : goal.returns
returns c =
    let w = c.args.self in
    let (a, b, d) = law.put_beside c.args.out.now w.count w.last c.args.len (sym c.in_default.is ∙ c.grown.ensures) in
    (a, b, ap (set c.args.out.now w.count) c.into-2.ensures ∙ d, refl)
