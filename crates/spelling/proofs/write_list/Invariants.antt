-- `spelling::write_list` meets its contract. Assumes nothing.
use Rattle.std.proofs.Common.{◌≡◌, ◌*◌, ◌≤◌, ◌<◌, drop}
use Rattle.def_meaning.specs.Limits.{literal_limit}
use Rattle.def_picking.specs.Numbers.{count, literal_at}
use Rattle.entries.specs.Words.{branch_in}
use Rattle.spelling.proofs.WriteLaws.{Halfway}
use Rattle.spelling.proofs.write_list.Given as goal

abbrev pub invariant-loop-i : goal.invariant-loop-i
invariant-loop-i l =
    (l.n ≡ count (branch_in (drop (4 * l.i) l.ws))) × (0 < l.n) × (l.n ≤ literal_limit)
    × Halfway (literal_at (branch_in l.ws) l.k) (literal_at (branch_in (drop (4 * l.i) l.ws)) l.k) l.i l.initial.dst l.dst
