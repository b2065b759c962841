-- `solver::differences::stage` meets its contract. The invariant: the entries from index i on are the new ones, the others the old ones.
use Prim.Native.Nat.{◌+◌, ◌-◌, ◌*◌, ◌%◌, ◌<◌}
use lib.ListN.{length, get_or}
use Rattle.theory.specs.inner.Overwritten.{Overwritten}
use Rattle.solver.proofs.differences.stage.Given as goal

abbrev pub invariant-loop-i : goal.invariant-loop-i
invariant-loop-i l =
    (l.k < l.i)
    × Overwritten (λ j. (get_or l.initial.row j 0 + (l.p - 1) * get_or l.initial.row (j - 1) 0) % l.p)
    l.i (length l.initial.row) l.initial.row l.row
