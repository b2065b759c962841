-- `solver::differences::advance` meets its contract. The invariant: the entries below j − 1 are the new ones, the others the old ones.
use Prim.Native.Nat.{◌+◌, ◌-◌, ◌%◌, ◌≤◌}
use lib.ListN.{length, get_or}
use Rattle.theory.specs.inner.Overwritten.{Overwritten}
use Rattle.solver.proofs.differences.advance.Given as goal

abbrev pub invariant-loop-j : goal.invariant-loop-j
invariant-loop-j l =
    (l.j - 1 ≤ length l.initial.row - 1)
    × Overwritten (λ i. (get_or l.initial.row i 0 + get_or l.initial.row (i + 1) 0) % l.p) 0 (l.j - 1) l.initial.row l.row
