-- `solver::differences::values` meets its contract. The invariant: the first i values are written.
use Prim.Native.Nat.{◌%◌}
use Rattle.theory.specs.Polynomial.{value}
use Rattle.theory.specs.inner.Overwritten.{Overwritten}
use Rattle.solver.proofs.differences.values.Given as goal

abbrev pub invariant-loop-i : goal.invariant-loop-i
invariant-loop-i l = Overwritten (λ k. value l.g k % l.p) 0 l.i l.initial.row l.row
