-- `solver::digits::reduce` meets its contract. The invariant: the first i coefficients are reduced.
use Prim.Native.Nat.{◌%◌}
use lib.ListN.{get_or}
use Rattle.theory.specs.inner.Overwritten.{Overwritten}
use Rattle.solver.proofs.digits.reduce.Given as goal

abbrev pub invariant-loop-i : goal.invariant-loop-i
invariant-loop-i l = Overwritten (λ k. get_or l.h k 0 % l.p) 0 l.i l.initial.g l.g
