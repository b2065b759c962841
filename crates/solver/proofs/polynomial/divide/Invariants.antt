-- `solver::polynomial::divide` meets its contract. The invariant: the first coefficients are divided.
use Prim.Native.Nat.{◌/◌}
use lib.ListN.{get_or}
use Rattle.theory.specs.inner.Overwritten.{Overwritten}
use Rattle.solver.proofs.polynomial.divide.Given as goal

abbrev pub invariant-loop-a : goal.invariant-loop-a
invariant-loop-a l = Overwritten (λ k. get_or l.initial.g k 0 / l.q) 0 l.a-index l.initial.g l.g
