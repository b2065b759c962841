-- `solver::mark::derivative` meets its contract. The invariant: the first i coefficients are the derivative's.
use Prim.Native.Nat.{◌%◌}
use Rattle.theory.specs.Polynomial.{derivative, divided}
use Rattle.theory.specs.inner.Polynomial.{coef}
use Rattle.theory.specs.inner.Overwritten.{Overwritten}
use Rattle.solver.proofs.mark.derivative.Given as goal

abbrev pub invariant-loop-i : goal.invariant-loop-i
invariant-loop-i l = Overwritten (λ k. coef (derivative (divided l.q l.f)) k % l.p) 0 l.i l.initial.d l.d
