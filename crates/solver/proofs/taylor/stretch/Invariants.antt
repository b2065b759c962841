-- `solver::taylor::stretch` meets its contract. The invariant: the first i coefficients are the new ones, and power is q^i modulo m.
use Prim.Native.Nat.{◌*◌, ◌%◌, ◌^◌, ◌≤◌}
use Rattle.theory.specs.inner.Polynomial.{coef}
use Rattle.theory.specs.inner.Overwritten.{Overwritten}
use Rattle.theory.proofs.Numbers.Congruence.{Congruent}
use Rattle.solver.proofs.taylor.stretch.Given as goal

abbrev pub invariant-loop-a : goal.invariant-loop-a
invariant-loop-a l =
    (l.power ≤ l.m) × Congruent l.m l.power (l.q ^ l.a-index) × Overwritten (λ k. l.q ^ k * coef l.initial.g k % l.m) 0 l.a-index l.initial.g l.g
