-- `solver::taylor::horner_step` meets its contract. The invariant: the coefficients from i on are the new ones, the others the old ones.
use mathlib.Core.List.{◌∷◌}
use Prim.Native.Nat.{◌+◌, ◌*◌, ◌%◌, ◌≤◌}
use Rattle.theory.specs.inner.Polynomial.{coef}
use Rattle.theory.specs.inner.Overwritten.{Overwritten}
use Rattle.solver.proofs.taylor.horner_step.Given as goal

abbrev pub invariant-loop-i : goal.invariant-loop-i
invariant-loop-i l = (1 ≤ l.i) × Overwritten (λ k. (coef (l.a ∷ l.initial.g) k + l.c * coef l.initial.g k) % l.m) l.i l.top l.initial.g l.g
