-- `solver::digits::inverse` meets its contract. The invariant: x·a is d modulo p.
use mathlib.Core.Path.{◌≡◌}
use Prim.Native.Nat.{◌*◌, ◌%◌, ◌<◌}
use Rattle.solver.proofs.digits.inverse.Given as goal

abbrev pub invariant-loop-d : goal.invariant-loop-d
invariant-loop-d l = (0 < l.d) × (l.d < l.p) × (l.x < l.p) × (l.x * l.a % l.p ≡ l.d)

abbrev pub decreases-loop-d : goal.decreases-loop-d
decreases-loop-d l = l.d
