-- `solver::polynomial::value` meets its contract. The invariant: v is the value of the coefficients that are done.
use mathlib.Core.Path.{◌≡◌}
use Prim.Native.Nat.{◌-◌, ◌%◌, ◌<◌}
use lib.ListN.{length, drop}
use Rattle.theory.specs.Polynomial.{value}
use Rattle.solver.proofs.polynomial.value.Given as goal

abbrev pub invariant-loop-a : goal.invariant-loop-a
invariant-loop-a l =
    (goal.iterator-loop-a).can_next l.a-iterator
    × (goal.iterator-loop-a).is_finite l.a-iterator
    × (l.v < l.m)
    × (l.v ≡ value (drop (length l.g - length l.yielded) l.g) l.x % l.m)
