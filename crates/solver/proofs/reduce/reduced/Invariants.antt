-- `solver::reduce::reduced` meets its contract. The invariant: the first i entries are the first i coefficients reduced.
use mathlib.Core.Path.{◌≡◌}
use mathlib.Core.List.{map}
use lib.ListN.{length, take}
use Rattle.theory.specs.Polynomial.{reduce}
use Rattle.solver.proofs.reduce.reduced.Given as goal

abbrev pub invariant-loop-i : goal.invariant-loop-i
invariant-loop-i l = (length l.table ≡ 65) × (take l.i l.table ≡ map (reduce l.m) (take l.i l.coefficients))
