-- `solver::valuation::least_valuation` meets its contract. The invariant: best is 64 lowered by the first i coefficients.
use mathlib.Core.Path.{◌≡◌}
use lib.ListN.{take}
use Rattle.solver.proofs.Lowest.{lowest}
use Rattle.solver.proofs.valuation.least_valuation.Given as goal

abbrev pub invariant-loop-a : goal.invariant-loop-a
invariant-loop-a l = l.best ≡ lowest l.p 64 (take l.a-index l.g)
