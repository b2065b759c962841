-- `solver::valuation::valuation_any` meets its contract. The invariant: p divides x v times more than y.
use mathlib.Core.Path.{◌≡◌}
use Prim.Native.Nat.{◌+◌, ◌<◌}
use Rattle.theory.specs.Degree.{valuation}
use Rattle.solver.proofs.valuation.valuation_any.Given as goal

abbrev pub invariant-loop-y : goal.invariant-loop-y
invariant-loop-y l = (0 < l.y) × (l.v + valuation l.p l.y ≡ valuation l.p l.x)

abbrev pub decreases-loop-y : goal.decreases-loop-y
decreases-loop-y l = l.y
