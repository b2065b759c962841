-- `solver::points::test_reduced` meets its contract.
use Rattle.refusal.proofs.Rules.{rule8_refuses, rule8_passes}
use Rattle.solver.specs.inner.Points.{tested_reduced}
use Rattle.solver.proofs.points.test_reduced.Goals as goal

pub returns-then-m-point : goal.returns-then-m-point
unfolding tested_reduced
returns-then-m-point c = rw (rule8_refuses _ _ c.if-m-point.true)

pub returns : goal.returns
unfolding tested_reduced
returns c = rw (rule8_passes _ _ c.if-m-point.false, c.value.ensures)
