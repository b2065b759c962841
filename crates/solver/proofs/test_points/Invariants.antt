-- `solver::test_points` meets its contract. The invariant: the records that are gone through have their answers, and the others are as they
-- were.
use mathlib.Core.Path.{◌≡◌}
use Rattle.solver.proofs.Testing.{row_at}
use Rattle.solver.proofs.test_points.Given as goal

abbrev pub invariant-loop-query : goal.invariant-loop-query
invariant-loop-query l = l.queries ≡ row_at l.g l.m l.initial.queries l.query-index
