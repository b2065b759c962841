-- `solver::differences::first_row` meets its contract. The invariant: k stages are done.
use mathlib.Core.Path.{◌≡◌}
use lib.ListN.{length}
use Rattle.solver.proofs.FiniteDifferences.{Stage}
use Rattle.solver.proofs.differences.first_row.Given as goal

abbrev pub invariant-loop-k : goal.invariant-loop-k
invariant-loop-k l = (length l.row ≡ length l.initial.row) × Stage l.p l.g l.k l.row
