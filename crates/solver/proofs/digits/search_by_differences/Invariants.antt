-- `solver::digits::search_by_differences` meets its contract. The invariant: the digits below c at which the polynomial vanishes are found,
-- and the row at c is reached.
use mathlib.Core.Path.{◌≡◌}
use lib.ListN.{length, take}
use Rattle.solver.specs.inner.Table.{Differences}
use Rattle.solver.proofs.Zeros.{Found}
use Rattle.solver.proofs.digits.search_by_differences.Given as goal

abbrev pub invariant-loop-c : goal.invariant-loop-c
invariant-loop-c l =
    (length l.table ≡ 65) × Found l.p l.c l.count l.g l.initial.zeros l.zeros × Differences l.p l.g l.c (take l.len l.table)
