-- `report::main` meets its contract.
use mathlib.Core.Path.{◌≡◌}
use lib.ListN.{length}
use Rattle.report.specs.inner.Places.{Placed, to_go}
use Rattle.report.proofs.main.Given as goal

abbrev pub invariant-loop-next : goal.invariant-loop-next
invariant-loop-next l = (65536 ≡ length l.buffer) × Placed l.at

abbrev pub decreases-loop-next : goal.decreases-loop-next
decreases-loop-next l = to_go l.at
