-- The levels left fall: by one from `scan` to `settle`, and not from `settle` to `scan`.
use mathlib.Core.Path.{◌≡◌}
use Prim.Native.Nat.{◌+◌, ◌*◌}
use lib.ListN.{take}
use Rattle.theory.specs.Polynomial.{zeros}
use Rattle.solver.proofs.Counting.{counted}
use Rattle.solver.proofs.Scanning.{Scanned}
use Rattle.solver.proofs.tree.+scan_settle.Given as goal

abbrev pub decreases-scan : goal.decreases-scan
decreases-scan l = 2 * l.node.left

abbrev pub decreases-settle : goal.decreases-settle
decreases-settle l = 2 * l.node.left + 1

abbrev pub invariant-scan-loop-zero : goal.invariant-scan-loop-zero
invariant-scan-loop-zero l =
    Scanned (zeros l.h l.over.p l.over.exponent) l.over.p l.node l.k (take l.zero-index l.zero-items) l.at l.all l.initial.out l.out
    × (l.live ≡ counted l.h l.over l.node (take l.zero-index l.zero-items))
