-- `solver::join::inside_total` meets its contract. The invariant: the sum is that of the first i classes.
use mathlib.Core.Path.{◌≡◌}
use mathlib.Core.List.{map}
use Prim.Native.Nat.{◌*◌, ◌≤◌}
use lib.ListN.{take}
use Rattle.theory.specs.inner.Join.{inside_total}
use Rattle.solver.specs.inner.Entry.{class_of}
use Rattle.solver.proofs.join.inside_total.Given as goal

abbrev pub invariant-loop-x : goal.invariant-loop-x
invariant-loop-x l =
    (l.sum ≤ l.x-index * 4294967296) × (l.sum ≡ inside_total l.p l.n l.a l.t (map class_of (take l.x-index l.entries)))
