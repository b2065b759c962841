-- `solver::zero_counts::write_counts` meets its contract. The invariant: N_0, …, N_j are written, and `rest` is p^(n − j).
use mathlib.Core.Path.{◌≡◌}
use Prim.Native.Nat.{◌+◌, ◌-◌, ◌^◌}
use Rattle.theory.specs.inner.Overwritten.{Overwritten}
use Rattle.solver.specs.inner.Counts.{scaled}
use Rattle.solver.proofs.zero_counts.write_counts.Given as goal

abbrev pub invariant-loop-j : goal.invariant-loop-j
invariant-loop-j l =
    (l.rest ≡ l.p ^ (l.n - l.j)) × Overwritten (scaled l.p l.n l.zeros) 0 (l.j + 1) l.initial.counts l.counts
