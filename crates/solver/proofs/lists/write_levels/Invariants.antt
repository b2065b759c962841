-- `solver::lists::write_levels` meets its contract. The invariant: the first i levels are written, and the others are as they were.
use mathlib.Core.Path.{◌≡◌}
use mathlib.Core.List.{◌++◌, map}
use Prim.Native.Nat.{ℕ}
use lib.ListN.{take, drop}
use Rattle.solver.specs.declared.entry.Entry.{Entry}
use Rattle.solver.proofs.lists.write_levels.Given as goal

abbrev pub level_at : Entry → ℕ
level_at x = x.level

abbrev pub invariant-loop-i : goal.invariant-loop-i
invariant-loop-i l = l.levels ≡ map level_at (take l.i l.entries) ++ drop l.i l.initial.levels
