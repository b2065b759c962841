-- `solver::mark::write_marks` meets its contract. The invariant: the first i marks are written, and the others are as they were.
use mathlib.Core.Path.{◌≡◌}
use mathlib.Core.List.{List, ◌++◌, map}
use Prim.Native.Nat.{ℕ}
use lib.ListN.{take, drop}
use Rattle.theory.specs.Polynomial.{derivative}
use Rattle.theory.specs.Degree.{primitive}
use Rattle.solver.specs.declared.entry.Entry.{Entry}
use Rattle.solver.specs.inner.Entry.{class_of}
use Rattle.solver.specs.inner.Marks.{mark_from}
use Rattle.solver.proofs.mark.write_marks.Given as goal

abbrev pub mark_of : ℕ → List ℕ → Entry → ℕ
mark_of p f x = mark_from p (derivative (primitive p f)) (class_of x)

abbrev pub invariant-loop-i : goal.invariant-loop-i
invariant-loop-i l = l.marks ≡ map (mark_of l.p l.f) (take l.i l.entries) ++ drop l.i l.initial.marks
