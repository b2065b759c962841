-- `solver::lists::write_residues` meets its contract. The invariant: the first i residues are written, and the others are as they were.
use mathlib.Core.Path.{◌≡◌}
use mathlib.Core.List.{◌++◌, map}
use lib.IntN.{ℤ}
use lib.ListN.{take, drop}
use Rattle.solver.specs.declared.entry.Entry.{Entry}
use Rattle.solver.proofs.lists.write_residues.Given as goal

abbrev pub residue_at : Entry → ℤ
residue_at x = x.residue

abbrev pub invariant-loop-i : goal.invariant-loop-i
invariant-loop-i l = l.residues ≡ map residue_at (take l.i l.entries) ++ drop l.i l.initial.residues
