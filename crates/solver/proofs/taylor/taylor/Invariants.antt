-- `solver::taylor::taylor` meets its contract. The invariant: g is the shift of the coefficients from j on.
use lib.ListN.{drop}
use Rattle.theory.specs.Taylor.{taylor}
use Rattle.solver.specs.inner.Table.{Residues}
use Rattle.solver.proofs.taylor.taylor.Given as goal

abbrev pub invariant-loop-j : goal.invariant-loop-j
invariant-loop-j l = Residues l.m l.g (taylor l.c (drop l.j l.h))
