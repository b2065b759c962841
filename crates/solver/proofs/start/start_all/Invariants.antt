-- `solver::start::start_all` meets its contract. The invariant: the classes inside the first i given ones are added.
use lib.ListN.{length, take}
use Rattle.theory.specs.Polynomial.{zeros}
use Rattle.theory.specs.SignedClass.{naturals}
use Rattle.theory.specs.inner.Started.{started}
use Rattle.classes.specs.Rule7.{classes_of}
use Rattle.solver.specs.inner.Recursion.{Appended}
use Rattle.solver.specs.inner.Start.{entries_of}
use Rattle.solver.proofs.start.start_all.Given as goal

abbrev pub invariant-loop-residue : goal.invariant-loop-residue
invariant-loop-residue l =
    let p = l.over.p in
    let n = l.over.exponent in
    (goal.iterator-loop-residue).can_next l.residue-iterator × (goal.iterator-loop-residue).is_finite l.residue-iterator
    × Appended (entries_of p (started (zeros l.f p n) p n (take (length l.yielded) (naturals p (classes_of l.residues l.levels))))) 0 l.k l.initial.out l.out
