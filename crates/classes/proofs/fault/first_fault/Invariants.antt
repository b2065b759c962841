-- `classes::fault::first_fault` meets its contract. The invariant: `first` is what the first i of the m entries show.
use mathlib.Core.Path.{◌≡◌}
use Rattle.classes.specs.Rule7.{classes_of}
use Rattle.classes.specs.inner.Search.{searched_to}
use Rattle.classes.proofs.fault.first_fault.Given as goal

abbrev pub invariant-loop-i : goal.invariant-loop-i
invariant-loop-i l = l.first ≡ searched_to l.p (classes_of l.residues l.levels) l.m l.i
