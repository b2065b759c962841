-- `classes::next::least_member` meets its contract. The invariant: `best` is the least member of the classes passed.
use mathlib.Core.Path.{◌≡◌}
use Prim.Native.Nat.{◌-◌}
use lib.ListN.{length, take}
use Rattle.theory.specs.Range.{least}
use Rattle.theory.specs.ClassList.{members}
use Rattle.theory.specs.SignedClass.{naturals}
use Rattle.classes.specs.Rule7.{classes_of}
use Rattle.classes.proofs.next.least_member.Given as goal

abbrev pub invariant-loop-residue : goal.invariant-loop-residue
invariant-loop-residue l =
    l.best ≡ least (members l.p (take (length l.yielded) (naturals l.p (classes_of l.residues l.levels)))) (l.m - l.point) l.point
