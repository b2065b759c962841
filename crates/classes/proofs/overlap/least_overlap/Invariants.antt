-- `classes::overlap::least_overlap` meets its contract. The invariant: q is p^s, and `least` takes in the overlaps at the levels below s.
use mathlib.Core.Path.{◌≡◌}
use Prim.Native.Nat.{◌^◌}
use lib.ListN.{length}
use Rattle.classes.specs.Rule7.{classes_of}
use Rattle.classes.specs.inner.Search.{overlap, least_value}
use Rattle.classes.proofs.overlap.least_overlap.Given as goal

abbrev pub invariant-loop-s : goal.invariant-loop-s
invariant-loop-s l =
    (l.q ≡ l.p ^ l.s) × (l.least ≡ least_value (overlap l.p (classes_of l.residues l.levels) (length l.residues) l.i) l.s l.best)
