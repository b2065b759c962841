-- `rootmap::fill::set_classes` meets its contract. The invariant: the bits of the members of the classes so far are added.
use mathlib.Core.Path.{◌≡◌}
use lib.ListN.{length}
use Rattle.theory.specs.SignedClass.{naturals}
use Rattle.classes.specs.Rule7.{classes_of}
use Rattle.rootmap.specs.inner.Bits.{Added}
use Rattle.rootmap.proofs.Listed.{listed_below}
use Rattle.rootmap.proofs.fill.set_classes.Given as goal

abbrev pub invariant-loop-a : goal.invariant-loop-a
invariant-loop-a l =
    (length l.map ≡ length l.initial.map)
    × Added (listed_below l.p (naturals l.p (classes_of l.residues l.levels)) l.m (length l.yielded)) l.initial.map l.map
