-- `rootmap::fill::set_members` meets its contract. The invariant: the bits of the members below r are added.
use mathlib.Core.Path.{◌≡◌}
use Prim.Native.Nat.{◌+◌, ◌%◌, ◌<◌}
use lib.ListN.{length}
use Rattle.rootmap.specs.inner.Bits.{Added}
use Rattle.rootmap.proofs.Steps.{member_below}
use Rattle.rootmap.proofs.fill.set_members.Given as goal

abbrev pub invariant-loop-r : goal.invariant-loop-r
invariant-loop-r l =
    (l.r % l.q ≡ l.a) × (l.r < l.m + l.q) × (length l.map ≡ length l.initial.map)
    × Added (member_below l.a l.q l.r) l.initial.map l.map
