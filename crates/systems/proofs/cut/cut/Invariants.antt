-- `systems::cut::cut` meets its contract. The invariant: of the classes read so far those that are kept are written, and they are the first
-- of the list of both sets.
use mathlib.Core.Path.{◌≡◌}
use mathlib.Core.Bool.{Bool}
use Prim.Native.Nat.{ℕ, ◌+◌, ◌-◌, ◌≤◌}
use lib.ListN.{length}
use Rattle.systems.proofs.Cutting.{Given, Turned}
use Rattle.systems.proofs.cut.cut.Given as goal

abbrev pub invariant-loop-i : goal.invariant-loop-i
invariant-loop-i l =
    (l.i ≤ length l.a) × (l.j ≤ length l.b) × (l.total ≡ length l.a + length l.b) × (l.k ≤ length l.initial.residues)
    × (length l.residues ≡ length l.initial.residues) × (length l.levels ≡ length l.initial.levels)
    × ((S T : ℕ → Bool) (n : ℕ) → Given l.p l.a l.t l.b l.s (length l.initial.residues) S T n
    → Turned l.p l.initial.residues l.initial.levels S T n l.i l.j l.k l.residues l.levels)

abbrev pub decreases-loop-i : goal.decreases-loop-i
decreases-loop-i l = l.total - (l.i + l.j)
