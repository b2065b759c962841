-- `classes::usable::first_unusable` meets its contract. The invariant: the first i entries have no fault of their own.
use mathlib.Core.Path.{◌≡◌}
use mathlib.Core.Bool.{false}
use Prim.Native.Nat.{ℕ, ◌<◌}
use Rattle.classes.specs.Rule7.{classes_of}
use Rattle.classes.specs.inner.Search.{unusable_at}
use Rattle.classes.proofs.usable.first_unusable.Given as goal

abbrev pub invariant-loop-i : goal.invariant-loop-i
invariant-loop-i l = (j : ℕ) → j < l.i → unusable_at l.p l.n (classes_of l.residues l.levels) j ≡ false
