-- `classes::overlap::residue_around` meets its contract.
use mathlib.Core.Path.{◌≡◌, ap, ◌∙◌}
use Prim.Native.Nat.{ℕ, ◌≤◌, ◌<◌}
use native.Mathlib.Omega.{arith}
use lib.IntN.{ℤ}
use mir.Syntax.{w32, w64}
use mir.Val.{SFits, to_z, of_z}
use mir.ValLaws.{to_z-of_z}
use Rattle.theory.specs.Polynomial.{reduce}
use Rattle.theory.specs.Centered.{centered}
use Rattle.theory.proofs.Numbers.Reduction.{reduce-lt}
use Rattle.theory.proofs.Signed.Centered.{centered-range}
use Rattle.numbers.proofs.Words.{wide_fits, wide_read, narrow_fits}
use Rattle.classes.proofs.overlap.residue_around.Goals as goal

-- the calls' answers, as the words between them are read
module _ {q : ℕ} {z : ℤ} (above : 0 < q) (small : q ≤ 4294967295) (z-fits : SFits w32 z) {a : ℕ}
    (reduced : a ≡ reduce q (to_z w64 (of_z w64 (to_z w32 (of_z w32 z))))) where
  reduced-is : a ≡ reduce q z
  reduced-is = reduced ∙ ap (reduce q) (wide_read z z-fits)

  below : a < q
  below = rw reduced-is (reduce-lt q above z)

  module _ {r : ℤ} (found : r ≡ centered q a) where
    result-is : r ≡ centered q (reduce q z)
    result-is = found ∙ ap (centered q) reduced-is

    narrow : SFits w32 r
    narrow = rw found (narrow_fits q (centered q a) small (centered-range q a below))

    read : to_z w64 (of_z w64 r) ≡ r
    read = to_z-of_z w64 r (wide_fits r narrow)

pub overflow_cast-a : goal.overflow_cast-a
overflow_cast-a c = record { fits = omega (arith, below c.requires.0 c.requires.1 c.ranges.z c.reduce-a.ensures) }

pub overflow_cast-result : goal.overflow_cast-result
overflow_cast-result c =
    rw (read c.requires.0 c.requires.1 c.ranges.z c.reduce-a.ensures c.centered.ensures)
    (narrow c.requires.0 c.requires.1 c.ranges.z c.reduce-a.ensures c.centered.ensures)

pub returns : goal.returns
returns c =
    rw (read c.requires.0 c.requires.1 c.ranges.z c.reduce-a.ensures c.centered.ensures)
    (to_z-of_z w32 c.centered.result (narrow c.requires.0 c.requires.1 c.ranges.z c.reduce-a.ensures c.centered.ensures)
    ∙ result-is c.requires.0 c.requires.1 c.ranges.z c.reduce-a.ensures c.centered.ensures)
