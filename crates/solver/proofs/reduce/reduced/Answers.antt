-- `solver::reduce::reduced` meets its contract.
use mathlib.Core.Path.{◌≡◌, ap, ◌∙◌}
use Prim.Native.Nat.{ℕ, ◌<◌}
use native.Mathlib.Omega.{arith}
use lib.IntN.{ℤ, pos}
use lib.ListN.{get_or, length-set}
use borrow.Author.Rules.{rules}
use mir.Syntax.{w64}
use mir.Val.{SFits}
use mir.ValLaws.{to_z-of_z}
use Rattle.theory.specs.Polynomial.{reduce}
use Rattle.theory.proofs.Lists.Fill.{filled_next}
use Rattle.theory.proofs.Numbers.Reduction.{reduce-lt}
use Rattle.solver.proofs.reduce.reduced.Goals as goal

below : (m v : ℕ) (z : ℤ) → 0 < m → v ≡ reduce m z → v < m
below m v z h e = rw e (reduce-lt m h z)

pub overflow_cast-table : goal.overflow_cast-table
overflow_cast-table c =
    omega (arith, c.requires.1, below c.args.m c.reduce.result _ c.requires.0 c.reduce.ensures)

pub loop-i-preserved : goal.loop-i-preserved
loop-i-preserved c =
    let a = c.args in
    let i = c.loop-i.i in
    let x = get_or a.coefficients.now i (pos 0) in
    let word : SFits w64 x = search rules in (
      omega (arith, length-set c.loop-i.table i c.reduce.result),
      filled_next (reduce a.m) a.coefficients.now i (pos 0) c.loop-i-test.true c.loop-i.table
          c.reduce.result (omega arith) (c.reduce.ensures ∙ ap (reduce a.m) (to_z-of_z w64 x word)) c.loop-i.invariant.1,
    )
