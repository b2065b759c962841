-- `solver::valuation::valuation_any` meets its contract. The invariant: p divides x v times more than y.
use mathlib.Core.Path.{ap}
use Prim.Native.Nat.{◌/◌, ◌<◌}
use native.Mathlib.Nat.{dvd_of_mod-eq-zero, le-div_iff_mul-le, le_of_dvd, mod-eq-zero_of_dvd, mul-div_cancel'}
use native.Mathlib.Omega.{arith}
use Rattle.theory.specs.Degree.{valuation}
use Rattle.theory.proofs.Numbers.Valuation.{valuation-lt, valuation-times, valuation-none}
use Rattle.solver.proofs.valuation.valuation_any.Goals as goal

pub overflow_add-v : goal.overflow_add-v
overflow_add-v c = let a = c.args in omega (arith, valuation-lt a.p (omega arith) a.x (omega arith))

pub loop-y-preserved : goal.loop-y-preserved
loop-y-preserved c =
    let p = c.args.p in
    let y = c.loop-y.y in
    let d = dvd_of_mod-eq-zero p c.loop-y-test.true in
    let some : 0 < y / p = (le-div_iff_mul-le {k = p} (omega arith)).1 (omega (arith, le_of_dvd (omega arith) d)) in
    (some, omega (arith, ap (valuation p) (mul-div_cancel' p d), valuation-times p (omega arith) (y / p) some))

pub returns : goal.returns
returns c =
    let p = c.args.p in
    omega (
      arith,
      valuation-none p (omega arith) c.loop-y.y (omega arith) (λ d. c.loop-y-test.false (mod-eq-zero_of_dvd p d)),
    )
