-- `solver::taylor::stretch` meets its contract.
use mathlib.Core.Path.{◌≡◌, refl}
use Prim.Native.Nat.{ℕ, ◌+◌, ◌*◌, ◌%◌, ◌^◌, ◌<◌}
use native.Mathlib.Nat.{mod-lt, mul_comm, pow-suc}
use native.Mathlib.Numerals.{add-one}
use native.Mathlib.Omega.{arith}
use Rattle.theory.specs.inner.Polynomial.{coef}
use Rattle.theory.proofs.Lists.Overwritten.{written-up}
use Rattle.theory.proofs.Numbers.Congruence.{Congruent, cong_refl, cong_trans, cong_of_eq, cong_mul, cong_mod}
use Rattle.solver.proofs.taylor.stretch.Goals as goal

next_power : (m q i power : ℕ) → Congruent m power (q ^ i) → Congruent m (power * q % m) (q ^ (i + 1))
next_power m q i power e = cong_trans (cong_mod m (power * q)) (rw (add-one i, pow-suc q i) (cong_mul e (cong_refl {x = q})))

scaled : (m q i power x : ℕ) → Congruent m power (q ^ i) → x * power % m ≡ q ^ i * x % m
scaled m q i power x e = (cong_trans (cong_of_eq (mul_comm x power)) (cong_mul e (cong_refl {x = x}))).same

pub loop-a-preserved : goal.loop-a-preserved
loop-a-preserved c =
    let a = c.args in
    let i = c.loop-a.a-index in
    let low : c.loop-a.power * a.q % a.m < a.m = mod-lt _ (omega arith) in (
      omega arith,
      next_power a.m a.q i c.loop-a.power c.loop-a.invariant.1,
      written-up c.loop-a.invariant.2 i _ (omega arith) (rw (c.loop-a.invariant.2.above i (omega arith))
          (scaled a.m a.q i c.loop-a.power (coef a.g.now i) c.loop-a.invariant.1)) (omega arith) refl,
    )
