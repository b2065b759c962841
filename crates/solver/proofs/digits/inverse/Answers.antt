-- `solver::digits::inverse` meets its contract. The invariant: x·a is d modulo p.
use mathlib.Core.Path.{◌≡◌, ◌∙◌}
use mathlib.Core.Logic.{◌⊎◌, inl, inr}
use Prim.Native.Nat.{ℕ, ◌-◌, ◌*◌, ◌/◌, ◌%◌, ◌<◌}
use native.Mathlib.Nat.{mod-lt, mod-eq_of_lt, one-mul, eq-zero-or-pos, dvd_of_mod-eq-zero, div-le_self}
use native.Mathlib.Omega.{arith}
use Rattle.theory.specs.Prime.{Prime}
use Rattle.theory.proofs.Numbers.Congruence.{cong_refl, cong_trans, cong_mul, cong_mod}
use Rattle.theory.proofs.Numbers.Inverse.{inverse_step}
use Rattle.solver.proofs.Tables.{product_fits, remainder_le}
use Rattle.solver.proofs.digits.inverse.Goals as goal

-- a prime has no divisor between
remainder-pos : (p d : ℕ) → Prime p → 1 < d → d < p → 0 < p % d
remainder-pos p d P h l = go (eq-zero-or-pos (p % d))
  where
    go : (p % d ≡ 0) ⊎ (0 < p % d) → 0 < p % d
    go (inl e) = absurd (P.only d h l (dvd_of_mod-eq-zero d e))
    go (inr u) = u

step : (p a d x : ℕ) → 0 < p → p % d < p → x * a % p ≡ d → p / d * ((p - 1) * x % p) % p * a % p ≡ p % d
step p a d x hp l e =
    (cong_mul (cong_trans (cong_mod p (p / d * ((p - 1) * x % p))) (cong_mul (cong_refl {x = p / d}) (cong_mod p ((p - 1) * x))))
    (cong_refl {x = a})).same
    ∙ inverse_step p a d x hp l e

pub loop-d-init : goal.loop-d-init
loop-d-init c = (c.requires.0, c.requires.1, omega arith, rw (one-mul c.args.a) (mod-eq_of_lt c.requires.1))

pub loop-d-preserved : goal.loop-d-preserved
loop-d-preserved c =
    let p = c.args.p in
    let l : p % c.loop-d.d < c.loop-d.d = mod-lt p (omega arith) in (
      remainder-pos p c.loop-d.d c.requires.2 c.loop-d-test.true c.loop-d.invariant.1,
      omega arith,
      mod-lt _ (omega arith),
      step p c.args.a c.loop-d.d c.loop-d.x (omega arith) (omega arith) c.loop-d.invariant.3,
    )

pub returns : goal.returns
returns c =
    let one : c.loop-d.d ≡ 1 = omega arith in
    (c.loop-d.invariant.2, c.loop-d.invariant.3 ∙ one)

pub overflow_mul-x : goal.overflow_mul-x
overflow_mul-x c = product_fits _ _ (omega arith) (omega arith)

pub overflow_mul-x-in-loop-d : goal.overflow_mul-x-in-loop-d
overflow_mul-x-in-loop-d c = product_fits _ _ (omega (arith, div-le_self c.args.p c.loop-d.d)) (remainder_le _ _ (omega arith) (omega arith))

pub loop-d-smaller : goal.loop-d-smaller
loop-d-smaller c = mod-lt _ (omega arith)
