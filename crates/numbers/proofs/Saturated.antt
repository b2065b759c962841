-- Numbers up to 2^32, and sums of them.
use mathlib.Core.Path.{◌≡◌, ◌∙◌}
use Prim.Native.Nat.{ℕ, ◌+◌, ◌^◌, ◌≤◌, ◌<◌, min}
use native.Mathlib.Nat.{le_trans, pow-le-pow_right}
use native.Mathlib.Omega.{arith}
use Rattle.numbers.specs.Saturated.{saturated}

pub saturated-within : (x : ℕ) → x ≤ 4294967296 → saturated x ≡ x
unfolding saturated
saturated-within x h = omega arith

-- it is over the limit only where x is
pub saturated_limit : (x : ℕ) → 4294967295 < saturated x → 4294967295 < x
unfolding saturated
saturated_limit x h = omega arith

pub saturated-le : (x : ℕ) → saturated x ≤ 4294967296
unfolding saturated
saturated-le x = omega arith

-- where the result is within the limit, it is the number itself
pub saturated_means : (x : ℕ) → saturated x ≤ 4294967295 → saturated x ≡ x
unfolding saturated
saturated_means x h = omega arith

-- terms may be cut before they are added
pub saturated-sum : (x y : ℕ) → min (saturated x + saturated y) 4294967296 ≡ saturated (x + y)
unfolding saturated
saturated-sum x y = omega arith

-- the power of a level up to n is within the limit where pⁿ is
pub level_power : {p n t : ℕ} → 0 < p → t ≤ n → p ^ n ≤ 4294967295 → p ^ t ≤ 4294967295
level_power {p} {n} {t} pos h l = le_trans (pow-le-pow_right {n = p} pos {i = t} {j = n} h) l

pub saturated_power : {p n t q : ℕ} → 0 < p → t ≤ n → p ^ n ≤ 4294967295 → q ≡ saturated (p ^ t) → q ≡ p ^ t
saturated_power {p} {n} {t} pos h l e = e ∙ saturated-within (p ^ t) (omega (arith, level_power pos h l))
