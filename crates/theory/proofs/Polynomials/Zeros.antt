-- The zeros of a polynomial modulo a power of p: below a digit, in a class, after a division by p, at 0, and where there are none or all.
use mathlib.Core.Path.{◌≡◌, sym, ap, subst₂, fun_ext}
use mathlib.Core.Bool.{true, false}
use mathlib.Core.List.{List}
use Prim.Native.Nat.{ℕ, ◌+◌, ◌*◌, ◌^◌, ◌<◌, ◌∣◌}
use native.Mathlib.Nat.{mul-dvd-mul_left, dvd_of_mul-dvd-mul_left, dvd_trans, add-mul-mod_self_left, one-dvd, dvd-zero, pow-zero}
use native.Mathlib.Nat.{mod-eq_of_lt}
use lib.Dec.{eqb}
use lib.Pow.{pow-add}
use Rattle.theory.specs.Prime.{divides}
use Rattle.theory.specs.Polynomial.{value, zeros, divided}
use Rattle.theory.specs.Degree.{all_zero}
use Rattle.theory.specs.Class.{Class}
use Rattle.theory.specs.inner.Tree.{branch}
use Rattle.theory.specs.inner.Started.{branch_at}
use Rattle.theory.proofs.Tests.{same_test, not_holding}
use Rattle.theory.proofs.Numbers.Power.{pow_pos, base_dvd}
use Rattle.theory.proofs.Numbers.Prime.{divides_dvd, dvd_divides}
use Rattle.theory.proofs.Numbers.Congruence.{cong_dvd}
use Rattle.theory.specs.Taylor.{shifted}
use Rattle.theory.specs.inner.Polynomial.{coef}
use Rattle.theory.proofs.Polynomials.Arithmetic.{value-divided, value_zero, dvd_value}
use Rattle.theory.proofs.Polynomials.Taylor.{value_shifted}
use Rattle.theory.proofs.Polynomials.Congruence.{cong_argument}
use Rattle.theory.proofs.Polynomials.Highest.{all_zero-coef}

pub zero_dvd : (f : List ℕ) (p n y : ℕ) → zeros f p n y ≡ true → p ^ n ∣ value f y
unfolding zeros
zero_dvd f p n y e = divides_dvd (p ^ n) (value f y) e

pub dvd_zero_at : (f : List ℕ) (p n y : ℕ) → p ^ n ∣ value f y → zeros f p n y ≡ true
unfolding zeros
dvd_zero_at f p n y d = dvd_divides (p ^ n) (value f y) d

zeros-shifted : (f : List ℕ) (p n a q : ℕ) → (λ y. zeros f p n (a + q * y)) ≡ zeros (shifted a q f) p n
unfolding zeros
zeros-shifted f p n a q = fun_ext (λ y. ap (divides (p ^ n)) (sym (value_shifted a q f y)))

-- below the digit c lie the zeros of f(c + p·y)
pub zeros-branch : (f : List ℕ) (p n c : ℕ) → branch (zeros f p n) p c ≡ zeros (shifted c p f) p n
zeros-branch f p n c = zeros-shifted f p n c p

-- inside a/t lie the zeros of f(a + p^t·y)
pub zeros-branch_at : (f : List ℕ) (p n : ℕ) (c : Class) → branch_at (zeros f p n) p c ≡ zeros (shifted c.residue (p ^ c.level) f) p n
zeros-branch_at f p n c = zeros-shifted f p n c.residue (p ^ c.level)

-- where p^v divides every coefficient: the zeros modulo p^(v + e) are those of the quotient modulo p^e
pub zeros-divided : (f : List ℕ) (p v e : ℕ) → 0 < p → ((i : ℕ) → p ^ v ∣ coef f i) → zeros f p (v + e) ≡ zeros (divided (p ^ v) f) p e
zeros-divided f p v e hp h =
    fun_ext (λ y. same_test (zeros f p (v + e) y) (zeros (divided (p ^ v) f) p e y)
    (λ u. dvd_zero_at (divided (p ^ v) f) p e y
    (dvd_of_mul-dvd-mul_left (p ^ e) (pow_pos p hp v) (subst₂ (λ (a b : ℕ). a ∣ b) (pow-add p v e) (times y) (zero_dvd f p (v + e) y u))))
    (λ u. dvd_zero_at f p (v + e) y
    (subst₂ (λ (a b : ℕ). a ∣ b) (sym (pow-add p v e)) (sym (times y))
    (mul-dvd-mul_left (p ^ e) (p ^ v) (zero_dvd (divided (p ^ v) f) p e y u)))))
  where
    times : (y : ℕ) → value f y ≡ p ^ v * value (divided (p ^ v) f) y
    times = value-divided (p ^ v) f h

-- a digit at which the value is not a multiple of p holds no zero modulo p^e, 0 < e
pub no_zero_below : (f : List ℕ) (p e c : ℕ) → 0 < e → ¬ (p ∣ value f c) → (y : ℕ) → branch (zeros f p e) p c y ≡ false
no_zero_below f p e c h none y =
    not_holding (zeros f p e (c + p * y)) (λ u.
    none (cong_dvd (cong_argument f (record { same = add-mul-mod_self_left c p y }))
    (dvd_trans p (base_dvd p h) (zero_dvd f p e (c + p * y) u))))

-- p^n further on it is the same
pub zeros_periodic : (f : List ℕ) (p n x k : ℕ) → zeros f p n (x + p ^ n * k) ≡ zeros f p n x
unfolding zeros divides
zeros_periodic f p n x k = rw (cong_argument f {x = x + p ^ n * k} {y = x} (record { same = add-mul-mod_self_left x (p ^ n) k })).same

-- modulo p^0 everything is a zero
pub zeros-everything : (f : List ℕ) (p y : ℕ) → zeros f p 0 y ≡ true
zeros-everything f p y = dvd_zero_at f p 0 y (rw (pow-zero p) (one-dvd (value f y)))

-- and where all coefficients are zero
pub zeros-all : (f : List ℕ) (p n : ℕ) → all_zero f ≡ true → (y : ℕ) → zeros f p n y ≡ true
zeros-all f p n z y = dvd_zero_at f p n y (dvd_value (p ^ n) f y (λ i. rw (all_zero-coef f z i) (dvd-zero (p ^ n))))

-- 0 is a zero exactly if the constant coefficient, reduced, is 0
pub zeros_constant : (f : List ℕ) (p n : ℕ) → coef f 0 < p ^ n → zeros f p n 0 ≡ eqb (coef f 0) 0
unfolding zeros divides
zeros_constant f p n h = rw (value_zero f, mod-eq_of_lt h)
