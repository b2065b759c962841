-- Valuations: p^k divides x exactly if k is at most the valuation of x.
use mathlib.Core.Path.{◌∙◌, ap, ◌≡◌, refl, sym, subst}
use mathlib.Core.Bool.{Bool, true, false}
use Prim.Native.Nat.{ℕ, zero, suc, ◌*◌, ◌/◌, ◌^◌, ◌≤◌, ◌<◌, ◌∣◌, ◌%◌}
use native.Mathlib.Nat.{mul-zero, mul-le-mul_right, one-dvd, dvd_trans, mul-dvd-mul_left, dvd_of_mul-dvd-mul_left, mul-div_cancel'}
use native.Mathlib.Nat.{div-lt_iff_lt-mul, pow-zero}
use native.Mathlib.Nat.{pow-suc, pow-succ', le_antisymm}
use native.Mathlib.Nat.{le_of_dvd}
use native.Mathlib.Decide.{dec_le}
use native.Mathlib.Omega.{arith}
use lib.Count.{count_trailing_zeros, under}
use Rattle.theory.specs.Prime.{divides}
use Rattle.theory.specs.Degree.{divisions, valuation}
use Rattle.theory.proofs.Numbers.Power.{pow_dvd, pow-one}
use Rattle.theory.proofs.Numbers.Prime.{divides_dvd, dvd_divides, divides_on, divides_off}
use Rattle.theory.proofs.Tests.{contradiction}

divisions_on : (k p x : ℕ) → divides p x ≡ true → divisions (suc k) p x ≡ suc (divisions k p (x / p))
unfolding divisions
divisions_on k p x e = rw (e, divisions)

divisions_off : (k p x : ℕ) → divides p x ≡ false → divisions (suc k) p x ≡ 0
unfolding divisions
divisions_off k p x e = rw (e, divisions)

-- p^(t + 1) divides p·y exactly if p^t divides y
pub power_times : (p t y : ℕ) → p ^ t ∣ y → p ^ suc t ∣ p * y
power_times p t y d = rw (pow-succ' p t) (mul-dvd-mul_left (p ^ t) p d)

pub times_power : (p t y : ℕ) → 0 < p → p ^ suc t ∣ p * y → p ^ t ∣ y
times_power p t y hp d = dvd_of_mul-dvd-mul_left (p ^ t) hp (rw (pow-succ' p t) at d)

divisions_dvd : (k p x : ℕ) → p ^ divisions k p x ∣ x
unfolding divisions
divisions_dvd zero p x = rw (pow-zero p) (one-dvd x)
divisions_dvd (suc k) p x = go (divisions_dvd k p (x / p)) (divides p x) refl
  where
    go : p ^ divisions k p (x / p) ∣ x / p → (b : Bool) → divides p x ≡ b → p ^ divisions (suc k) p x ∣ x
    go ih true e =
        rw (divisions_on k p x e)
        (subst (λ (z : ℕ). p ^ suc (divisions k p (x / p)) ∣ z) (mul-div_cancel' p (divides_dvd p x e))
        (power_times p (divisions k p (x / p)) (x / p) ih))
    go ih false e = rw (divisions_off k p x e, pow-zero p) (one-dvd x)

divisions_most : (k p x : ℕ) → 0 < p → 0 < x → x < p ^ k → ¬ (p ^ suc (divisions k p x) ∣ x)
divisions_most zero p x hp h l d = omega (arith, rw (pow-zero p) at l)
divisions_most (suc k) p x hp h l d = go (divisions_most k p (x / p) hp) (divides p x) refl
  where
    go : (0 < x / p → x / p < p ^ k → ¬ (p ^ suc (divisions k p (x / p)) ∣ x / p)) → (b : Bool) → divides p x ≡ b → ⊥
    go ih true e =
        let q : p * (x / p) ≡ x = mul-div_cancel' p (divides_dvd p x e) in
        let low : 0 < x / p = positive (x / p) q in
        let high : x / p < p ^ k = (div-lt_iff_lt-mul hp).1 (rw (pow-suc p k) at l) in
        let v = rw (divisions_on k p x e) at d in
        let t = suc (divisions k p (x / p)) in
        ih low high (times_power p t (x / p) hp (subst (λ (z : ℕ). p ^ suc t ∣ z) (sym q) v))
      where
        positive : (y : ℕ) → p * y ≡ x → 0 < y
        positive zero q = absurd (omega (arith, mul-zero p))
        positive (suc y) q = omega arith
    go ih false e = contradiction (dvd_divides p x (rw (divisions_off k p x e, pow-one p) at d)) e

-- x is below p^x
pub below_power : (p x : ℕ) → 2 ≤ p → x < p ^ x
below_power p zero two = rw (pow-zero p) (omega arith)
below_power p (suc x) two = omega (arith, pow-succ' p x, below_power p x two, mul-le-mul_right (p ^ x) two)

module _ (p : ℕ) (two : 2 ≤ p) where
  pub valuation-dvd : (x : ℕ) → p ^ valuation p x ∣ x
  unfolding valuation
  valuation-dvd x = divisions_dvd x p x

  pub valuation-most : (x : ℕ) → 0 < x → ¬ (p ^ suc (valuation p x) ∣ x)
  unfolding valuation
  valuation-most x h = divisions_most x p x (omega arith) h (below_power p x two)

  pub le-valuation : (x k : ℕ) → 0 < x → p ^ k ∣ x → k ≤ valuation p x
  le-valuation x k h d = go (dec_le k (valuation p x))
    where
      go : Dec (k ≤ valuation p x) → k ≤ valuation p x
      go (yes l) = l
      go (no l) = absurd (valuation-most x h (dvd_trans (p ^ suc (valuation p x)) (pow_dvd p (omega arith)) d))

  -- and only the valuation has both
  pub valuation-unique : (x v : ℕ) → 0 < x → p ^ v ∣ x → ¬ (p ^ suc v ∣ x) → v ≡ valuation p x
  valuation-unique x v h d f = le_antisymm (le-valuation x v h d) (go (dec_le (valuation p x) v))
    where
      go : Dec (valuation p x ≤ v) → valuation p x ≤ v
      go (yes l) = l
      go (no l) = absurd (f (dvd_trans (p ^ suc v) (pow_dvd p (omega arith)) (valuation-dvd x)))

  pub valuation-lt : (x : ℕ) → 0 < x → valuation p x < x
  valuation-lt x h = omega (arith, below_power p (valuation p x) two, le_of_dvd h (valuation-dvd x))

  -- p divides p·y once more than y
  pub valuation-times : (y : ℕ) → 0 < y → valuation p (p * y) ≡ suc (valuation p y)
  valuation-times y h =
      let v = valuation p y in
      sym (valuation-unique (p * y) (suc v) (omega (arith, mul-le-mul_right y two)) (power_times p v y (valuation-dvd y)) (λ d.
      valuation-most y h (times_power p (suc v) y (omega arith) d)))

  pub valuation-none : (y : ℕ) → 0 < y → ¬ (p ∣ y) → valuation p y ≡ 0
  valuation-none y h n = sym (valuation-unique y 0 h (rw (pow-zero p) (one-dvd y)) (λ d. n (rw (pow-one p) at d)))

-- For p = 2

trailing_divisions : (f g n : ℕ) → 0 < n → n < 2 ^ f → n ≤ g → count_trailing_zeros f n ≡ divisions g 2 n
unfolding count_trailing_zeros
trailing_divisions zero g n p h l = absurd (omega arith)
trailing_divisions (suc f) zero n p h l = absurd (omega arith)
trailing_divisions (suc f) (suc g) n p h l = go (trailing_divisions f g (n / 2)) (n % 2) refl
  where
    go : (0 < n / 2 → n / 2 < 2 ^ f → n / 2 ≤ g → count_trailing_zeros f (n / 2) ≡ divisions g 2 (n / 2))
        → (d : ℕ) → n % 2 ≡ d → under (n % 2) (count_trailing_zeros f (n / 2)) ≡ divisions (suc g) 2 n
    go ih zero e =
        let b : n < 2 ^ f * 2 = rw (pow-suc 2 f) at h in
        rw e (ap suc (ih (omega arith) (omega arith) (omega arith)) ∙ sym (divisions_on g 2 n (divides_on 2 n e)))
    go ih (suc d) e = rw e (sym (divisions_off g 2 n (divides_off 2 n (λ w. omega arith))))

-- "for p = 2 that is its number of trailing zero bits"
pub trailing_zeros : (x : ℕ) → 0 < x → x < 2 ^ 64 → count_trailing_zeros 64 x ≡ valuation 2 x
unfolding valuation
trailing_zeros x h l = trailing_divisions 64 x x h l (omega arith)
