-- Finite differences modulo p, where −1 is p − 1: a polynomial with k coefficients has k-th differences that are multiples of p.
use mathlib.Core.Path.{◌≡◌, refl, sym, ap}
use mathlib.Core.List.{List, [], ◌∷◌}
use Prim.Native.Nat.{ℕ, zero, suc, ◌+◌, ◌-◌, ◌*◌, ◌%◌, ◌<◌, ◌∣◌}
use native.Mathlib.Nat.{dvd-zero, dvd-add, dvd-mul_right, dvd-mul_left_of_dvd, add-mul-mod_self_right}
use native.Mathlib.Omega.{arith}
use lib.ListN.{length}
use Rattle.theory.specs.Polynomial.{value}
use Rattle.theory.specs.inner.Polynomial.{difference}
use Rattle.theory.proofs.Numbers.Congruence.{Congruent, cong_trans, cong_of_eq}

-- the difference at c + 1 is the one at c plus the next
pub difference-step : (p j : ℕ) (F : ℕ → ℕ) (c : ℕ) → 0 < p
    → Congruent p (difference p j F (suc c)) (difference p j F c + difference p (suc j) F c)
unfolding difference
difference-step p j F c h =
    let one : suc (p - 1) ≡ p = omega arith in
    let x = difference p j F c in
    let y = difference p j F (suc c) in
    let sum : y + x * p ≡ x + (y + (p - 1) * x) = omega (arith, ap (λ (z : ℕ). x * z) one) in
    cong_trans (record { same = sym-mod y x }) (cong_of_eq sum)
  where
    sym-mod : (y x : ℕ) → y % p ≡ (y + x * p) % p
    sym-mod y x = sym (add-mul-mod_self_right y x p)

-- Differences of sums, of constants and of products with the argument

difference-plus : (p j : ℕ) (F G : ℕ → ℕ) (c : ℕ)
    → difference p j (λ x. F x + G x) c ≡ difference p j F c + difference p j G c
unfolding difference
difference-plus p zero F G c = refl
difference-plus p (suc j) F G c = rw (difference-plus p j F G (suc c), difference-plus p j F G c) (omega arith)

difference_times : (p j : ℕ) (F : ℕ → ℕ) (c : ℕ)
    → difference p (suc j) (λ x. x * F x) c ≡ c * difference p (suc j) F c + suc j * difference p j F (suc c)
unfolding difference
difference_times p zero F c = omega arith
difference_times p (suc j) F c = rw (difference_times p j F (suc c), difference_times p j F c) (omega arith)

difference_constant : (p j a c : ℕ) → 0 < p → p ∣ difference p (suc j) (λ x. a) c
unfolding difference
difference_constant p zero a c h =
    let one : suc (p - 1) ≡ p = omega arith in
    let e : a + (p - 1) * a ≡ p * a = omega (arith, ap (λ (z : ℕ). z * a) one) in
    rw e (dvd-mul_right p a)
difference_constant p (suc j) a c h =
    dvd-add p (difference_constant p j a (suc c) h) (dvd-mul_left_of_dvd p (difference_constant p j a c h) (p - 1))

-- a polynomial with k coefficients: p divides the k-th differences
pub difference-value : (p : ℕ) (f : List ℕ) (c : ℕ) → 0 < p → p ∣ difference p (length f) (value f) c
unfolding difference value
difference-value p [] c h = dvd-zero p
difference-value p (a ∷ f) c h =
    let k = length f in
    let up : p ∣ difference p (suc k) (value f) c =
    dvd-add p (difference-value p f (suc c) h) (dvd-mul_left_of_dvd p (difference-value p f c h) (p - 1)) in
    rw (difference-plus p (suc k) (λ x. a) (λ x. x * value f x) c, difference_times p k (value f) c)
    (dvd-add p (difference_constant p k a c h)
    (dvd-add p (dvd-mul_left_of_dvd p up c) (dvd-mul_left_of_dvd p (difference-value p f (suc c) h) (suc k))))
