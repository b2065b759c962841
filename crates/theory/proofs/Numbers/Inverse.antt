-- Inverses modulo a prime, by Euclid's descent.
use mathlib.Core.Path.{◌≡◌, sym, ap, ◌∙◌}
use mathlib.Core.Logic.{◌⊎◌, inl, inr}
use Prim.Native.Nat.{ℕ, zero, suc, ◌+◌, ◌-◌, ◌*◌, ◌/◌, ◌%◌, ◌≤◌, ◌<◌, ◌∣◌}
use native.Mathlib.Nat.{dvd_of_mod-eq-zero, dvd-mul_right, mod-lt, mod-eq_of_lt, div-add-mod', add-mod_right, mul-add-mod_self_right}
use native.Mathlib.Nat.{eq-zero-or-pos, eq-or-lt_of_le, one-mul, emod_pos_of_not-dvd}
use native.Mathlib.Omega.{arith}
use Rattle.theory.specs.Prime.{Prime}
use Rattle.theory.proofs.Numbers.Prime.{prime_pos}

-- one step of the descent to the inverse: from x·a ≡ d to −(p / d)·x·a ≡ p mod d
pub inverse_step : (p a d x : ℕ) → 0 < p → p % d < p → x * a % p ≡ d → (p / d * ((p - 1) * x)) * a % p ≡ p % d
inverse_step p a d x hp l w =
    sym (add-mod_right (p / d * ((p - 1) * x) * a) p)
    ∙ ap (λ (z : ℕ). z % p) (omega (
      arith,
      sum (p / d) (p - 1) (x * a / p) (p % d) (x * a) (omega arith) (omega (arith, div-add-mod' (x * a) p)) (div-add-mod' p d),
    ))
    ∙ mul-add-mod_self_right (p / d * (p - 1) * (x * a / p) + p / d * d) p (p % d)
    ∙ mod-eq_of_lt l
  where
    sum : (q u k r y : ℕ) → p ≡ suc u → y ≡ k * p + d → q * d + r ≡ p → q * (u * y) + p ≡ (q * u * k + q * d) * p + r
    sum q u k r y e f g = omega (arith, ap (λ (z : ℕ). q * (u * z)) f, ap (λ (z : ℕ). q * d * z) e)

-- from x·a ≡ d down to 1
descend : (p a : ℕ) → Prime p → (fuel d x : ℕ) → d ≤ fuel → 0 < d → d < p → x * a % p ≡ d → (y : ℕ) × (y * a % p ≡ 1)
descend p a P zero d x f h l w = absurd (omega arith)
descend p a P (suc fuel) d x f h l w = go (descend p a P fuel (p % d)) (eq-or-lt_of_le h) (eq-zero-or-pos (p % d))
  where
    go : ((z : ℕ) → p % d ≤ fuel → 0 < p % d → p % d < p → z * a % p ≡ p % d → (y : ℕ) × (y * a % p ≡ 1))
        → (1 ≡ d) ⊎ (1 < d) → (p % d ≡ 0) ⊎ (0 < p % d) → (y : ℕ) × (y * a % p ≡ 1)
    go ih (inl e) v = (x, w ∙ sym e)
    go ih (inr k) (inl e) = absurd (P.only d k l (dvd_of_mod-eq-zero d e))
    go ih (inr k) (inr v) =
        let s : p % d < d = mod-lt p h in
        ih (p / d * ((p - 1) * x)) (omega arith) v (omega arith) (inverse_step p a d x (prime_pos P) (omega arith) w)

pub inverse : (p : ℕ) → Prime p → (a : ℕ) → ¬ (p ∣ a) → (y : ℕ) × (y * a % p ≡ 1)
inverse p P a none =
    descend p a P (a % p) (a % p) 1 (omega arith) (emod_pos_of_not-dvd p none) (mod-lt a (prime_pos P))
    (ap (λ (z : ℕ). z % p) (one-mul a))

-- so w + a·y ≡ 0 has a solution y
pub linear-solution : (p : ℕ) → Prime p → (a w : ℕ) → ¬ (p ∣ a) → (y : ℕ) × (p ∣ w + y * a)
linear-solution p P a w none = let (x, e) = inverse p P a none in go p x e P.two
  where
    go : (q x : ℕ) → x * a % q ≡ 1 → 2 ≤ q → (y : ℕ) × (q ∣ w + y * a)
    go zero x e two = absurd (omega arith)
    go (suc u) x e two =
        let k = x * a / suc u in
        let sum : w + u * (w * x) * a ≡ suc u * (w + u * w * k) =
        omega (arith, ap (λ (z : ℕ). u * w * z) (div-add-mod' (x * a) (suc u)), ap (λ (z : ℕ). u * w * z) e) in
        (u * (w * x), rw sum (dvd-mul_right (suc u) (w + u * w * k)))
