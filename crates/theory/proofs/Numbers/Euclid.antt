-- Euclid's lemma and its power form.
use mathlib.Core.Path.{◌≡◌, sym, ap, ◌∙◌, subst, subst₂}
use mathlib.Core.Logic.{◌⊎◌, inl, inr}
use Prim.Native.Nat.{ℕ, zero, suc, ◌+◌, ◌*◌, ◌/◌, ◌%◌, ◌≤◌, ◌<◌, ◌^◌, ◌∣◌}
use native.Mathlib.Nat.{dvd_of_mod-eq-zero, dvd-mul_left, dvd-mul_right, dvd-mul_left_of_dvd, dvd-add_iff_right, dvd_trans}
use native.Mathlib.Nat.{dvd_of_mul-dvd-mul_left, one-dvd, mul-dvd-mul_left, le_of_dvd}
use native.Mathlib.Nat.{mod-lt, div-add-mod', mul-div_cancel'}
use native.Mathlib.Nat.{eq-zero-or-pos, eq-or-lt_of_le, one-mul, pow-zero, pow-succ'}
use native.Mathlib.Omega.{arith}
use Rattle.theory.specs.Prime.{Prime}
use Rattle.theory.proofs.Numbers.Prime.{prime_pos}

-- p divides d·b and p·b, so (p mod d)·b; and so on down to 1·b
descend : (p b : ℕ) → Prime p → (fuel d : ℕ) → d ≤ fuel → 0 < d → d < p → p ∣ d * b → p ∣ b
descend p b P zero d f h l w = absurd (omega arith)
descend p b P (suc fuel) d f h l w = go (λ x. descend p b P fuel x) (eq-zero-or-pos (p % d)) (eq-or-lt_of_le h)
  where
    go : ((x : ℕ) → x ≤ fuel → 0 < x → x < p → p ∣ x * b → p ∣ b) → (p % d ≡ 0) ⊎ (0 < p % d) → (1 ≡ d) ⊎ (1 < d) → p ∣ b
    go ih e (inl q) = subst (λ (x : ℕ). p ∣ x) (ap (λ (x : ℕ). x * b) (sym q) ∙ one-mul b) w
    go ih (inl e) (inr q) = absurd (P.only d q l (dvd_of_mod-eq-zero d e))
    go ih (inr e) (inr q) =
        let s : p % d < d = mod-lt p h in
        let sum : p / d * (d * b) + p % d * b ≡ p * b = omega (arith, ap (λ (x : ℕ). x * b) (div-add-mod' p d)) in
        ih (p % d) (omega arith) e (omega arith) ((dvd-add_iff_right p (dvd-mul_left_of_dvd p w (p / d))).1 (rw sum (dvd-mul_right p b)))

pub euclid : (p : ℕ) → Prime p → (a b : ℕ) → p ∣ a * b → (p ∣ a) ⊎ (p ∣ b)
euclid p P a b w = go (eq-zero-or-pos (a % p))
  where
    go : (a % p ≡ 0) ⊎ (0 < a % p) → (p ∣ a) ⊎ (p ∣ b)
    go (inl e) = inl (dvd_of_mod-eq-zero p e)
    go (inr h) =
        let sum : a / p * b * p + a % p * b ≡ a * b = omega (arith, ap (λ (x : ℕ). x * b) (div-add-mod' a p)) in
        inr (descend p b P (a % p) (a % p) (omega arith) h (mod-lt a (prime_pos P))
        ((dvd-add_iff_right p (dvd-mul_left p (a / p * b))).1 (rw sum w)))

-- a digit other than 0 is prime to p
pub digit_times : (p : ℕ) → Prime p → (k x : ℕ) → 0 < k → k < p → ¬ (p ∣ x) → ¬ (p ∣ k * x)
digit_times p P k x h l w u = go (euclid p P k x u)
  where
    go : (p ∣ k) ⊎ (p ∣ x) → ⊥
    go (inl v) = omega (arith, le_of_dvd h v)
    go (inr v) = w v

-- a power of p that divides a·b divides b, where p does not divide a
pub euclid_power : (p : ℕ) → Prime p → (n a b : ℕ) → ¬ (p ∣ a) → p ^ n ∣ a * b → p ^ n ∣ b
euclid_power p P zero a b h w = rw (pow-zero p) (one-dvd b)
euclid_power p P (suc n) a b h w =
    go (λ c v. euclid_power p P n a c h v) (euclid p P a b (dvd_trans p (rw (pow-succ' p n) (dvd-mul_right p (p ^ n))) w))
  where
    go : ((c : ℕ) → p ^ n ∣ a * c → p ^ n ∣ c) → (p ∣ a) ⊎ (p ∣ b) → p ^ suc n ∣ b
    go ih (inl d) = absurd (h d)
    go ih (inr d) =
        let e : p * (b / p) ≡ b = mul-div_cancel' p d in
        let v : p * p ^ n ∣ p * (a * (b / p)) =
        subst₂ (λ (x y : ℕ). x ∣ y) (pow-succ' p n) (ap (λ (x : ℕ). a * x) (sym e) ∙ omega arith) w in
        let q = ih (b / p) (dvd_of_mul-dvd-mul_left (p ^ n) (prime_pos P) v) in
        subst₂ (λ (x y : ℕ). x ∣ y) (sym (pow-succ' p n)) e (mul-dvd-mul_left (p ^ n) p q)
