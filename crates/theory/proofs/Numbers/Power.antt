-- Powers of a base.
use mathlib.Core.Path.{◌≡◌, refl, sym, ap, ◌∙◌}
use Prim.Native.Nat.{ℕ, zero, suc, ◌+◌, ◌-◌, ◌*◌, ◌/◌, ◌^◌, ◌≤◌, ◌<◌, ◌∣◌}
use native.Mathlib.Nat.{one-dvd, one-le-pow, dvd-mul_left, mul-div_cancel, mul-dvd-mul, mul-le-mul_right}
use native.Mathlib.Nat.{pow-le-pow_left, pow-le-pow_right, pow-suc, pow-succ', pow-zero}
use native.Mathlib.Numerals.{add-one}
use native.Mathlib.Decide.{dec_lt}
use native.Mathlib.Omega.{arith}
use lib.Pow.{pow-add}

pub pow_pos : (p : ℕ) → 0 < p → (t : ℕ) → 0 < p ^ t
pow_pos p hp t = one-le-pow t p hp

pub pow-one : (p : ℕ) → p ^ 1 ≡ p
pow-one p = pow-succ' p 0 ∙ rw (pow-zero p) (omega arith)

pub pow_split : (p : ℕ) {t n : ℕ} → t ≤ n → p ^ n ≡ p ^ (n - t) * p ^ t
pow_split p {t} {n} h = ap (λ (x : ℕ). p ^ x) (omega arith) ∙ pow-add p (n - t) t

pub pow_dvd : (p : ℕ) {t n : ℕ} → t ≤ n → p ^ t ∣ p ^ n
pow_dvd p {t} {n} h = rw (pow_split p h) (dvd-mul_left (p ^ t) (p ^ (n - t)))

pub dvd_pow : (p q i : ℕ) → p ∣ q → p ^ i ∣ q ^ i
dvd_pow p q zero d = rw (pow-zero p) (one-dvd (q ^ 0))
dvd_pow p q (suc i) d = rw (pow-suc p i, pow-suc q i) (mul-dvd-mul (p ^ i) p (dvd_pow p q i d) d)

-- p divides each power from the first on, and is no more
pub base_dvd : (p : ℕ) {e : ℕ} → 0 < e → p ∣ p ^ e
base_dvd p {e} h = rw (pow-one p) at (pow_dvd p {t = 1} {n = e} h)

pub base_le : (p : ℕ) → 0 < p → {e : ℕ} → 0 < e → p ≤ p ^ e
base_le p hp {e} h = let big : p ^ 1 ≤ p ^ e = pow-le-pow_right {n = p} hp {i = 1} {j = e} h in rw (pow-one p) at big

pub pow-lt : (p : ℕ) → 2 ≤ p → {l m : ℕ} → l < m → p ^ l < p ^ m
pow-lt p two {l} {m} h =
    omega (arith, pow-le-pow_right {n = p} (omega arith) h, pow-succ' p l, mul-le-mul_right (p ^ l) two, one-le-pow l p (omega arith))

-- one factor more
pub pow_next : (p t : ℕ) {q : ℕ} → q ≡ p ^ t → q * p ≡ p ^ (t + 1)
pow_next p t e = ap (λ (x : ℕ). x * p) e ∙ sym (pow-suc p t) ∙ ap (λ (x : ℕ). p ^ x) (sym (add-one t))

-- and one less
pub pow_before : (p t : ℕ) {q : ℕ} → 0 < p → 0 < t → q ≡ p ^ t → q / p ≡ p ^ (t - 1)
pow_before p t hp h e =
    let one : t - 1 + 1 ≡ t = omega arith in
    ap (λ (x : ℕ). x / p) (e ∙ ap (λ (x : ℕ). p ^ x) (sym one) ∙ sym (pow_next p (t - 1) refl)) ∙ mul-div_cancel (p ^ (t - 1)) hp

-- a power below 2^m has an exponent below m
pub exponent_lt : (p k m : ℕ) → 2 ≤ p → p ^ k < 2 ^ m → k < m
exponent_lt p k m two h = go (dec_lt k m)
  where
    go : Dec (k < m) → k < m
    go (yes l) = l
    go (no l) = absurd (omega (arith, pow-le-pow_right {n = 2} (omega arith) {i = m} {j = k} (omega arith), pow-le-pow_left two k))

pub pow-mul : (q r i : ℕ) → (q * r) ^ i ≡ q ^ i * r ^ i
pow-mul q r zero = rw (pow-zero (q * r), pow-zero q, pow-zero r) (omega arith)
pow-mul q r (suc i) = rw (pow-succ' (q * r) i, pow-succ' q i, pow-succ' r i, pow-mul q r i) (omega arith)

pub one-pow : (i : ℕ) → 1 ^ i ≡ 1
one-pow zero = pow-zero 1
one-pow (suc i) = pow-succ' 1 i ∙ rw (one-pow i)
