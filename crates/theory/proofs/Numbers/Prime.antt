-- Primes and composite numbers, and the least divisor of a number.
use mathlib.Core.Path.{◌≡◌, refl, sym, ap, ◌∙◌, subst}
use mathlib.Core.Logic.{◌⊎◌, inl, inr}
use mathlib.Core.Bool.{Bool, true, false, not}
use Prim.Native.Nat.{ℕ, zero, suc, ◌+◌, ◌-◌, ◌*◌, ◌/◌, ◌%◌, ◌≤◌, ◌<◌, ◌∣◌}
use native.Mathlib.Nat.{mod-eq-zero_of_dvd, dvd_of_mod-eq-zero, eq-or-lt_of_le, dvd_refl, dvd_trans, dvd-mul_right, div-mul_cancel}
use native.Mathlib.Nat.{zero-mul, one-mul, mul-le-mul}
use native.Mathlib.Decide.{dec_le}
use native.Mathlib.Omega.{arith}
use borrow.Author.Tests.{eqb-true, eq-eqb, ne_eqb, leb-true, le-leb, not-true, not-false}
use lib.Dec.{leb}
use Rattle.theory.specs.Range.{all_below}
use Rattle.theory.specs.Prime.{Prime, divides, is_prime, is_composite, least_divisor, LeastPrimeDivisor}
use Rattle.theory.proofs.Tests.{contradiction, and_left, and_right, and_intro, and_on, not_holding}
use Rattle.theory.proofs.Range.{all_elim, all_intro, least_found, least_range, before_least}

pub divides_dvd : (d x : ℕ) → divides d x ≡ true → d ∣ x
unfolding divides
divides_dvd d x e = dvd_of_mod-eq-zero d (eqb-true (x % d) 0 e)

pub dvd_divides : (d x : ℕ) → d ∣ x → divides d x ≡ true
unfolding divides
dvd_divides d x v = eq-eqb (x % d) 0 (mod-eq-zero_of_dvd d v)

-- a remainder tells
pub divides_on : (d x : ℕ) → x % d ≡ 0 → divides d x ≡ true
unfolding divides
divides_on d x e = eq-eqb (x % d) 0 e

pub divides_off : (d x : ℕ) → (x % d ≡ 0 → ⊥) → divides d x ≡ false
unfolding divides
divides_off d x ne = ne_eqb (x % d) 0 ne

pub prime_pos : {p : ℕ} → Prime p → 0 < p
prime_pos P = omega (arith, P.two)

pub prime_of : (p : ℕ) → is_prime p ≡ true → Prime p
unfolding is_prime
prime_of p e =
    let none = and_right (leb 2 p) (all_below (λ i. not (divides (i + 2) p)) (p - 2)) e in
    record {
      two = leb-true 2 p (and_left (leb 2 p) (all_below (λ i. not (divides (i + 2) p)) (p - 2)) e);
      only = λ d h l v.
          let q : d - 2 + 2 ≡ d = omega arith in
          let f = not-true (divides (d - 2 + 2) p) (all_elim (λ i. not (divides (i + 2) p)) (p - 2) (d - 2) none (omega arith)) in
          contradiction (dvd_divides d p v) (rw q at f);
    }

pub of_prime : (p : ℕ) → Prime p → is_prime p ≡ true
unfolding is_prime
of_prime p P =
    and_intro (leb 2 p) (all_below (λ i. not (divides (i + 2) p)) (p - 2)) (le-leb 2 p P.two)
    (all_intro (λ i. not (divides (i + 2) p)) (p - 2) (λ i l. fails i (divides (i + 2) p) refl l))
  where
    fails : (i : ℕ) (b : Bool) → divides (i + 2) p ≡ b → i < p - 2 → not b ≡ true
    fails i true q l = absurd (P.only (i + 2) (omega arith) (omega arith) (divides_dvd (i + 2) p q))
    fails i false q l = refl

-- The least divisor above 1

module _ (p : ℕ) (two : 2 ≤ p) where
  pub least-divisor-range : (2 ≤ least_divisor p) × (least_divisor p ≤ p)
  unfolding least_divisor
  least-divisor-range = let r = least_range (λ d. divides d p) (p - 2) 2 in omega arith

  pub least-divisor-least : (d : ℕ) → 2 ≤ d → d < least_divisor p → ¬ (d ∣ p)
  unfolding least_divisor
  least-divisor-least d h l v = contradiction (dvd_divides d p v) (before_least (λ x. divides x p) (p - 2) 2 d h l)

  -- a divisor above 1 is not below it
  pub least-divisor-below : (d : ℕ) → 2 ≤ d → d ∣ p → least_divisor p ≤ d
  least-divisor-below d h v = go (dec_le (least_divisor p) d)
    where
      go : Dec (least_divisor p ≤ d) → least_divisor p ≤ d
      go (yes l) = l
      go (no l) = absurd (least-divisor-least d h (omega arith) v)

  pub least-divisor-divides : least_divisor p ∣ p
  unfolding least_divisor
  least-divisor-divides = go (eq-or-lt_of_le least-divisor-range.1)
    where
      go : (least_divisor p ≡ p) ⊎ (least_divisor p < p) → least_divisor p ∣ p
      go (inl e) = rw e (dvd_refl p)
      go (inr l) = divides_dvd (least_divisor p) p (least_found (λ d. divides d p) (p - 2) 2 (omega arith))

  -- a prime is its own least divisor, and no other number is
  pub prime-least-divisor : Prime p → least_divisor p ≡ p
  prime-least-divisor P = go (eq-or-lt_of_le least-divisor-range.1)
    where
      go : (least_divisor p ≡ p) ⊎ (least_divisor p < p) → least_divisor p ≡ p
      go (inl e) = e
      go (inr l) = absurd (P.only (least_divisor p) least-divisor-range.0 l least-divisor-divides)

  pub least-divisor-prime : least_divisor p ≡ p → Prime p
  least-divisor-prime e = record { two = two; only = λ d h l. least-divisor-least d h (omega arith) }

  -- it is a prime
  pub least-prime-divisor : LeastPrimeDivisor (least_divisor p) p
  least-prime-divisor = record {
    prime = record { two = least-divisor-range.0; only = λ d h l v. least-divisor-least d h l (dvd_trans d v least-divisor-divides) };
    divisor = least-divisor-divides;
    smallest = λ e h l. least-divisor-least e (omega arith) l;
  }

  pub composite-is-not-prime : is_composite p ≡ not (is_prime p)
  unfolding is_composite
  composite-is-not-prime = and_on (leb 2 p) (not (is_prime p)) (le-leb 2 p two)

  pub not-composite-prime : is_composite p ≡ false → Prime p
  not-composite-prime e = prime_of p (not-false (is_prime p) (sym composite-is-not-prime ∙ e))

  -- a number is composite exactly if it is not its own least divisor
  pub composite-on : (least_divisor p ≡ p → ⊥) → is_composite p ≡ true
  composite-on ne = composite-is-not-prime ∙ ap not (not_holding (is_prime p) (λ e. ne (prime-least-divisor (prime_of p e))))

  pub composite-off : least_divisor p ≡ p → is_composite p ≡ false
  composite-off e = composite-is-not-prime ∙ ap not (of_prime p (least-divisor-prime e))

  -- a divisor with none below it is the least
  pub least-divisor-is : (d : ℕ) → 2 ≤ d → d ∣ p → ((e : ℕ) → 2 ≤ e → e < d → ¬ (e ∣ p)) → least_divisor p ≡ d
  least-divisor-is d h v none = go (eq-or-lt_of_le (least-divisor-below d h v))
    where
      go : (least_divisor p ≡ d) ⊎ (least_divisor p < d) → least_divisor p ≡ d
      go (inl e) = e
      go (inr l) = absurd (none (least_divisor p) least-divisor-range.0 l least-divisor-divides)

  -- and where there is none up to the square root, it is p
  pub least-divisor-root : (d : ℕ) → p < d * d → ((e : ℕ) → 2 ≤ e → e < d → ¬ (e ∣ p)) → least_divisor p ≡ p
  least-divisor-root d h none = go (p / l) (div-mul_cancel l least-divisor-divides)
    where
      l : ℕ
      l = least_divisor p

      high : (e : ℕ) → 2 ≤ e → e ∣ p → d ≤ e
      high e k v = pick (dec_le d e)
        where
          pick : Dec (d ≤ e) → d ≤ e
          pick (yes u) = u
          pick (no u) = absurd (none e k (omega arith) v)

      go : (k : ℕ) → k * l ≡ p → l ≡ p
      go zero q = absurd (omega (arith, zero-mul l))
      go (suc zero) q = sym (one-mul l) ∙ q
      go (suc (suc k)) q =
          let v : suc (suc k) ∣ p = subst (λ (x : ℕ). suc (suc k) ∣ x) q (dvd-mul_right (suc (suc k)) l) in
          absurd (omega (
            arith,
            q,
            mul-le-mul (high (suc (suc k)) (omega arith) v) (high l least-divisor-range.0 least-divisor-divides),
          ))
