-- Divisors and primes.
use Rattle.std.specs.Prelude.{Bool, not, ◌&&◌, ℕ, ◌+◌, ◌-◌, ◌%◌, ◌≤◌, ◌<◌, eqb, leb}
use Rattle.std.specs.Int.{◌∣◌}
use Rattle.theory.specs.Range.{all_below, least}

-- x is a multiple of d
unfoldable pub divides : ℕ → ℕ → Bool
divides d x = eqb (x % d) 0

-- p is at least 2, and none of 2 … p − 1 divides it
unfoldable pub is_prime : ℕ → Bool
unfolding all_below divides
is_prime p = leb 2 p && all_below (λ i. not (divides (i + 2) p)) (p - 2)

-- p is at least 2 and not prime
unfoldable pub is_composite : ℕ → Bool
unfolding is_prime
is_composite p = leb 2 p && not (is_prime p)

-- being prime as a fact, which contracts of inner functions ask for
pub record Prime (p : ℕ) : Type 0 where
  pub two : 2 ≤ p
  pub only : (d : ℕ) → 2 ≤ d → d < p → ¬ (d ∣ p)

-- the least divisor above 1 of a number above 1: the first of 2 … p − 1 that divides p, and p itself where none does
unfoldable pub least_divisor : ℕ → ℕ
unfolding least divides
least_divisor p = least (λ d. divides d p) (p - 2) 2

-- d is a prime that divides p, and no number between 1 and d does
pub record LeastPrimeDivisor (d p : ℕ) : Type 0 where
  pub prime : Prime d
  pub divisor : d ∣ p
  pub smallest : (e : ℕ) → 1 < e → e < d → ¬ (e ∣ p)
