-- Polynomials in tables, the lowest degree first.
use Rattle.std.specs.Prelude.{◌≡◌, Bool, true, false, not, List, ℕ, ◌%◌, ◌<◌, min, eqb, length, get_or}
use Rattle.theory.specs.Range.{passing}
use Rattle.theory.specs.Prime.{divides}
use Rattle.theory.specs.Polynomial.{value, vanishes}
use Rattle.theory.specs.Degree.{some, highest, valuation}
use Rattle.theory.specs.inner.Polynomial.{difference}

-- every coefficient is below m
pub record Below (m : ℕ) (f : List ℕ) : Type 0 where
  pub at : (i : ℕ) → get_or f i 0 < m

-- p does not divide a
abbrev pub prime_to : ℕ → ℕ → Bool
prime_to p a = not (divides p a)

-- the highest index whose coefficient p does not divide
unfoldable pub degree_modulo : ℕ → List ℕ → ℕ
degree_modulo p f = highest (prime_to p) f

-- p does not divide every coefficient
unfoldable pub nonzero_modulo : ℕ → List ℕ → Bool
nonzero_modulo p f = some (prime_to p) f

-- the entries of g are the first coefficients of f modulo m
pub record Residues (m : ℕ) (g f : List ℕ) : Type 0 where
  pub at : (i : ℕ) → i < length g → get_or g i 0 ≡ get_or f i 0 % m

-- the smaller of a bound and the valuation of x; an x that is 0 changes nothing
unfoldable pub lower_of : ℕ → ℕ → ℕ → ℕ
lower_of p best x = elim (eqb x 0) [ true ↦ best | false ↦ min (valuation p x) best ]

-- the digits at which f vanishes modulo p, rising
abbrev pub zero_digits : ℕ → List ℕ → List ℕ
zero_digits p f = passing (vanishes p f) p 0

-- entry j is the j-th finite difference of f at c modulo p
pub record Differences (p : ℕ) (f : List ℕ) (c : ℕ) (row : List ℕ) : Type 0 where
  pub at : (j : ℕ) → j < length row → get_or row j 0 ≡ difference p j (value f) c % p
