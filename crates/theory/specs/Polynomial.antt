-- Polynomials as lists of coefficients, "the lowest degree comes first" (01, "The solver and its companions").
use Rattle.std.specs.Prelude.{◌≡◌, Bool, List, [], ◌∷◌, map, ℕ, suc, ◌+◌, ◌-◌, ◌*◌, ◌/◌, ◌%◌, ◌^◌, ℤ, pos, negsuc, ◌+ℤ◌, ◌*ℤ◌}
use Rattle.theory.specs.Prime.{divides}

-- "Each is reduced to the range 0 to pⁿ − 1 before use, so −1 modulo 16 is 15": x modulo m, where `negsuc k` is −(k + 1)
unfoldable pub reduce : ℕ → ℤ → ℕ
reduce m (pos k) = k % m
reduce m (negsuc k) = m - 1 - k % m

-- the coefficients modulo pⁿ
unfoldable pub reduced : List ℤ → ℕ → ℕ → List ℕ
unfolding reduce
reduced f p n = map (reduce (p ^ n)) f

-- the value at x, by Horner's rule
unfoldable pub value : List ℕ → ℕ → ℕ
value [] x = 0
value (a ∷ f) x = a + x * value f x

-- p divides the value at r
unfoldable pub vanishes : ℕ → List ℕ → ℕ → Bool
unfolding value divides
vanishes p f r = divides p (value f r)

-- the numbers at which the value is a multiple of pⁿ
unfoldable pub zeros : List ℕ → ℕ → ℕ → ℕ → Bool
unfolding value divides
zeros f p n r = divides (p ^ n) (value f r)

-- "A root is a residue from 0 to pⁿ − 1 at which the value of f is a multiple of pⁿ"
unfoldable pub roots : List ℤ → ℕ → ℕ → ℕ → Bool
unfolding reduced zeros
roots f p n = zeros (reduced f p n) p n

-- k·a, (k + 1)·b, (k + 2)·c, … of a, b, c, …
unfoldable pub weighted : ℕ → List ℕ → List ℕ
weighted k [] = []
weighted k (a ∷ f) = k * a ∷ weighted (suc k) f

-- "where f' is the derivative"
unfoldable pub derivative : List ℕ → List ℕ
unfolding weighted
derivative [] = []
derivative (a ∷ f) = weighted 1 f

-- f with each coefficient divided by q
unfoldable pub divided : ℕ → List ℕ → List ℕ
divided q [] = []
divided q (a ∷ f) = a / q ∷ divided q f

-- Over the integers, before any reduction.

-- the value at x
unfoldable pub valueℤ : List ℤ → ℕ → ℤ
valueℤ [] x = pos 0
valueℤ (a ∷ f) x = a +ℤ pos x *ℤ valueℤ f x

-- the derivative
unfoldable pub weightedℤ : ℕ → List ℤ → List ℤ
weightedℤ k [] = []
weightedℤ k (a ∷ f) = (pos k *ℤ a) ∷ weightedℤ (suc k) f

unfoldable pub derivativeℤ : List ℤ → List ℤ
unfolding weightedℤ
derivativeℤ [] = []
derivativeℤ (a ∷ f) = weightedℤ 1 f

-- z is a multiple of m
pub record Multiple (m : ℕ) (z : ℤ) : Type 0 where
  pub quotient : ℤ
  pub times : pos m *ℤ quotient ≡ z
