-- Valuations, and the numbers s and D (01, "Classes, levels and D").
use Rattle.std.specs.Prelude.{Bool, true, false, not, ◌&&◌, ◌||◌, ℕ, zero, suc, ◌/◌, ◌^◌, min, eqb}
use mathlib.Core.List.{List, [], ◌∷◌, map, foldr}
use Rattle.theory.specs.Prime.{divides}
use Rattle.theory.specs.Polynomial.{divided}

-- how many times p divides x, counted up to k
unfoldable pub divisions : ℕ → ℕ → ℕ → ℕ
unfolding divides
divisions zero p x = 0
divisions (suc k) p x = elim (divides p x) [ true ↦ suc (divisions k p (x / p)) | false ↦ 0 ]

-- "The valuation of a nonzero number is how many times p divides it": x times is not too few, since p^x is above x
unfoldable pub valuation : ℕ → ℕ → ℕ
unfolding divisions
valuation p x = divisions x p x

-- the entries that are not zero
unfoldable pub nonzero : List ℕ → List ℕ
nonzero [] = []
nonzero (a ∷ f) = elim (eqb a 0) [ true ↦ nonzero f | false ↦ a ∷ nonzero f ]

-- the least entry
unfoldable pub minimum : List ℕ → ℕ
minimum [] = 0
minimum (a ∷ f) = foldr min a f

-- "Let s be the least valuation among the reduced nonzero coefficients"
unfoldable pub least_valuation : ℕ → List ℕ → ℕ
unfolding valuation nonzero minimum
least_valuation p f = minimum (map (valuation p) (nonzero f))

-- 02, 2.3: "Where some reduced coefficient is not zero, divide by p^s of 01 to get g"; p then does not divide all of g, the primitive part
unfoldable pub primitive : ℕ → List ℕ → List ℕ
unfolding least_valuation divided
primitive p f = divided (p ^ least_valuation p f) f

-- some entry passes the test
unfoldable pub some : (ℕ → Bool) → List ℕ → Bool
some test [] = false
some test (a ∷ f) = test a || some test f

-- every entry passes it
unfoldable pub every : (ℕ → Bool) → List ℕ → Bool
every test [] = true
every test (a ∷ f) = test a && every test f

-- the highest index whose entry passes the test, and 0 where none does
unfoldable pub highest : (ℕ → Bool) → List ℕ → ℕ
unfolding some
highest test [] = 0
highest test (a ∷ f) = elim (some test f) [ true ↦ suc (highest test f) | false ↦ 0 ]

-- "D is the highest index whose coefficient, divided by p^s, is not a multiple of p"
unfoldable pub degree_bound : ℕ → List ℕ → ℕ
unfolding least_valuation highest divides
degree_bound p f = highest (λ a. not (divides p (a / p ^ least_valuation p f))) f

-- "If all are zero, everything is a root"
unfoldable pub all_zero : List ℕ → Bool
unfolding every
all_zero f = every (λ a. eqb a 0) f
