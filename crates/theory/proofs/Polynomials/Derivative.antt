-- The derivative's coefficients and values.
use mathlib.Core.Path.{◌≡◌, refl, sym, ap, ap₂, ◌∙◌}
use mathlib.Core.List.{List, [], ◌∷◌}
use Prim.Native.Nat.{ℕ, zero, suc, ◌+◌, ◌*◌}
use native.Mathlib.Omega.{arith}
use native.Mathlib.Nat.{add-zero}
use Rattle.theory.specs.Polynomial.{value, weighted, derivative}
use Rattle.theory.specs.Taylor.{scale}
use Rattle.theory.specs.inner.Polynomial.{coef}

coef-weighted : (j : ℕ) (f : List ℕ) (k : ℕ) → coef (weighted j f) k ≡ (j + k) * coef f k
unfolding weighted
coef-weighted j [] k = omega arith
coef-weighted j (a ∷ f) zero = ap (λ (x : ℕ). x * a) (sym (add-zero j))
coef-weighted j (a ∷ f) (suc k) = coef-weighted (suc j) f k ∙ ap (λ (x : ℕ). x * coef f k) (omega arith)

pub coef-derivative : (f : List ℕ) (k : ℕ) → coef (derivative f) k ≡ suc k * coef f (suc k)
unfolding derivative
coef-derivative [] k = omega arith
coef-derivative (a ∷ f) k = coef-weighted 1 f k ∙ ap (λ (x : ℕ). x * coef f k) (omega arith)

-- Values, by the product rule: (a + x·f)' is f + x·f'

weighted_more : (k : ℕ) (f : List ℕ) (x : ℕ) → value (weighted (suc k) f) x ≡ value f x + value (weighted k f) x
unfolding weighted value
weighted_more k [] x = refl
weighted_more k (a ∷ f) x = rw (weighted_more (suc k) f x) (omega arith)

weighted_zero : (f : List ℕ) (x : ℕ) → value (weighted 0 f) x ≡ x * value (derivative f) x
unfolding weighted derivative value
weighted_zero [] x = omega arith
weighted_zero (a ∷ f) x = omega arith

pub derivative_none : (x : ℕ) → value (derivative []) x ≡ 0
unfolding derivative value
derivative_none x = refl

pub derivative_next : (a : ℕ) (f : List ℕ) (x : ℕ) → value (derivative (a ∷ f)) x ≡ value f x + x * value (derivative f) x
unfolding derivative
derivative_next a f x = weighted_more 0 f x ∙ ap (λ (y : ℕ). value f x + y) (weighted_zero f x)

-- a factor comes out of the derivative
weighted-scale : (q k : ℕ) (f : List ℕ) → weighted k (scale q f) ≡ scale q (weighted k f)
unfolding weighted scale
weighted-scale q k [] = refl
weighted-scale q k (a ∷ f) = ap₂ (λ x xs. x ∷ xs) (omega arith) (weighted-scale q (suc k) f)

pub derivative-scale : (q : ℕ) (f : List ℕ) → derivative (scale q f) ≡ scale q (derivative f)
unfolding derivative scale
derivative-scale q [] = refl
derivative-scale q (a ∷ f) = weighted-scale q 1 f
