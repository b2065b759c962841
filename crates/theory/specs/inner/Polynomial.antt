-- Polynomials with natural coefficients: coefficients, degrees and differences.
use Rattle.std.specs.Prelude.{List, ℕ, zero, suc, ◌+◌, ◌-◌, ◌*◌, ◌<◌, get_or}
use Rattle.std.specs.Int.{◌∣◌}

-- the coefficient of y^i
abbrev pub coef : List ℕ → ℕ → ℕ
coef f i = get_or f i 0

-- the degree of f modulo q is d: q does not divide the coefficient of index d and divides all above it
pub record Degree (q : ℕ) (f : List ℕ) (d : ℕ) : Type 0 where
  pub lead : ¬ (q ∣ coef f d)
  pub above : (i : ℕ) → d < i → q ∣ coef f i

-- the j-th finite difference of F at c modulo p, where −1 is p − 1: F(c) for j = 0, then the difference at c + 1 less the one at c
unfoldable pub difference : ℕ → ℕ → (ℕ → ℕ) → ℕ → ℕ
difference p zero F c = F c
difference p (suc j) F c = difference p j F (suc c) + (p - 1) * difference p j F c
