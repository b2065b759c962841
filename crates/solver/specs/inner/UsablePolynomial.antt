-- The rules on a polynomial, p and n, and what they leave to be used.
use Rattle.std.specs.Prelude.{◌≡◌, List, ℕ, ◌^◌, ◌≤◌, ◌<◌, ℤ, length, Result}
use Rattle.refusal.specs.declared.Refusal.{Refusal}
use Rattle.refusal.specs.Rules.{passes, tried, value_or}
use Rattle.numbers.specs.inner.Usable.{Usable}
use Rattle.solver.specs.Solve.{polynomial_rules}

-- pⁿ, or the refusal
unfoldable pub polynomial_modulus : List ℤ → ℕ → ℕ → Result ℕ Refusal
polynomial_modulus f p n = value_or (tried (polynomial_rules f p n)) (p ^ n)

-- a polynomial, p and n that these rules pass, with m for pⁿ
pub record UsablePolynomial (f : List ℤ) (p n m : ℕ) : Type 0 where
  pub accepted : tried (polynomial_rules f p n) ≡ passes
  pub some : 0 < length f
  pub few : length f ≤ 65
  pub modulus : Usable p n m
