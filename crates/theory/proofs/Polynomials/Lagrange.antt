-- Lagrange: a polynomial has no more zeros modulo p than its degree modulo p.
use mathlib.Core.Path.{◌∙◌}
use mathlib.Core.List.{List}
use Prim.Native.Nat.{ℕ, ◌≤◌}
use native.Mathlib.Omega.{arith}
use lib.ListN.{length}
use Rattle.theory.specs.Range.{passing}
use Rattle.theory.specs.Prime.{Prime}
use Rattle.theory.specs.Polynomial.{vanishes}
use Rattle.theory.specs.inner.Polynomial.{Degree}
use Rattle.theory.proofs.Sums.{where_passes, length-sum, sum_over-passing}
use Rattle.theory.proofs.Polynomials.Orders.{orders-at-most-degree, zeros_at_most}

pub lagrange : (p : ℕ) → Prime p → (d : ℕ) (f : List ℕ) → Degree p f d → length (passing (vanishes p f) p 0) ≤ d
lagrange p P d f D =
    omega (
      arith,
      length-sum (passing (vanishes p f) p 0) ∙ sum_over-passing (vanishes p f) (λ c. 1) p 0,
      orders-at-most-degree p P (λ c. where_passes (vanishes p f c) 1) d f D (λ c h i w.
          omega (arith, zeros_at_most p f c 1 1 (λ j u. omega arith) i w)),
    )
