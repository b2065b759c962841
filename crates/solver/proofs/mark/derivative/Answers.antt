-- `solver::mark::derivative` meets its contract.
use mathlib.Core.Path.{◌≡◌, refl}
use mathlib.Core.List.{List}
use Prim.Native.Nat.{ℕ, suc, ◌+◌, ◌*◌, ◌/◌, ◌%◌}
use native.Mathlib.Numerals.{add-one}
use native.Mathlib.Omega.{arith}
use Rattle.theory.specs.Polynomial.{derivative, divided}
use Rattle.theory.specs.inner.Polynomial.{coef}
use Rattle.theory.proofs.Lists.Overwritten.{written-up}
use Rattle.theory.proofs.Numbers.Congruence.{cong_refl, cong_mul, cong_mod}
use Rattle.theory.proofs.Polynomials.Arithmetic.{coef-divided}
use Rattle.theory.proofs.Polynomials.Derivative.{coef-derivative}
use Rattle.solver.proofs.mark.derivative.Goals as goal

-- one coefficient of the derivative
term : (q p i : ℕ) (f : List ℕ) → (i + 1) * (coef f (i + 1) / q % p) % p ≡ coef (derivative (divided q f)) i % p
term q p i f =
    rw (coef-derivative (divided q f) i, coef-divided q f (suc i), add-one i)
    (cong_mul (cong_refl {x = suc i}) (cong_mod p (coef f (suc i) / q))).same

pub loop-i-preserved : goal.loop-i-preserved
loop-i-preserved c =
    let a = c.args in
    let i = c.loop-i.i in
    written-up c.loop-i.invariant i _ (omega arith) (term a.q a.p i a.f.now) (omega arith) refl
