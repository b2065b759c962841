-- `solver::polynomial::divide` meets its contract.
use mathlib.Core.Path.{◌≡◌, sym, ◌∙◌}
use Prim.Native.Nat.{ℕ, ◌/◌}
use native.Mathlib.Omega.{arith}
use lib.ListN.{length}
use Rattle.theory.proofs.Lists.Overwritten.{written_all}
use Rattle.theory.proofs.Polynomials.Arithmetic.{divided-map}
use Rattle.solver.proofs.polynomial.divide.Goals as goal

pub returns : goal.returns
returns c =
    let a = c.args in
    let all : c.loop-a.a-index ≡ length a.g.now = omega arith in
    written_all (λ (x : ℕ). x / a.q) a.g.now _ (rw all at c.loop-a.invariant) ∙ sym (divided-map a.q a.g.now)
