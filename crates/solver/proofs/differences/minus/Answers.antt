-- `solver::differences::minus` meets its contract.
use mathlib.Core.Path.{◌≡◌, ap}
use Prim.Native.Nat.{ℕ, suc, ◌+◌, ◌-◌, ◌*◌}
use native.Mathlib.Omega.{arith}
use Rattle.theory.proofs.Numbers.Congruence.{residue_is}
use Rattle.solver.proofs.differences.minus.Goals as goal

pub returns-then-a-b : goal.returns-then-a-b
returns-then-a-b c =
    let a = c.args in
    let one : suc (a.p - 1) ≡ a.p = omega arith in
    let two : suc (a.b - 1) ≡ a.b = omega arith in
    residue_is a.p (a.a + a.p - a.b) (a.b - 1) (a.a + (a.p - 1) * a.b) (omega arith)
    (omega (arith, ap (λ (z : ℕ). z * a.b) one, ap (λ (z : ℕ). z * a.p) two))

pub returns-else-a-b : goal.returns-else-a-b
returns-else-a-b c =
    let a = c.args in
    let one : suc (a.p - 1) ≡ a.p = omega arith in
    residue_is a.p (a.a - a.b) a.b (a.a + (a.p - 1) * a.b) (omega arith) (omega (arith, ap (λ (z : ℕ). z * a.b) one))
