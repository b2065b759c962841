-- `solver::differences::plus` meets its contract.
use Prim.Native.Nat.{◌+◌, ◌-◌}
use native.Mathlib.Omega.{arith}
use Rattle.theory.proofs.Numbers.Congruence.{residue_is}
use Rattle.solver.proofs.differences.plus.Goals as goal

pub returns-else-s-p : goal.returns-else-s-p
returns-else-s-p c =
    let a = c.args in
    residue_is a.p (a.a + a.b - a.p) 1 (a.a + a.b) (omega arith) (omega arith)
