-- `solver::digits::by_degree` meets its contract.
use mathlib.Core.Path.{◌≡◌, sym}
use Prim.Native.Nat.{◌-◌}
use native.Mathlib.Omega.{arith}
use lib.ListN.{length}
use Rattle.solver.proofs.Linear.{constant_none}
use Rattle.solver.proofs.digits.by_degree.Goals as goal

pub returns-then-len-eq1 : goal.returns-then-len-eq1
returns-then-len-eq1 c =
    let none : length c.args.g.now - 1 ≡ 0 = omega arith in
    (omega arith, sym (constant_none c.args.p c.args.g.now c.requires.2 (rw none at c.requires.5)))

pub linear-requires : goal.linear-requires
linear-requires c =
    let one : length c.args.g.now - 1 ≡ 1 = omega arith in
    (c.if-len-eq2.true, c.requires.2, c.requires.3, c.requires.4, rw one at c.requires.5, omega arith)
