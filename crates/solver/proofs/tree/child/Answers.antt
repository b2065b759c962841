-- `solver::tree::child` meets its contract.
use native.Mathlib.Omega.{arith}
use Rattle.solver.specs.inner.Recursion.{IsNode, child_at}
use Rattle.solver.proofs.Node.{level-lt, power_le, child-node}
use Rattle.solver.proofs.tree.child.Lts as lts
use Rattle.solver.proofs.tree.child.Reads as reads
use Rattle.solver.proofs.tree.child.Goals as goal

below : (a : lts.Start reads.Pre reads.Post) → IsNode a.args.p (child_at a.args.node a.args.p a.args.c)
below a = child-node a.requires.0 a.requires.1 a.requires.2

pub overflow_mul-result : goal.overflow_mul-result
overflow_mul-result c = let N = below c.before in omega (arith, N.residue_fits, power_le N)

pub overflow_add-result : goal.overflow_add-result
overflow_add-result c = let N = below c.before.before in omega (arith, N.residue_fits, power_le N)

pub overflow_mul-result-2 : goal.overflow_mul-result-2
overflow_mul-result-2 c = omega (arith, power_le (below c.before.before.before))

pub overflow_add-result-2 : goal.overflow_add-result-2
overflow_add-result-2 c = omega (arith, level-lt c.requires.0)
