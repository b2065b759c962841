-- `solver::differences::values` meets its contract. The invariant: the first i values are written.
use mathlib.Core.Path.{◌≡◌, refl}
use native.Mathlib.Omega.{arith}
use lib.ListN.{length}
use Rattle.theory.proofs.Lists.Overwritten.{written_none, written-up}
use Rattle.solver.proofs.Tables.{remainder_fits}
use Rattle.solver.proofs.differences.values.Goals as goal

pub loop-i-init : goal.loop-i-init
loop-i-init c = written_none _ _ _

pub overflow_cast-entry : goal.overflow_cast-entry
overflow_cast-entry c = rw c.value.ensures (remainder_fits _ _ (omega arith) (omega arith))

pub loop-i-preserved : goal.loop-i-preserved
loop-i-preserved c = written-up c.loop-i.invariant c.loop-i.i _ (omega arith) c.value.ensures (omega arith) refl

pub returns : goal.returns
returns c =
    let all : c.loop-i.i ≡ length c.args.row.now = omega arith in
    rw all at c.loop-i.invariant
