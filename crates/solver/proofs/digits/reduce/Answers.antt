-- `solver::digits::reduce` meets its contract. The invariant: the first i coefficients are reduced.
use mathlib.Core.Path.{refl}
use native.Mathlib.Omega.{arith}
use Rattle.theory.proofs.Lists.Overwritten.{written_none, written-up}
use Rattle.solver.proofs.digits.reduce.Goals as goal

pub loop-i-init : goal.loop-i-init
loop-i-init c = written_none _ _ _

pub loop-i-preserved : goal.loop-i-preserved
loop-i-preserved c = written-up c.loop-i.invariant c.loop-i.i _ (omega arith) refl (omega arith) refl

pub returns : goal.returns
returns c = let w = c.loop-i.invariant in record { at = λ i h. w.inside i (omega arith) (omega (arith, w.long)) }
