-- `solver::join::join` meets its contract. The invariant: the first i classes joined are written, and they are k.
use Rattle.solver.proofs.Joining.{Joining}
use Rattle.solver.proofs.join.join.Given as goal

abbrev pub invariant-loop-x : goal.invariant-loop-x
invariant-loop-x l = Joining l.p l.n l.entries l.initial.out l.x-index l.k l.out
