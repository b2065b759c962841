-- `solver::digits::search` meets its contract. The invariant: the digits below c at which the polynomial vanishes are found.
use Rattle.solver.proofs.Zeros.{Found}
use Rattle.solver.proofs.digits.search.Given as goal

abbrev pub invariant-loop-c : goal.invariant-loop-c
invariant-loop-c l = Found l.p l.c l.count l.g l.initial.zeros l.zeros
