-- `solver::zero_counts::add` meets its contract. The invariant: x is added to the entries that are gone through.
use Rattle.solver.proofs.Added.{Plus}
use Rattle.solver.proofs.zero_counts.add.Given as goal

abbrev pub invariant-loop-count : goal.invariant-loop-count
invariant-loop-count l = Plus (λ i. l.x) l.count-index l.initial.count-items l.count-items
