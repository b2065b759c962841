-- The levels left fall: by one from `count_digits` to `count_class`, and not from `count_class` to `count_digits`.
use Prim.Native.Nat.{◌+◌, ◌-◌, ◌*◌}
use lib.ListN.{take}
use Rattle.theory.specs.Live.{sum_over}
use Rattle.solver.proofs.Added.{Plus}
use Rattle.solver.proofs.ZeroCounts.{below}
use Rattle.solver.proofs.zero_counts.+count_class_count_digits.Given as goal

abbrev pub decreases-count_class : goal.decreases-count_class
decreases-count_class l = 2 * l.node.left + 1

abbrev pub decreases-count_digits : goal.decreases-count_digits
decreases-count_digits l = 2 * l.node.left

abbrev pub invariant-count_digits-loop-zero : goal.invariant-count_digits-loop-zero
invariant-count_digits-loop-zero l =
    Plus (λ k. sum_over (below l.h l.over.p (l.node.left - 1) k) (take l.zero-index l.zero-items)) l.over.exponent l.initial.counts l.counts
