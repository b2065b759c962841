-- `numbers::member_total` meets its contract. The invariant: the sum is that of the levels passed.
use mathlib.Core.Path.{◌≡◌}
use lib.ListN.{take}
use Rattle.theory.specs.ClassList.{member_total}
use Rattle.numbers.specs.Saturated.{saturated}
use Rattle.numbers.proofs.member_total.Given as goal

abbrev pub invariant-loop-t : goal.invariant-loop-t
invariant-loop-t l = l.sum ≡ saturated (member_total l.p l.n (take l.t-index l.levels))
