-- `numbers::member_total` meets its contract. The invariant: the sum is that of the levels passed.
use mathlib.Core.Path.{refl, sym, ap, ap₂, ◌∙◌}
use Prim.Native.Nat.{ℕ, ◌+◌, ◌-◌, ◌^◌, min}
use native.Mathlib.Omega.{arith}
use lib.ListN.{get_or, take}
use Rattle.theory.specs.ClassList.{member_total}
use Rattle.theory.proofs.Classes.Sum.{total_next}
use Rattle.theory.proofs.Lists.Fill.{take_next}
use Rattle.numbers.specs.Saturated.{saturated}
use Rattle.numbers.proofs.Saturated.{saturated-le, saturated-sum}
use Rattle.numbers.proofs.member_total.Goals as goal

pub loop-t-init : goal.loop-t-init
unfolding member_total saturated
loop-t-init c = refl

pub overflow_add-sum : goal.overflow_add-sum
overflow_add-sum c = record { fits = omega (arith, c.member_count.ensures, saturated-le) }

pub loop-t-preserved : goal.loop-t-preserved
loop-t-preserved c =
    let total = member_total c.args.p c.args.n in
    let levels = c.args.levels.now in
    let i = c.loop-t.t-index in
    c.min-sum.ensures
    ∙ ap₂ (λ (x y : ℕ). min (x + y) 4294967296) c.loop-t.invariant c.member_count.ensures
    ∙ saturated-sum (total (take i levels)) (c.args.p ^ (c.args.n - get_or levels i 0))
    ∙ ap saturated
    (sym (ap total (take_next levels i 0 c.loop-t-test.true) ∙ total_next c.args.p c.args.n (take i levels) (get_or levels i 0)))
