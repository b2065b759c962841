-- `solver::digits::search` meets its contract. The invariant: the digits below c at which the polynomial vanishes are found.
use mathlib.Core.Path.{◌≡◌, refl, sym, ◌∙◌}
use Prim.Native.Nat.{◌<◌}
use native.Mathlib.Omega.{arith}
use Rattle.theory.specs.Range.{passing}
use Rattle.theory.proofs.Numbers.Prime.{prime_pos}
use Rattle.solver.proofs.Zeros.{found-on, found-off, found-room, found-few}
use Rattle.solver.proofs.digits.search.Goals as goal
use Rattle.solver.proofs.digits.search.Goals.{Then-value-eq0, then-value-eq0, else-value-eq0}

pub loop-c-init : goal.loop-c-init
unfolding passing
loop-c-init c = record { long = refl; number = refl; entries = refl }

-- where a digit is found, there is room for it
room : (c : Then-value-eq0) → c.loop-c.count < 64
room c =
    let pre = c.requires in
    omega (
      arith,
      pre.0,
      found-room pre.1 pre.3 c.loop-c.invariant c.loop-c-test.true
          (sym c.value.ensures ∙ c.if-value-eq0.true),
    )

pub loop-c-preserved : goal.loop-c-preserved
loop-c-preserved c =
    let pre = c.requires in
    let found = c.loop-c.invariant in
    let value = c.value.ensures in
    elim c.if-value-eq0.branch [
      | then-value-eq0 w ↦ rw (w.zeros-is, w.count-is)
          (found-on pre.1 pre.3 found c.loop-c-test.true (omega arith) (sym value ∙ w.if-value-eq0.true))
      | else-value-eq0 w ↦ rw (w.zeros-is, w.count-is)
          (found-off pre.1 pre.3 found (λ e. w.if-value-eq0.false (value ∙ e)))
    ]

pub returns : goal.returns
returns c =
    let pre = c.requires in
    let all : c.loop-c.c ≡ c.args.p = omega arith in
    (omega (arith, pre.0, found-few pre.1 pre.3 c.loop-c.invariant (omega arith)), rw all at c.loop-c.invariant.entries)

pub value-requires : goal.value-requires
value-requires c = (prime_pos c.requires.1, omega arith, omega arith)

pub offset_bounds-zeros-count : goal.offset_bounds-zeros-count
offset_bounds-zeros-count c = omega (arith, room (goal.at.offset_bounds-zeros-count c).Then-value-eq0)

pub bounds-zeros-count : goal.bounds-zeros-count
bounds-zeros-count c = omega (arith, room (goal.at.bounds-zeros-count c).Then-value-eq0)

pub overflow_add-count : goal.overflow_add-count
overflow_add-count c = omega (arith, room (goal.at.overflow_add-count c).Then-value-eq0)
