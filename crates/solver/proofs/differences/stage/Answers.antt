-- `solver::differences::stage` meets its contract. The invariant: the entries from index i on are the new ones, the others the old ones.
use mathlib.Core.Path.{◌≡◌, refl, ◌∙◌}
use Prim.Native.Nat.{◌+◌, ◌-◌}
use native.Mathlib.Omega.{arith}
use Rattle.theory.proofs.Lists.Overwritten.{written_none, written-down}
use Rattle.solver.proofs.differences.stage.Goals as goal

pub loop-i-init : goal.loop-i-init
loop-i-init c = (omega arith, written_none _ _ _)

pub minus-requires : goal.minus-requires
minus-requires c =
    let old = c.loop-i.invariant.1.below in
    let small = c.requires.2.at in
    let i = c.loop-i.i - 1 in
    (rw (old i (omega arith)) (small i), rw (old (i - 1) (omega arith)) (small (i - 1)), c.requires.1)

pub loop-i-preserved : goal.loop-i-preserved
loop-i-preserved c =
    let old = c.loop-i.invariant.1.below in
    let i = c.loop-i.i - 1 in (
      omega arith,
      written-down c.loop-i.invariant.1 i _ (omega arith) (c.minus.ensures ∙ rw (old i (omega arith), old (i - 1) (omega arith)) refl)
          (omega arith) (omega arith),
    )

pub returns : goal.returns
returns c =
    let all : c.loop-i.i ≡ c.args.k + 1 = omega arith in
    rw all at c.loop-i.invariant.1
