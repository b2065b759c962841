-- `solver::differences::advance` meets its contract. The invariant: the entries below j − 1 are the new ones, the others the old ones.
use mathlib.Core.Path.{◌≡◌, refl, ◌∙◌}
use Prim.Native.Nat.{◌+◌, ◌-◌}
use native.Mathlib.Omega.{arith}
use lib.ListN.{length}
use Rattle.theory.proofs.Lists.Overwritten.{written_none, written-up}
use Rattle.solver.proofs.differences.advance.Goals as goal

pub loop-j-init : goal.loop-j-init
loop-j-init c = (omega arith, written_none _ _ _)

pub plus-requires : goal.plus-requires
plus-requires c =
    let old = c.loop-j.invariant.1.above in
    let small = c.requires.1.at in
    let j = c.loop-j.j in
    (rw (old (j - 1) (omega arith)) (small (j - 1)), rw (old j (omega arith)) (small j), c.requires.0)

pub loop-j-preserved : goal.loop-j-preserved
loop-j-preserved c =
    let old = c.loop-j.invariant.1.above in
    let j = c.loop-j.j in
    let one : j - 1 + 1 ≡ j = omega arith in
    let next : j + 1 - 1 ≡ j - 1 + 1 = omega arith in (
      omega arith,
      rw next (written-up c.loop-j.invariant.1 (j - 1) _ (omega arith)
          (c.plus.ensures ∙ rw (one, old (j - 1) (omega arith), old j (omega arith)) refl) (omega arith) refl),
    )

pub returns : goal.returns
returns c =
    let all : c.loop-j.j - 1 ≡ length c.args.row.now - 1 = omega arith in
    rw all at c.loop-j.invariant.1
