-- `solver::differences::first_row` meets its contract. The invariant: k stages are done.
use mathlib.Core.Path.{◌≡◌, refl, ◌∙◌}
use native.Mathlib.Omega.{arith}
use lib.ListN.{length}
use Rattle.solver.proofs.FiniteDifferences.{stage-start, stage-next, stage-end}
use Rattle.solver.proofs.Tables.{remainders_below}
use Rattle.solver.proofs.differences.first_row.Goals as goal

pub loop-k-init : goal.loop-k-init
loop-k-init c = (refl, stage-start _ _ (omega arith) _ _ c.values.ensures)

pub stage-requires : goal.stage-requires
stage-requires c =
    let p = c.requires in
    (omega arith, p.1, remainders_below _ _ _ p.0 c.loop-k.invariant.1)

pub loop-k-preserved : goal.loop-k-preserved
loop-k-preserved c =
    let w = c.stage.ensures in
    (w.long ∙ c.loop-k.invariant.0, stage-next _ _ (omega arith) c.loop-k.k _ _ c.loop-k.invariant.1 w)

pub returns : goal.returns
returns c =
    let all : c.loop-k.k ≡ length c.loop-k.row = omega arith in
    stage-end _ _ (omega arith) c.loop-k.row (rw all at c.loop-k.invariant.1)
