-- `solver::taylor::shift` meets its contract.
use Rattle.solver.proofs.Shift.{stretch-step}
use Rattle.solver.proofs.taylor.shift.Goals as goal

pub returns : goal.returns
returns c =
    stretch-step _ _ _ c.taylor.ensures c.stretch.ensures
