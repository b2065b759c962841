-- `solver::valuation::lower` meets its contract.
use mathlib.Core.Path.{sym}
use Rattle.solver.proofs.Lowest.{lower_zero, lower_min}
use Rattle.solver.proofs.valuation.lower.Goals as goal

pub returns-then-x-eq0 : goal.returns-then-x-eq0
returns-then-x-eq0 c = let a = c.args in sym (lower_zero a.p a.best a.x c.if-x-eq0.true)

pub returns : goal.returns
returns c =
    let a = c.args in
    rw (lower_min a.p a.best a.x c.if-x-eq0.false, ← c.valuation.ensures) c.min.ensures
