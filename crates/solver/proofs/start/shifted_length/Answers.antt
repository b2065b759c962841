-- `solver::start::shifted_length` meets its contract.
use mathlib.Core.Path.{sym, ◌∙◌}
use native.Mathlib.Omega.{arith}
use Rattle.solver.proofs.Starting.{length_top, length_deep}
use Rattle.solver.proofs.start.shifted_length.Goals as goal

pub returns-then-t-eq0 : goal.returns-then-t-eq0
returns-then-t-eq0 c = let a = c.args in sym (length_top a.c a.e a.t c.if-t-eq0.true)

pub returns : goal.returns
returns c =
    let a = c.args in
    c.min.ensures ∙ sym (length_deep a.c a.e a.t (omega (arith, c.if-t-eq0.false)))
