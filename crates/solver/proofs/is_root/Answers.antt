-- `solver::is_root` meets its contract.
use mathlib.Core.Path.{sym, ◌∙◌}
use Rattle.std.proofs.lemmas.Result.{err_from_is_err_and}
use Rattle.solver.proofs.Coefficients.{usable_pos, usable_fits}
use Rattle.solver.proofs.Verdicts.{usable-polynomial, test-refused}
use Rattle.solver.proofs.Testing.{tested-reduced}
use Rattle.solver.proofs.is_root.Goals as goal

pub reduced-row-requires : goal.reduced-row-requires
reduced-row-requires c =
    let U = usable-polynomial c.args.coefficients.now c.args.p c.args.n c.in_ok-m.m (sym c.in_ok-m.ensures) in
    (usable_pos U.modulus, usable_fits U.modulus, U.few)

pub test_reduced-requires : goal.test_reduced-requires
test_reduced-requires c =
    let U = usable-polynomial c.args.coefficients.now c.args.p c.args.n c.in_ok-m.m (sym c.in_ok-m.ensures) in
    (usable_pos U.modulus, usable_fits U.modulus)

pub returns : goal.returns
returns c =
    let a = c.args in
    let U = usable-polynomial a.coefficients.now a.p a.n c.in_ok-m.m (sym c.in_ok-m.ensures) in
    c.test_reduced.ensures ∙ tested-reduced a.coefficients.now U c.reduced-row.ensures a.point

pub returns-in_err-m : goal.returns-in_err-m
returns-in_err-m c =
    let a = c.args in
    let p = err_from_is_err_and c.from_residual.result c.from_residual.ensures.1 in
    rw (p.1, p.2) (test-refused a.coefficients.now a.p a.n a.point _ (sym c.in_err-m.ensures))
