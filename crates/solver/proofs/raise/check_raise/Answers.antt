-- `solver::raise::check_raise` meets its contract.
use mathlib.Core.Path.{sym, ◌∙◌}
use Rattle.std.proofs.lemmas.Result.{err_from_is_err_and}
use Rattle.solver.proofs.Coefficients.{usable_power}
use Rattle.solver.proofs.Verdicts.{usable-polynomial}
use Rattle.solver.proofs.RaiseRules.{raise-refused, left-to-precision}
use Rattle.solver.proofs.raise.check_raise.Goals as goal

pub check_given-requires : goal.check_given-requires
check_given-requires c =
    let U = usable-polynomial c.args.coefficients.now c.args.p c.args.n _ (sym c.in_ok-check_polynomial.ensures) in
    usable_power U.modulus

pub returns : goal.returns
returns c =
    let a = c.args in
    let U = usable-polynomial a.coefficients.now a.p a.n _ (sym c.in_ok-check_polynomial.ensures) in
    c.check_given.ensures
    ∙ sym (left-to-precision a.coefficients.now a.p a.n a.m a.given_residues.now a.given_levels.now a.lengths U)

pub returns-in_err-check_polynomial : goal.returns-in_err-check_polynomial
returns-in_err-check_polynomial c =
    let a = c.args in
    let p = err_from_is_err_and c.from_residual.result c.from_residual.ensures.1 in
    rw (p.1, p.2) (raise-refused a.coefficients.now a.p a.n a.m a.given_residues.now a.given_levels.now a.lengths _ (sym c.in_err-check_polynomial.ensures))
