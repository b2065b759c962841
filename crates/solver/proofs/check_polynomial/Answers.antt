-- `solver::check_polynomial` meets its contract.
use mathlib.Core.Path.{sym, ◌∙◌}
use borrow.Author.Tests.{eqb-true, eqb-false}
use Rattle.solver.proofs.Verdicts.{none-given, many-given, counted}
use Rattle.solver.proofs.check_polynomial.Goals as goal

pub returns-then-is_empty : goal.returns-then-is_empty
returns-then-is_empty c =
    let a = c.args in
    sym (none-given a.coefficients.now a.p a.n (eqb-true _ 0 (sym c.is_empty.ensures ∙ c.if-is_empty.true)))

pub returns-then-coefficients-gt65 : goal.returns-then-coefficients-gt65
returns-then-coefficients-gt65 c = let a = c.args in sym (many-given a.coefficients.now a.p a.n c.if-coefficients-gt65.true)

pub returns : goal.returns
returns c =
    let a = c.args in
    let some = eqb-false _ 0 (sym c.is_empty.ensures ∙ c.if-is_empty.false) in
    c.check_modulus.ensures ∙ sym (counted a.coefficients.now a.p a.n some c.if-coefficients-gt65.false)
