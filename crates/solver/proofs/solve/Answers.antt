-- `solver::solve` meets its contract.
use mathlib.Core.Path.{sym}
use Rattle.std.proofs.lemmas.Result.{err_from_is_err_and}
use Rattle.solver.specs.Solve.{lists}
use Rattle.solver.proofs.Coefficients.{usable_pos, usable_fits, row_is, row_some, row_few, row_below}
use Rattle.solver.proofs.Verdicts.{usable-polynomial, solve-refused, solved-is, lists-are}
use Rattle.solver.proofs.solve.Goals as goal

pub reduced-row-requires : goal.reduced-row-requires
reduced-row-requires c =
    let U = usable-polynomial c.args.coefficients.now c.args.p c.args.n c.in_ok-m.m (sym c.in_ok-m.ensures) in
    (usable_pos U.modulus, usable_fits U.modulus, U.few)

pub solve_reduced-requires : goal.solve_reduced-requires
solve_reduced-requires c =
    let a = c.args in
    let U = usable-polynomial a.coefficients.now a.p a.n c.in_ok-m.m (sym c.in_ok-m.ensures) in
    let e = c.reduced-row.ensures in
    let f = a.coefficients.now in
    (U.modulus, row_some f U.modulus e U.some, row_few f U.modulus e U.few, row_below f U.modulus e)

pub returns : goal.returns
returns c =
    let a = c.args in
    let given = lists a.residues.now a.levels.now a.marks.now in
    let U = usable-polynomial a.coefficients.now a.p a.n c.in_ok-m.m (sym c.in_ok-m.ensures) in
    let w = row_is a.coefficients.now U.modulus c.reduced-row.ensures in record {
      answer = rw (solved-is a.coefficients.now a.p a.n given U, ← w) c.solve_reduced.ensures.answer;
      lists = rw (lists-are a.coefficients.now a.p a.n given U, ← w) c.solve_reduced.ensures.lists;
    }

pub returns-in_err-m : goal.returns-in_err-m
returns-in_err-m c =
    let a = c.args in
    let given = lists a.residues.now a.levels.now a.marks.now in
    let p = err_from_is_err_and c.from_residual.result c.from_residual.ensures.1 in
    let r = solve-refused a.coefficients.now a.p a.n given _ (sym c.in_err-m.ensures) in record {
      answer = rw (p.1, p.2) r.0;
      lists = r.1;
    }
