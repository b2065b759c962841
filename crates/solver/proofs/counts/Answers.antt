-- `solver::counts` meets its contract.
use mathlib.Core.Path.{sym}
use native.Mathlib.Numerals.{add-one}
use native.Mathlib.Omega.{arith}
use Rattle.std.proofs.lemmas.Result.{err_from_is_err_and}
use Rattle.solver.proofs.Coefficients.{usable_pos, usable_fits, row_is, row_few, row_below}
use Rattle.solver.proofs.Verdicts.{usable-polynomial, counts-refused, counts-short, counts-filled}
use Rattle.solver.proofs.counts.Goals as goal

pub returns-then-counts-slots : goal.returns-then-counts-slots
returns-then-counts-slots c =
    let a = c.args in
    let U = usable-polynomial a.coefficients.now a.p a.n c.in_ok-m.m (sym c.in_ok-m.ensures) in
    let r = rw (← add-one a.n) at (counts-short a.coefficients.now a.p a.n a.counts.now U (rw (add-one a.n) at c.if-counts-slots.true)) in record {
      answer = r.0;
      counts = r.1;
    }

pub reduced-row-requires : goal.reduced-row-requires
reduced-row-requires c =
    let U = usable-polynomial c.args.coefficients.now c.args.p c.args.n c.in_ok-m.m (sym c.in_ok-m.ensures) in
    (usable_pos U.modulus, usable_fits U.modulus, U.few)

pub count_reduced-requires : goal.count_reduced-requires
count_reduced-requires c =
    let a = c.args in
    let U = usable-polynomial a.coefficients.now a.p a.n c.in_ok-m.m (sym c.in_ok-m.ensures) in
    let e = c.reduced-row.ensures in
    let f = a.coefficients.now in
    (U.modulus, row_few f U.modulus e U.few, row_below f U.modulus e, omega (arith, c.if-counts-slots.false))

pub returns : goal.returns
returns c =
    let a = c.args in
    let U = usable-polynomial a.coefficients.now a.p a.n c.in_ok-m.m (sym c.in_ok-m.ensures) in
    let w = row_is a.coefficients.now U.modulus c.reduced-row.ensures in
    let r = counts-filled a.coefficients.now a.p a.n a.counts.now U (omega (arith, c.if-counts-slots.false)) (rw (← w) c.count_reduced.ensures) in record {
      answer = r.0;
      counts = r.1;
    }

pub returns-in_err-m : goal.returns-in_err-m
returns-in_err-m c =
    let a = c.args in
    let p = err_from_is_err_and c.from_residual.result c.from_residual.ensures.1 in
    let r = counts-refused a.coefficients.now a.p a.n a.counts.now _ (sym c.in_err-m.ensures) in record {
      answer = rw (p.1, p.2) r.0;
      counts = r.1;
    }
