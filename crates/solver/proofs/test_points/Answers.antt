-- `solver::test_points` meets its contract. The invariant: the records that are gone through have their answers, and the others are as they
-- were.
use mathlib.Core.Path.{sym, ap}
use Prim.Native.Nat.{ℕ}
use lib.ListN.{get_or}
use Rattle.std.proofs.lemmas.Result.{err_from_is_err_and}
use Rattle.solver.proofs.Coefficients.{usable_pos, usable_fits}
use Rattle.solver.proofs.Verdicts.{usable-polynomial}
use Rattle.solver.proofs.Testing.{row_next, points-refused, points-answered}
use Rattle.solver.proofs.test_points.Goals as goal

pub reduced-row-requires : goal.reduced-row-requires
reduced-row-requires c =
    let U = usable-polynomial c.args.coefficients.now c.args.p c.args.n c.in_ok-m.m (sym c.in_ok-m.ensures) in
    (usable_pos U.modulus, usable_fits U.modulus, U.few)

pub answer-query-requires : goal.answer-query-requires
answer-query-requires c =
    let U = usable-polynomial c.args.coefficients.now c.args.p c.args.n c.in_ok-m.m (sym c.in_ok-m.ensures) in
    (usable_pos U.modulus, usable_fits U.modulus)

pub loop-query-preserved : goal.loop-query-preserved
loop-query-preserved c =
    let q = c.loop-query in
    let point = (get_or q.queries q.query-index (record { point = 0; answer = 0 })).point in
    row_next _ _ c.args.queries.now q.queries q.query-index _ _ c.loop-query-test.true q.invariant
    (ap (λ (v : ℕ). record { point = point; answer = v }) c.answer-query.ensures)

pub returns : goal.returns
returns c =
    let a = c.args in
    let U = usable-polynomial a.coefficients.now a.p a.n c.in_ok-m.m (sym c.in_ok-m.ensures) in
    let r = points-answered a.coefficients.now a.p a.n a.queries.now U c.reduced-row.ensures c.loop-query-test.false c.loop-query.invariant in record {
      answer = r.0;
      queries = r.1;
    }

pub returns-in_err-m : goal.returns-in_err-m
returns-in_err-m c =
    let a = c.args in
    let p = err_from_is_err_and c.from_residual.result c.from_residual.ensures.1 in
    let r = points-refused a.coefficients.now a.p a.n a.queries.now _ (sym c.in_err-m.ensures) in record {
      answer = rw (p.1, p.2) r.0;
      queries = r.1;
    }
