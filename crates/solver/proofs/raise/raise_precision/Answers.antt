-- `solver::raise::raise_precision` meets its contract.
use mathlib.Core.Path.{sym}
use Rattle.std.proofs.lemmas.Result.{err_from_is_err_and}
use Rattle.solver.specs.Solve.{lists}
use Rattle.solver.proofs.Coefficients.{usable_pos, usable_fits, row_is, row_some, row_few, row_below}
use Rattle.solver.proofs.RaiseAnswers.{raised-refused, raise-some, raise-few, raise-usable, raise-lent, raise-given}
use Rattle.solver.proofs.RaiseAnswers.{raised_is, raised-lists-are}
use Rattle.solver.proofs.raise.raise_precision.Goals as goal

pub reduced-row-requires : goal.reduced-row-requires
reduced-row-requires c =
    let a = c.args in
    let f = a.coefficients.now in
    let given = lists a.residues.now a.levels.now a.marks.now in
    let U = raise-usable f a.p a.n a.m a.given_residues.now a.given_levels.now given c.in_ok-modulus.modulus (sym c.in_ok-modulus.ensures) in (
      usable_pos U,
      usable_fits U,
      raise-few f a.p a.n a.m a.given_residues.now a.given_levels.now given c.in_ok-modulus.modulus (sym c.in_ok-modulus.ensures),
    )

pub raise_reduced-requires : goal.raise_reduced-requires
raise_reduced-requires c =
    let a = c.args in
    let f = a.coefficients.now in
    let given = lists a.residues.now a.levels.now a.marks.now in
    let q = c.in_ok-modulus.modulus in
    let U = raise-usable f a.p a.n a.m a.given_residues.now a.given_levels.now given q (sym c.in_ok-modulus.ensures) in
    let same = raise-lent f a.p a.n a.m a.given_residues.now a.given_levels.now given q (sym c.in_ok-modulus.ensures) in
    let e = c.reduced-row.ensures in (
      U,
      row_some f U e (raise-some f a.p a.n a.m a.given_residues.now a.given_levels.now given q (sym c.in_ok-modulus.ensures)),
      row_few f U e (raise-few f a.p a.n a.m a.given_residues.now a.given_levels.now given q (sym c.in_ok-modulus.ensures)),
      row_below f U e,
      raise-given f a.p a.n a.m a.given_residues.now a.given_levels.now given q (sym c.in_ok-modulus.ensures),
      same.0,
      same.1,
    )

pub returns : goal.returns
returns c =
    let a = c.args in
    let f = a.coefficients.now in
    let given = lists a.residues.now a.levels.now a.marks.now in
    let q = c.in_ok-modulus.modulus in
    let U = raise-usable f a.p a.n a.m a.given_residues.now a.given_levels.now given q (sym c.in_ok-modulus.ensures) in
    let w = row_is f U c.reduced-row.ensures in record {
      answer = rw (raised_is f a.p a.n a.m a.given_residues.now a.given_levels.now given q (sym c.in_ok-modulus.ensures), ← w)
          c.raise_reduced.ensures.answer;
      lists = rw (raised-lists-are f a.p a.n a.m a.given_residues.now a.given_levels.now given q (sym c.in_ok-modulus.ensures), ← w)
          c.raise_reduced.ensures.lists;
    }

pub returns-in_err-modulus : goal.returns-in_err-modulus
returns-in_err-modulus c =
    let a = c.args in
    let given = lists a.residues.now a.levels.now a.marks.now in
    let p = err_from_is_err_and c.from_residual.result c.from_residual.ensures.1 in
    let r = raised-refused a.coefficients.now a.p a.n a.m a.given_residues.now a.given_levels.now given _ (sym c.in_err-modulus.ensures) in record {
      answer = rw (p.1, p.2) r.0;
      lists = r.1;
    }
