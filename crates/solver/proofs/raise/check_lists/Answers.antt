-- `solver::raise::check_lists` meets its contract.
use mathlib.Core.Path.{sym, ap, ◌∙◌}
use Prim.Native.Nat.{min}
use Rattle.std.proofs.lemmas.Result.{err_from_is_err_and}
use Rattle.solver.proofs.RaiseRules.{given-lengths, lent-lengths, list-accepted, list-refused}
use Rattle.solver.proofs.raise.check_lists.Goals as goal
use Rattle.solver.proofs.raise.check_lists.Goals.{then-lengths-via-then-lengths, then-lengths-via-else-lengths+then-lengths-2}

pub returns-then-given-given_levels : goal.returns-then-given-given_levels
returns-then-given-given_levels c =
    let a = c.args in
    given-lengths a.p a.n a.given_residues.now a.given_levels.now a.lengths a.modulus c.min.ensures
    c.if-given-given_levels.true

pub returns-then-lengths : goal.returns-then-lengths
returns-then-lengths c =
    let a = c.args in
    lent-lengths a.p a.n a.given_residues.now a.given_levels.now a.lengths a.modulus c.if-given-given_levels.false
    (c.min-shortest.ensures ∙ ap (min a.lengths.residues) c.min-then-lengths.ensures)
    (λ d e. elim c.then-lengths.branch [
      | then-lengths-via-then-lengths w ↦ w.if-lengths.true d
      | then-lengths-via-else-lengths+then-lengths-2 w ↦ w.if-lengths-2.true e
    ])

pub returns : goal.returns
returns c =
    let a = c.args in
    list-accepted a.p a.n a.given_residues.now a.given_levels.now a.lengths a.modulus c.if-given-given_levels.false
    c.if-lengths.false c.if-lengths-2.false c.requires _ (sym c.in_ok-check_list.ensures)

pub returns-in_err-check_list : goal.returns-in_err-check_list
returns-in_err-check_list c =
    let a = c.args in
    let p = err_from_is_err_and c.from_residual.result c.from_residual.ensures.1 in
    rw (p.1, p.2) (list-refused a.p a.n a.given_residues.now a.given_levels.now a.lengths a.modulus c.if-given-given_levels.false
    c.if-lengths.false c.if-lengths-2.false c.requires _ (sym c.in_err-check_list.ensures))
