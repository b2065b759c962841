-- `solver::raise::check_given` meets its contract.
use mathlib.Core.Path.{◌≡◌, sym, ◌∙◌}
use lib.ListN.{length}
use Rattle.refusal.specs.declared.Refusal.TheVariants.{PrecisionsFall}
use Rattle.refusal.specs.Rules.{refuses, rule17}
use Rattle.refusal.proofs.Rules.{rule17_falls, rule17-residues, rule17-levels}
use Rattle.std.proofs.lemmas.Result.{err_from_is_err_and}
use Rattle.solver.proofs.RaiseRules.{precision-refused, falls-refused, left-to-lists}
use Rattle.solver.proofs.raise.check_given.Goals as goal
use Rattle.solver.proofs.raise.check_given.Goals.{then-m-n-via-then-m-n, then-m-n-via-else-m-n+then-given_residues-gt64, then-m-n-via-else-m-n+else-given_residues-gt64+then-given_levels-gt64}

pub returns-then-m-n : goal.returns-then-m-n
returns-then-m-n c =
    let a = c.args in
    let x = length a.given_residues.now in
    let y = length a.given_levels.now in
    let falls : rule17 a.n a.m x y ≡ refuses PrecisionsFall =
    elim c.then-m-n.branch [
      | then-m-n-via-then-m-n w ↦ rule17_falls a.n a.m x y w.if-m-n.true
      | then-m-n-via-else-m-n+then-given_residues-gt64 w ↦ rule17-residues a.n a.m x y w.if-m-n.false w.if-given_residues-gt64.true
      | then-m-n-via-else-m-n+else-given_residues-gt64+then-given_levels-gt64 w ↦
          rule17-levels a.n a.m x y w.if-m-n.false w.if-given_residues-gt64.false w.if-given_levels-gt64.true
    ] in
    falls-refused a.p a.n a.m a.given_residues.now a.given_levels.now a.lengths c.in_ok-modulus.modulus (sym c.in_ok-modulus.ensures) falls

pub returns : goal.returns
returns c =
    let a = c.args in
    c.check_lists.ensures
    ∙ sym (left-to-lists a.p a.n a.m a.given_residues.now a.given_levels.now a.lengths c.in_ok-modulus.modulus (sym c.in_ok-modulus.ensures)
    c.if-m-n.false c.if-given_residues-gt64.false c.if-given_levels-gt64.false)

pub returns-in_err-modulus : goal.returns-in_err-modulus
returns-in_err-modulus c =
    let a = c.args in
    let p = err_from_is_err_and c.from_residual.result c.from_residual.ensures.1 in
    rw (p.1, p.2) (precision-refused a.p a.n a.m a.given_residues.now a.given_levels.now a.lengths _ (sym c.in_err-modulus.ensures))
