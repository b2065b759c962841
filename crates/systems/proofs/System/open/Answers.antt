-- `systems::System::open` meets its contract.
use Rattle.std.proofs.Common.{Err, sym, ap, ◌∙◌}
use Rattle.std.proofs.lemmas.Result.{err_from_is_err_and}
use Rattle.systems.proofs.Opening.{opened-accepted, opened-refused}
use Rattle.systems.proofs.System.open.Goals as goal

pub returns-in_err-residues : goal.returns-in_err-residues
returns-in_err-residues c =
    let p = err_from_is_err_and c.from_residual.result c.from_residual.ensures.1 in
    p.1 ∙ ap Err p.2 ∙ opened-refused c.args.p c.args.n _ (sym c.check_modulus.ensures ∙ c.in_err-residues.was)

pub returns : goal.returns
returns c =
    let a = c.args in
    rw (c.empty.ensures, c.everything.ensures) (opened-accepted a.p a.n _ (sym c.check_modulus.ensures ∙ c.in_ok-residues.was))
