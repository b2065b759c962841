-- `systems::Held::solved` meets its contract.
use Rattle.std.proofs.Common.{Ok, sym, ap, ◌∙◌}
use Rattle.systems.proofs.Solving.{not-refused, solved-slot}
use Rattle.systems.proofs.Held.solved.Goals as goal

pub returns-in_err-found : goal.returns-in_err-found
returns-in_err-found c U some few =
    let a = c.args in
    absurd (not-refused a.coefficients.now a.p a.n U some few _ (sym c.solve.ensures.answer ∙ c.in_err-found.was))

pub returns : goal.returns
returns c U some few =
    let a = c.args in
    ap Ok (solved-slot a.coefficients.now a.p a.n U some few a.tag c.min.result _ _ _ c.min.ensures
    (sym c.solve.ensures.answer ∙ c.in_ok-found.was) c.solve.ensures.lists)
