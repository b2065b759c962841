-- `systems::Common::cut_by` meets its contract.
use Rattle.theory.specs.inner.Cut.{both}
use Rattle.systems.proofs.Cuts.{common_list, held_list, cut_common}
use Rattle.systems.proofs.Common.cut_by.Goals as goal

pub returns : goal.returns
returns c S T tag U ec eh few few' fits =
    let a = c.args in
    let w =
    c.cut-classes.ensures.lists S T a.n U.prime.two U.within (common_list _ c.min-k.ensures ec few)
    (held_list tag _ c.min-j.ensures eh few') fits in
    cut_common (both S T) U w c.member_total-roots.ensures
