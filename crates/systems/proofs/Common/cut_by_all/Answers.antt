-- `systems::Common::cut_by_all` meets its contract.
use Rattle.std.proofs.Common.{◌≡◌, List, ◌^◌, length, ap, ◌∙◌, arith}
use lib.Seq.{take-length}
use Rattle.numbers.proofs.Saturated.{saturated-within}
use Rattle.systems.specs.Model.{Congruence, solves_all}
use Rattle.systems.specs.State.{common_for}
use Rattle.systems.proofs.Commons.{none_common}
use Rattle.systems.proofs.Opening.{everything}
use Rattle.systems.proofs.Cuts.{HeldIn, long, common_to, cut-next, slot_is}
use Rattle.systems.proofs.Common.cut_by_all.Goals as goal

pub loop-h-init : goal.loop-h-init
loop-h-init c C G =
    let a = c.args in
    c.everything-common.ensures
    ∙ ap everything (c.power.ensures ∙ saturated-within (a.p ^ a.n) (omega (arith, G.usable.within)))
    ∙ none_common a.p a.n G.usable.prime.two

pub loop-h-preserved : goal.loop-h-preserved
loop-h-preserved c C G =
    let l = c.loop-h in
    cut-next G c.loop-h-test.true (l.invariant C G) (slot_is G l.h-index _ c.loop-h-test.true) c.cut_by-common.ensures

pub returns : goal.returns
returns c C U P few e =
    let a = c.args in
    let G : HeldIn a.p a.n a.held.now C = record { usable = U; polynomials = P; few = few; held_are = e } in
    let all : c.loop-h.h-index ≡ length C = omega (arith, long G, c.loop-h-test.false) in
    c.loop-h.invariant C G
    ∙ ap (common_to G) all
    ∙ ap (λ (D : List Congruence). common_for (solves_all a.p a.n D) a.p a.n) (take-length C)
