-- `systems::slots::close_gap` meets its contract.
use Rattle.std.proofs.Common.{◌≡◌, ap, ◌∙◌, arith}
use Rattle.systems.specs.State.{blank}
use Rattle.systems.proofs.HeldSlots.{shifted_to, shifted_none, shifted_next, shifted_all}
use Rattle.systems.proofs.slots.close_gap.Goals as goal

pub loop-i-init : goal.loop-i-init
loop-i-init c = shifted_none c.args.held.now c.args.at

pub loop-i-preserved : goal.loop-i-preserved
loop-i-preserved c =
    let l = c.loop-i in
    shifted_next c.args.held.now c.args.at l.held l.i _ l.auto.i (omega (arith, c.told-held, c.loop-i-test.true)) l.invariant

pub returns : goal.returns
returns c =
    let l = c.loop-i in
    let old = c.args.held.now in
    let all : l.i ≡ 15 = omega arith in
    l.invariant ∙ ap (shifted_to old c.args.at) all ∙ shifted_all old c.args.at 15 blank (omega arith) (omega (arith, c.told-held))
