-- `text::column::scan` meets its contract.
use Rattle.std.proofs.Common.{refl, sym, ◌∙◌}
use Rattle.text.specs.Reading.{scan}
use Rattle.text.proofs.Capped.{one_more, stopped}
use Rattle.text.proofs.column.scan.Goals as goal

pub loop-byte-init : goal.loop-byte-init
unfolding scan
loop-byte-init c = refl

pub returns-in_err-part : goal.returns-in_err-part
returns-in_err-part c =
    let l = c.loop-byte in
    c.from_residual.ensures
    ∙ stopped c.args.column.now l.byte-index l.part c.step.result c.loop-byte-test.true l.invariant c.step.ensures (sym c.in_err-part.was)

pub loop-byte-preserved : goal.loop-byte-preserved
loop-byte-preserved c =
    let l = c.loop-byte in
    sym c.in_ok-part.was ∙ one_more c.args.column.now l.byte-index l.part c.step.result c.loop-byte-test.true l.invariant c.step.ensures
