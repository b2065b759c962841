-- `report::step::finish` meets its contract.
use mathlib.Core.Path.{sym, ap, ◌∙◌}
use mathlib.Core.List.{[], ◌∷◌}
use borrow.Author.Tests.{eqb-true, eqb-false}
use lib.ListN.{length}
use Rattle.writer.specs.Output.{refusal_line, row_line}
use Rattle.report.proofs.Outcomes.{ending_none}
use Rattle.report.proofs.Steps.{given-ending, offset_small, refused-place, refused-ending}
use Rattle.report.proofs.Written.{line_taken}
use Rattle.report.proofs.step.finish.Goals as goal

pub returns-then-is_empty-clause-answer : goal.returns-then-is_empty-clause-answer
returns-then-is_empty-clause-answer c =
    let r = c.write_row in
    let a = c.args in
    let row = a.totals.problems ∷ a.totals.rootless ∷ a.totals.roots ∷ [] in
    line_taken (row_line row) a.line.now r.new.text r.result r.ensures.answer r.ensures.text
    ∙ sym (ending_none a.totals a.bytes.now (eqb-true (length c.args.bytes.now) 0 (sym c.if-is_empty.ensures)))

pub from_start-requires : goal.from_start-requires
from_start-requires c =
    let a = c.args in
    let some = eqb-false (length c.args.bytes.now) 0 (sym c.if-is_empty.ensures) in
    (offset_small a.totals c.requires, refused-place a.totals a.bytes.now some _ (sym c.in-Err.ensures))

pub returns-in-Ok-clause-answer : goal.returns-in-Ok-clause-answer
returns-in-Ok-clause-answer c =
    let a = c.args in
    let some = eqb-false (length c.args.bytes.now) 0 (sym c.if-is_empty.ensures) in
    sym (given-ending a.totals a.bytes.now some _ (sym c.in-Ok.ensures))

pub returns-in-Err-clause-answer : goal.returns-in-Err-clause-answer
returns-in-Err-clause-answer c =
    let a = c.args in
    let some = eqb-false (length c.args.bytes.now) 0 (sym c.if-is_empty.ensures) in
    let r = c.put_refusal in
    line_taken (refusal_line c.from_start.result) a.line.now r.new.line r.result r.ensures.answer r.ensures.line
    ∙ ap refusal_line c.from_start.ensures
    ∙ sym (refused-ending a.totals a.bytes.now some _ (sym c.in-Err.ensures))
