-- `text::column::column_at` meets its contract.
use Rattle.std.proofs.Common.{◌≤◌, ◌<◌, ◌+◌, length, take, arith, sym, ap, ◌∙◌}
use Rattle.std.proofs.lemmas.Slice.{between_to_end, between_from_start}
use Rattle.text.specs.inner.Capped.{capped}
use Rattle.text.specs.Reading.{scan}
use Rattle.text.proofs.Values.{column_whole, column_incomplete}
use Rattle.text.proofs.column.column_at.Goals as goal

pub returns-in_err-get-clause-value : goal.returns-in_err-get-clause-value
returns-in_err-get-clause-value c =
    let a = c.args in
    let h : length a.text.now < a.at + a.width = omega (arith, c.in_err-get.ensures.lookup) in
    c.from_residual.ensures ∙ ap capped (sym (column_incomplete a.text.now a.at a.width h))

pub returns-in_err-get-2-clause-value : goal.returns-in_err-get-2-clause-value
returns-in_err-get-2-clause-value c =
    let a = c.args in
    let h : length a.text.now < a.at + a.width = omega (arith, c.in_err-get-2.ensures.lookup, c.in_ok-get.ensures.lookup) in
    c.from_residual-in_err-get-2.ensures ∙ ap capped (sym (column_incomplete a.text.now a.at a.width h))

pub returns-clause-value : goal.returns-clause-value
returns-clause-value c =
    let a = c.args in
    let whole = c.in_ok-get.ensures.lookup in
    let part = c.in_ok-get-2.ensures.lookup in
    let h : a.at + a.width ≤ length a.text.now = omega (arith, whole, part) in
    c.scan.ensures
    ∙ ap (λ l. capped (scan l)) (part.0.2 ∙ between_from_start _ a.width
    ∙ ap (take a.width) (whole.0.2 ∙ between_to_end a.text.now a.at _ (omega arith)))
    ∙ ap capped (sym (column_whole a.text.now a.at a.width h))
