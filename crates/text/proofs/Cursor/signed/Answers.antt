-- `text::Cursor::signed` meets its contract.
use Rattle.std.proofs.Common.{Some, sym, ◌∙◌}
use Rattle.text.proofs.Values.{kept, signed_read}
use Rattle.text.proofs.Cursor.signed.Goals as goal

pub returns-in_err-column_at : goal.returns-in_err-column_at
returns-in_err-column_at c =
    let a = c.args in
    c.from_residual.ensures
    ∙ rw c.in_err-column_at.was at (signed_read a.text.now a.self.at a.width c.column_at.result c.column_at.ensures.value)

pub returns-in_err-x : goal.returns-in_err-x
returns-in_err-x c =
    let a = c.args in
    c.from_residual-in_err-x.ensures
    ∙ rw (c.in_ok-column_at.was, sym c.signed.ensures, c.in_err-x.was) at
    (signed_read a.text.now a.self.at a.width c.column_at.result c.column_at.ensures.value)

pub returns : goal.returns
returns c =
    let a = c.args in
    rw (kept (Some c.in_ok-column_at.field-0) c.in_ok-x.x (sym c.signed.ensures ∙ c.in_ok-x.was))
    (rw (c.in_ok-column_at.was, sym c.signed.ensures, c.in_ok-x.was) at
    (signed_read a.text.now a.self.at a.width c.column_at.result c.column_at.ensures.value))
