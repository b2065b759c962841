-- `text::Cursor::unsigned` meets its contract.
use Rattle.std.proofs.Common.{sym, ◌∙◌}
use Rattle.text.proofs.Values.{unsigned_read}
use Rattle.text.proofs.Cursor.unsigned.Goals as goal

pub returns-in_err-column_at : goal.returns-in_err-column_at
returns-in_err-column_at c =
    let a = c.args in
    c.from_residual.ensures
    ∙ rw c.in_err-column_at.was at (unsigned_read a.text.now a.self.at a.width c.column_at.result c.column_at.ensures.value)

pub returns-in_err-x : goal.returns-in_err-x
returns-in_err-x c =
    let a = c.args in
    c.from_residual-in_err-x.ensures
    ∙ rw (c.in_ok-column_at.was, sym c.unsigned.ensures, c.in_err-x.was) at
    (unsigned_read a.text.now a.self.at a.width c.column_at.result c.column_at.ensures.value)

pub returns : goal.returns
returns c =
    let a = c.args in
    rw (c.in_ok-column_at.was, sym c.unsigned.ensures, c.in_ok-x.was) at
    (unsigned_read a.text.now a.self.at a.width c.column_at.result c.column_at.ensures.value)
