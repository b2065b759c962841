-- `writer::column::put_column` meets its contract.
use Rattle.columns.specs.Column.{column}
use Rattle.columns.proofs.Length.{column-length}
use Rattle.writer.proofs.Columns.{number-column}
use Rattle.writer.proofs.Laid.{laid-part}
use Rattle.writer.proofs.column.put_column.Goals as goal

pub returns : goal.returns
returns c =
    let a = c.args in
    laid-part a.at (column a.width a.x) a.text.now c.put_number.new.part a.width
    (column-length a.width a.x) c.requires.1 (rw (← number-column a.width a.x) c.put_number.ensures)
