-- `writer::column::put_number` meets its contract.
use mathlib.Core.Path.{◌∙◌}
use Rattle.writer.proofs.Columns.{put-last-digit}
use Rattle.writer.proofs.column.put_number.Goals as goal

pub returns : goal.returns
returns c =
    let a = c.args in
    c.put_left.ensures ∙ put-last-digit a.part.now a.width c.requires.0 c.requires.1 a.sign a.x
