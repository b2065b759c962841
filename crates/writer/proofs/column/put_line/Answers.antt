-- `writer::column::put_line` meets its contract.
use mathlib.Core.Path.{ap, ◌∙◌}
use lib.IntN.{ℤ}
use mir.Syntax.{w64}
use mir.ValLaws.{to_z-of_z}
use Rattle.columns.specs.Column.{signed_column}
use Rattle.writer.specs.inner.Place.{laid}
use Rattle.writer.proofs.Line.{line-laid}
use Rattle.writer.proofs.column.put_line.Goals as goal

pub returns : goal.returns
returns c =
    let a = c.args in
    line-laid a.a a.b a.c a.d a.at a.text.now c.put_signed_column.new.text c.put_column.new.text
    c.put_column-2.new.text c.put_column-3.new.text c.requires
    (c.put_signed_column.ensures ∙ ap (λ (z : ℤ). laid a.at (signed_column 11 z) a.text.now) (to_z-of_z w64 a.a c.ranges.a))
    c.put_column.ensures c.put_column-2.ensures c.put_column-3.ensures
