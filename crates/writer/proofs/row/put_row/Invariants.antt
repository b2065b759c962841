-- `writer::row::put_row` meets its contract. The invariant: the columns of the first i numbers are laid.
use mathlib.Core.Path.{◌≡◌}
use lib.ListN.{take}
use Rattle.writer.specs.inner.Place.{laid}
use Rattle.writer.proofs.RowLine.{columns_of}
use Rattle.writer.proofs.row.put_row.Given as goal

abbrev pub invariant-loop-i : goal.invariant-loop-i
invariant-loop-i l = l.text ≡ laid 0 (columns_of (take l.i l.row)) l.initial.text
