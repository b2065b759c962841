-- `writer::column::put_left` meets its contract. The invariant: what is left of the places written, written there, gives the whole.
use mathlib.Core.Path.{◌≡◌}
use mathlib.Core.List.{◌++◌}
use lib.ListN.{drop}
use Rattle.writer.specs.inner.Place.{left_of}
use Rattle.writer.proofs.column.put_left.Given as goal

abbrev pub invariant-loop-i : goal.invariant-loop-i
invariant-loop-i l = left_of l.lead l.i l.rest ++ drop l.i l.part ≡ left_of l.sign l.width l.y ++ drop l.width l.initial.part
