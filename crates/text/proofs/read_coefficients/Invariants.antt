-- `text::read_coefficients` meets its contract. The invariant: as many lines are read as slots are filled, with their coefficients.
use Rattle.text.proofs.Rows.{Reading}
use Rattle.text.proofs.read_coefficients.Given as goal

abbrev pub invariant-loop-slot : goal.invariant-loop-slot
invariant-loop-slot l = Reading l.text l.initial.cursor.at l.cursor.at l.count l.slot-index l.slot-items
