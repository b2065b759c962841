-- `writer::lines::put_classes` meets its contract. The invariant: the lines of the first i classes are laid.
use mathlib.Core.Path.{◌≡◌}
use Rattle.writer.specs.inner.Place.{laid}
use Rattle.writer.proofs.ClassLines.{lines_to}
use Rattle.writer.proofs.lines.put_classes.Given as goal

abbrev pub invariant-loop-i : goal.invariant-loop-i
invariant-loop-i l = l.text ≡ laid 45 (lines_to l.p l.n l.residues l.levels l.marks l.i) l.initial.text
