-- `writer::column::put_signed_column` meets its contract.
use mathlib.Core.Path.{◌≡◌, sym, ◌∙◌}
use mathlib.Core.Bool.{true, false}
use lib.IntN.{pos}
use lib.Signed.{lt_z}
use mir.Syntax.{w64}
use mir.ValLaws.{to_z-of_z}
use Rattle.std.proofs.lemmas.Bool.{false≢true}
use Rattle.columns.specs.Column.{blank, minus, signed_column}
use Rattle.columns.proofs.Length.{signed-length}
use Rattle.writer.proofs.Columns.{signed-number}
use Rattle.writer.proofs.Laid.{laid-part}
use Rattle.writer.proofs.column.put_signed_column.Goals as goal
use Rattle.writer.proofs.column.put_signed_column.Goals.{then-z-lt0, else-z-lt0}

pub returns : goal.returns
returns c =
    let a = c.args in
    let z = to_z-of_z w64 a.z c.ranges.z in
    let sign = c.if-z-lt0.sign in
    let below : lt_z a.z (pos 0) ≡ true → sign ≡ minus = λ e. elim c.if-z-lt0.branch [
      | then-z-lt0 w ↦ w.sign-is
      | else-z-lt0 w ↦ absurd (false≢true (sym (rw z at w.if-z-lt0.false) ∙ e))
    ] in
    let above : lt_z a.z (pos 0) ≡ false → sign ≡ blank = λ e. elim c.if-z-lt0.branch [
      | then-z-lt0 w ↦ absurd (false≢true (sym e ∙ rw z at w.if-z-lt0.true))
      | else-z-lt0 w ↦ w.sign-is
    ] in
    laid-part a.at (signed_column a.width a.z) a.text.now c.put_number.new.part a.width (signed-length a.width a.z) c.requires.1
    (rw (c.unsigned_abs.ensures.value, z, signed-number a.width a.z sign below above) at c.put_number.ensures)
