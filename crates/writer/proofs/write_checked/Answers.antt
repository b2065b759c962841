-- `writer::write_checked` meets its contract.
use mathlib.Core.Path.{◌≡◌, ap, ◌∙◌}
use Prim.Native.Nat.{ℕ}
use native.Mathlib.Omega.{arith}
use lib.IntN.{ℤ, pos}
use lib.ListN.{length}
use mir.Syntax.{w64}
use mir.ValLaws.{to_z_pos}
use Rattle.refusal.specs.Rules.{rule12}
use Rattle.refusal.proofs.Rules.{rule12_passes}
use Rattle.classes.specs.Rule7.{classes_of}
use Rattle.writer.specs.inner.Place.{laid}
use Rattle.writer.specs.Output.{line, output_text}
use Rattle.writer.proofs.Answers.{passed-text}
use Rattle.writer.proofs.Checked.{total-fits}
use Rattle.writer.proofs.Listing.{output-laid}
use Rattle.writer.proofs.write_checked.Goals as goal

pub returns-clause-text : goal.returns-clause-text
returns-clause-text c =
    let a = c.args in
    let k = length a.residues.now in
    let l = a.text.now in
    let v = rule12 (length l) k in
    let e : v ≡ _ = rule12_passes (length l) k c.if-text-bytes.false in
    let new = output_text a.p a.n (classes_of a.residues.now a.levels.now) a.marks.now in
    output-laid a.p a.n a.residues.now a.levels.now a.marks.now c.requires l c.put_line.new.text
    c.put_classes.new.text c.if-text-bytes.false
    (c.put_line.ensures
    ∙ ap (λ (z : ℤ). laid 0 (line z a.n k c.member_total-roots.result) l) (to_z_pos w64 a.p (omega (arith, c.ranges.p.fits)))
    ∙ ap (λ (roots : ℕ). laid 0 (line (pos a.p) a.n k roots) l)
    (c.member_total-roots.ensures ∙ total-fits a.p a.n a.residues.now a.levels.now a.marks.now c.requires))
    c.put_classes.ensures
    ∙ passed-text v new l e
