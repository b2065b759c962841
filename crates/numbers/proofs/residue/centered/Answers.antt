-- `numbers::residue::centered` meets its contract.
use mathlib.Core.Path.{sym, ◌∙◌}
use native.Mathlib.Omega.{arith}
use mir.Syntax.{w64}
use mir.ValLaws.{to_z_pos, to_z-of_z}
use Rattle.theory.proofs.Signed.Centered.{centered_low, centered_high}
use Rattle.numbers.proofs.Words.{difference, difference-read, difference-read-fits}
use Rattle.numbers.proofs.residue.centered.Goals as goal

pub returns-then-a-q : goal.returns-then-a-q
returns-then-a-q c = to_z_pos w64 c.args.a (omega arith) ∙ sym (centered_low c.args.q c.args.a c.if-a-q.true)

pub returns : goal.returns
returns c =
    let a = c.args.a in
    let q = c.args.q in
    to_z-of_z w64 (difference a q (omega arith) (omega arith)) (difference-read-fits a q (omega arith) (omega arith))
    ∙ difference-read a q (omega arith) (omega arith)
    ∙ sym (centered_high q a c.if-a-q.false)
